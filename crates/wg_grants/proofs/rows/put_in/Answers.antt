use Rattle.std.proofs.Common.{◌≡◌, ◌∙◌, length, refl, ap}
use Rattle.std.specs.Prelude.{slice_get, Some}
use Rattle.std.proofs.lemmas.Option.{slice_get_read}
use Rattle.wg_grants.specs.Rows.{grants_of}
use Rattle.wg_grants.proofs.Tables.{span_within, put_there}
use Rattle.wg_grants.proofs.rows.put_in.Goals as goal

pub put_row-requires : goal.put_row-requires
put_row-requires c =
    let rows = c.args.rows.now in
    let there : slice_get rows c.args.grant ≡ Some c.in-Some.row.now = slice_get_read rows (length rows) c.args.grant c.in-Some.row.now refl c.in-Some.ensures.lookup.3.0 c.in-Some.ensures.lookup.1 in
    span_within rows (length c.args.records.now) c.args.grant c.in-Some.row.now c.requires there

pub returns-in-Some-clause-grants : goal.returns-in-Some-clause-grants
returns-in-Some-clause-grants c =
    let rows = c.args.rows.now in
    let there : slice_get rows c.args.grant ≡ Some c.in-Some.row.now = slice_get_read rows (length rows) c.args.grant c.in-Some.row.now refl c.in-Some.ensures.lookup.3.0 c.in-Some.ensures.lookup.1 in
    ap (grants_of rows) c.put_row.ensures ∙ put_there rows c.args.records.now c.args.grant c.args.index c.args.at c.args.value c.requires c.in-Some.row.now there
