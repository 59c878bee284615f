use Rattle.std.proofs.Common.{◌≡◌, ◌∙◌, List, ℕ, length, refl, sym, ap}
use Rattle.std.specs.Prelude.{slice_get, slice_index, Some}
use Rattle.std.proofs.lemmas.Option.{slice_get_read, slice_get_past}
use Rattle.wg_state.specs.WordLists.{list_at}
use Rattle.wg_grants.proofs.Tables.{span_within, items_found, items_none}
use Rattle.wg_grants.proofs.rows.word_in.Goals as goal

pub row_word-requires : goal.row_word-requires
row_word-requires c =
    let rows = c.args.rows.now in
    let there : slice_get rows c.args.grant ≡ Some c.in-Some.row.now = slice_get_read rows (length rows) c.args.grant c.in-Some.row.now refl c.in-Some.ensures.lookup.3.0 c.in-Some.ensures.lookup.1 in
    span_within rows (length c.args.records.now) c.args.grant c.in-Some.row.now c.requires there

pub returns-in-Some : goal.returns-in-Some
returns-in-Some c =
    let rows = c.args.rows.now in
    let there : slice_get rows c.args.grant ≡ Some c.in-Some.row.now = slice_get_read rows (length rows) c.args.grant c.in-Some.row.now refl c.in-Some.ensures.lookup.3.0 c.in-Some.ensures.lookup.1 in
    c.row_word.ensures ∙ sym (ap (λ (l : List (List ℕ)). slice_index (list_at l c.args.index) c.args.at) (items_found rows c.args.records.now c.args.grant c.in-Some.row.now there))

pub returns-in-None : goal.returns-in-None
returns-in-None c =
    let rows = c.args.rows.now in
    sym (ap (λ (l : List (List ℕ)). slice_index (list_at l c.args.index) c.args.at) (items_none rows c.args.records.now c.args.grant (slice_get_past rows c.args.grant c.in-None.ensures.lookup.3)))
