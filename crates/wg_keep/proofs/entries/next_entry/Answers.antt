use Rattle.std.proofs.Common.{◌∙◌, length, refl, sym, arith}
use Rattle.std.proofs.lemmas.Option.{slice_get_read}
use Rattle.wg_keep.proofs.Openings.{passed_by, past_all}
use Rattle.wg_keep.proofs.entries.next_entry.Goals as goal

pub loop-place-preserved : goal.loop-place-preserved
loop-place-preserved c =
    let xs = c.args.entries.now in
    let s = c.index-entries-place.result in
    let there = slice_get_read xs (length xs) c.loop-place.place s refl c.loop-place-test.true c.index-entries-place.is in
    passed_by c.args.shape.now c.loop-place.place xs s there (sym c.has_group.ensures ∙ c.if-has_group.false) ∙ c.loop-place.invariant

pub returns-clause-group : goal.returns-clause-group
returns-clause-group c = past_all c.args.shape.now (length c.args.entries.now) c.args.entries.now (omega arith)
