use Rattle.std.proofs.Common.{◌∙◌, length, refl, sym, arith}
use Rattle.std.proofs.lemmas.Option.{slice_get_read}
use Rattle.wg_entries.proofs.Taking.{ends_at, past_all, past_more, waits_at}
use Rattle.wg_entries.proofs.waiting.next_waiting.Goals as goal

pub returns-then-waits-clause-waits : goal.returns-then-waits-clause-waits
returns-then-waits-clause-waits c =
    let xs = c.args.items.now in
    let x = c.index-items-place.result in
    let there = slice_get_read xs (length xs) c.loop-place.place x refl c.loop-place-test.true c.index-items-place.is in
    waits_at xs c.loop-place.place x there (sym c.waits.ensures ∙ c.if-waits.true)

pub loop-place-preserved : goal.loop-place-preserved
loop-place-preserved c =
    let xs = c.args.items.now in
    let x = c.index-items-place.result in
    let there = slice_get_read xs (length xs) c.loop-place.place x refl c.loop-place-test.true c.index-items-place.is in
    past_more c.loop-place.place xs x there (sym c.waits.ensures ∙ c.if-waits.false) c.loop-place.invariant

pub returns-clause-past : goal.returns-clause-past
returns-clause-past c = past_all c.loop-place.place c.args.items.now (omega (arith, c.loop-place-test.false)) c.loop-place.invariant

pub returns-clause-waits : goal.returns-clause-waits
returns-clause-waits c = ends_at c.args.items.now (length c.args.items.now) (omega arith)
