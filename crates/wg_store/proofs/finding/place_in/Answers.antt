use Rattle.std.proofs.Common.{length, refl}
use Rattle.std.proofs.lemmas.Option.{slice_get_read}
use Rattle.wg_store.proofs.Found.{found_here}
use Rattle.wg_store.proofs.finding.place_in.Goals as goal

pub returns-then-item-number-clause-found : goal.returns-then-item-number-clause-found
returns-then-item-number-clause-found c =
    let xs = c.args.items.now in
    let x = c.index-items-place.result in
    let there = slice_get_read xs (length xs) c.loop-place.place x refl c.loop-place-test.true c.index-items-place.is in
    found_here xs c.loop-place.place c.args.number x there c.if-item-number.true c.loop-place.invariant
