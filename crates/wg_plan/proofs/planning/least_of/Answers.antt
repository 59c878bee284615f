use Rattle.std.proofs.Common.{arith}
use Rattle.wg_plan.proofs.Small.{small_item}
use Rattle.wg_plan.proofs.Sums.{least_more}
use Rattle.wg_plan.proofs.planning.least_of.Goals as goal

pub loop-place-preserved : goal.loop-place-preserved
loop-place-preserved c =
    least_more c.args.shape.now c.as_slice-unit-items.result.now c.args.mosts.now c.loop-place.place c.loop-place.least c.from.result c.from-in-loop-place.result c.unit-item.result
    c.as_slice-unit-items.ensures c.requires.count c.requires.mosts c.requires.few (omega arith) c.unit-item.is
    (small_item c.args.shape.now c.as_slice-unit-items.result.now c.loop-place.place c.unit-item.result c.requires.small c.as_slice-unit-items.ensures (omega arith) c.unit-item.is)
    c.from.ensures c.from-in-loop-place.ensures c.loop-place.invariant
