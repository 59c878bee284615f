use Rattle.wg_plan.proofs.Mosts.{raised_more}
use Rattle.wg_plan.proofs.planning.raise.Goals as goal

pub loop-need-preserved : goal.loop-need-preserved
loop-need-preserved c =
    raised_more c.args.mosts.now c.loop-need.mosts c.args.needs.now c.loop-need.need-index c.max.result (record { unit = 0; records = 0 })
    (rw (← c.loop-need.auto.mosts) at c.requires.sound) c.loop-need-test.true c.max.ensures c.loop-need.invariant
