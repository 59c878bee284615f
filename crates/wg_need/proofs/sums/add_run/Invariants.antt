use Rattle.std.proofs.Common.{◌-◌, length, take}
use Rattle.wg_need.proofs.Reaching.{AreAdded, IsRun}
use Rattle.wg_need.proofs.sums.add_run.Given as goal

abbrev pub decreases-loop-at : goal.decreases-loop-at
decreases-loop-at l = length l.outputs - l.at

-- the budget is added to what the run so far reaches
abbrev pub invariant-loop-at : goal.invariant-loop-at
invariant-loop-at l =
    IsRun l.outputs l.budget.number l.fn.from l.at
    × AreAdded l.budget l.start (length l.initial.seen) (take l.at l.outputs) l.initial.needs.items l.seen l.needs.items
