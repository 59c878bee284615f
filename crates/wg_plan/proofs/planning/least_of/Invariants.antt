use Rattle.wg_plan.proofs.Sums.{IsLeast}
use Rattle.wg_plan.proofs.planning.least_of.Given as goal

-- the bytes of the units so far
abbrev pub invariant-loop-place : goal.invariant-loop-place
invariant-loop-place l = IsLeast l.shape l.place l.least
