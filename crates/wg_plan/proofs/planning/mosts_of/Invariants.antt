use Rattle.std.proofs.Common.{length, take}
use Rattle.wg_plan.proofs.Mosts.{AreMosts}
use Rattle.wg_plan.proofs.planning.mosts_of.Given as goal

-- the greatest needs of the units whose rows were looked at
abbrev pub invariant-loop-place : goal.invariant-loop-place
invariant-loop-place l = AreMosts (take l.place l.shape.units) (length l.shape.units) l.mosts.items
