use Rattle.std.proofs.Common.{◌≡◌, ◌++◌, drop}
use Rattle.wg_tool.specs.Wiring.{targets_from}
use Rattle.wg_tool.proofs.wiring.targets_of.Given as goal

-- the targets so far, and those of the pairs that are left
abbrev pub invariant-loop-place : goal.invariant-loop-place
invariant-loop-place l = l.targets ++ targets_from l.place (drop l.place l.pairs) ≡ targets_from 0 l.pairs
