use Rattle.std.proofs.Common.{◌≡◌, drop}
use Rattle.wg_tool.specs.FirstForm.{targets_are_later}
use Rattle.wg_tool.proofs.graph.targets_are_later.Given as goal

-- the pairs that are left tell
abbrev pub invariant-loop-place : goal.invariant-loop-place
invariant-loop-place l = targets_are_later (drop l.place l.pairs) ≡ targets_are_later l.pairs
