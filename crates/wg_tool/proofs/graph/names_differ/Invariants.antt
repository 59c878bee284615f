use Rattle.std.proofs.Common.{◌≡◌, drop}
use Rattle.wg_tool.specs.FirstForm.{names_differ}
use Rattle.wg_tool.proofs.graph.names_differ.Given as goal

-- the pairs that are left tell
abbrev pub invariant-loop-place : goal.invariant-loop-place
invariant-loop-place l = names_differ (drop l.place l.pairs) ≡ names_differ l.pairs
