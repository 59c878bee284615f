use Rattle.std.proofs.Common.{◌≡◌, ◌++◌, ◌+◌, drop}
use Rattle.wg_lowered.specs.Where.{total}
use Rattle.wg_lower_expressions.specs.Begins.{begins}
use Rattle.wg_lower_expressions.proofs.names.lay_out.Given as goal

abbrev pub invariant-loop-size : goal.invariant-loop-size
invariant-loop-size l = (l.list ++ begins l.at (drop l.size-index l.size-items) ≡ begins 0 l.size-items) × (l.at + total (drop l.size-index l.size-items) ≡ total l.size-items)
