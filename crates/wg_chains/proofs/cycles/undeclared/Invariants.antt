use Rattle.std.proofs.Common.{length}
use Rattle.wg_shapes.specs.Cycle.{joins}
use Rattle.wg_chains.proofs.Squares.{RowsFilled}
use Rattle.wg_chains.proofs.cycles.undeclared.Given as goal

abbrev pub invariant-loop-n : goal.invariant-loop-n
invariant-loop-n l = RowsFilled (joins l.nodes) (length l.nodes) l.n l.next
