use Rattle.std.proofs.Common.{length}
use Rattle.wg_shapes.specs.Naming.{targets}
use Rattle.wg_chains.proofs.Squares.{RowsFilled}
use Rattle.wg_graph_rules.proofs.links.links.Given as goal

abbrev pub invariant-loop-n : goal.invariant-loop-n
invariant-loop-n l = RowsFilled (targets l.nodes) (length l.nodes) l.n l.rows
