use Rattle.std.proofs.Common.{◌≡◌, map}
use Rattle.std.specs.List.{range_with_len}
use Rattle.wg_shapes.specs.ShapeOf.{most_of}
use Rattle.wg_graph.proofs.budgets.budgets_of.Given as goal

abbrev pub invariant-loop-budget : goal.invariant-loop-budget
invariant-loop-budget l = l.budgets ≡ map (most_of l.outputs) (range_with_len 0 l.budget)
