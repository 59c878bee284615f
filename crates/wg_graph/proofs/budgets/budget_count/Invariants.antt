use Rattle.std.proofs.Common.{◌≡◌, max, drop}
use Rattle.wg_shapes.specs.ShapeOf.{budget_count}
use Rattle.wg_graph.proofs.budgets.budget_count.Given as goal

abbrev pub invariant-loop-o : goal.invariant-loop-o
invariant-loop-o l = max l.count (budget_count (drop l.o-index l.outputs)) ≡ budget_count l.outputs
