use Rattle.std.proofs.Common.{◌≡◌, drop}
use Rattle.wg_shapes.specs.ShapeOf.{most_of}
use Rattle.wg_graph.proofs.budgets.most_of.Given as goal

abbrev pub invariant-loop-o : goal.invariant-loop-o
invariant-loop-o l = most_of (drop l.o-index l.outputs) l.budget ≡ most_of l.outputs l.budget
