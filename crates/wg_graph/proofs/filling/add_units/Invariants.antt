use Rattle.wg_graph.proofs.Fullness.{Levelled}
use Rattle.wg_graph.proofs.filling.add_units.Given as goal

abbrev pub invariant-loop-left : goal.invariant-loop-left
invariant-loop-left l = Levelled l.typed l.nodes l.n l.fn.units l.left l.units

abbrev pub decreases-loop-left : goal.decreases-loop-left
decreases-loop-left l = l.left
