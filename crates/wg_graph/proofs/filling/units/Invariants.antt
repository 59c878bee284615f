use Rattle.wg_graph.proofs.Fullness.{Unrolled}
use Rattle.wg_graph.proofs.filling.units.Given as goal

abbrev pub invariant-loop-n : goal.invariant-loop-n
invariant-loop-n l = Unrolled l.typed l.nodes l.n l.units
