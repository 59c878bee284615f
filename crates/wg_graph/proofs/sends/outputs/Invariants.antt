use Rattle.wg_graph.proofs.Fullness.{FirstOutputs}
use Rattle.wg_graph.proofs.sends.outputs.Given as goal

abbrev pub invariant-loop-number : goal.invariant-loop-number
invariant-loop-number l = FirstOutputs l.typed l.nodes l.n l.level l.number l.all
