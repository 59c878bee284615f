use Rattle.std.proofs.Common.{◌≡◌, drop}
use Rattle.wg_shapes.specs.Places.{outputs_where}
use Rattle.wg_graph_rules.specs.Faults.{first_of}
use Rattle.wg_graph_rules.specs.OutputRules.{is_broken}
use Rattle.wg_graph_rules.proofs.outputs.first_in.Given as goal

abbrev pub invariant-loop-o : goal.invariant-loop-o
invariant-loop-o l = first_of (outputs_where l.typed (is_broken l.typed l.nodes l.rule l.a) l.a (drop l.o-index l.outputs)) ≡ first_of (outputs_where l.typed (is_broken l.typed l.nodes l.rule l.a) l.a l.outputs)
