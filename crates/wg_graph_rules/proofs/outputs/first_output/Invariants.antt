use Rattle.std.proofs.Common.{◌≡◌, drop}
use Rattle.wg_shapes.specs.Places.{all_outputs_where}
use Rattle.wg_graph_rules.specs.Faults.{first_of}
use Rattle.wg_graph_rules.specs.OutputRules.{is_broken}
use Rattle.wg_graph_rules.proofs.outputs.first_output.Given as goal

abbrev pub invariant-loop-a : goal.invariant-loop-a
invariant-loop-a l = first_of (all_outputs_where l.typed (is_broken l.typed l.nodes l.rule) (drop l.a-index l.nodes)) ≡ first_of (all_outputs_where l.typed (is_broken l.typed l.nodes l.rule) l.nodes)
