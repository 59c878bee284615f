use Rattle.std.proofs.Common.{◌≡◌, ◌++◌, drop, map}
use Rattle.wg_node_attributes.specs.Budgets.{owners}
use Rattle.wg_node_attributes.specs.Nodes.{output_said, outputs_said}
use Rattle.wg_node_reading.proofs.nodes.outputs_said.Given as goal

abbrev pub invariant-loop-number : goal.invariant-loop-number
invariant-loop-number l = l.list ++ map (output_said l.parameters (owners l.parameters l.outputs)) (drop l.number-index l.outputs) ≡ outputs_said l.parameters l.outputs
