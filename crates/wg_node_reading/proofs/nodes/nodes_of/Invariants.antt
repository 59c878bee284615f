use Rattle.std.proofs.Common.{◌≡◌, ◌++◌, drop}
use Rattle.wg_node_attributes.specs.Nodes.{nodes_from}
use Rattle.wg_node_reading.proofs.nodes.nodes_of.Given as goal

abbrev pub invariant-loop-f : goal.invariant-loop-f
invariant-loop-f l = l.nodes ++ nodes_from l.structs l.number (drop l.f-index l.functions) ≡ nodes_from l.structs 0 l.functions
