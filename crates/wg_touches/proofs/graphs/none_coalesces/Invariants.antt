use Rattle.std.proofs.Common.{◌≡◌, drop, not}
use Rattle.std.specs.List.{list_all}
use Rattle.wg_node_attributes.specs.declared.attributes.NodeAttrs.{NodeAttrs}
use Rattle.wg_touches.specs.Coalescing.{node_coalesces}
use Rattle.wg_touches.proofs.graphs.none_coalesces.Given as goal

abbrev pub invariant-loop-node : goal.invariant-loop-node
invariant-loop-node l = list_all (λ (n : NodeAttrs). not (node_coalesces n)) (drop l.node-index l.attrs) ≡ list_all (λ (n : NodeAttrs). not (node_coalesces n)) l.attrs
