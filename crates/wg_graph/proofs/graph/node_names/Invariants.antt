use Rattle.std.proofs.Common.{◌≡◌, map, take}
use Rattle.wg_shapes.specs.ShapeOf.{node_name}
use Rattle.wg_graph.proofs.graph.node_names.Given as goal

abbrev pub invariant-loop-a : goal.invariant-loop-a
invariant-loop-a l = l.names ≡ map node_name (take l.a-index l.nodes)
