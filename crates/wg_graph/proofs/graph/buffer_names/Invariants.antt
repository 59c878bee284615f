use Rattle.std.proofs.Common.{◌≡◌, map, take}
use Rattle.wg_shapes.specs.ShapeOf.{buffer_name}
use Rattle.wg_graph.proofs.graph.buffer_names.Given as goal

abbrev pub invariant-loop-b : goal.invariant-loop-b
invariant-loop-b l = l.names ≡ map buffer_name (take l.b-index l.buffers)
