use Rattle.std.proofs.Common.{◌∙◌, ap, map}
use Rattle.wg_shapes.specs.ShapeOf.{buffer_name}
use Rattle.wg_graph.proofs.Fullness.{right_at}
use Rattle.wg_graph.proofs.graph.shape_of.Goals as goal

pub returns : goal.returns
returns c = record {
  nodes_are = c.in_ok-names.ensures;
  unrolling = c.in_ok-units.ensures.places;
  units_are = right_at c.args.typed.now c.args.nodes.now c.in_ok-units.units c.in_ok-units.ensures.places c.in_ok-units.ensures.right;
  buffers_are = c.in_ok-buffers.ensures ∙ ap (map buffer_name) c.as_slice.ensures;
}
