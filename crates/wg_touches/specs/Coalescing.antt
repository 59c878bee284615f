-- Which functions are coalescing nodes, by their launch mode (DirectX-Specs, Work Graphs, "NodeLaunch").
use Rattle.std.specs.Prelude.{Bool, true, false, ◌&&◌, is_some}
use Rattle.wg_machine.specs.declared.shape.Kind.{Kind}
use Rattle.wg_machine.specs.declared.shape.Kind.TheVariants as kind
use Rattle.wg_typing.specs.AttributeArguments.{in_mode, is_coalescing, mode_of}
use Rattle.wg_typed.specs.declared.typed.TypedFunction.{TypedFunction}
use Rattle.wg_node_attributes.specs.declared.attributes.NodeAttrs.{NodeAttrs}

abbrev pub coalesces : TypedFunction → Bool
coalesces f = is_some f.entry && in_mode is_coalescing (mode_of f.attributes)

abbrev pub is_coalescing_kind : Kind → Bool
is_coalescing_kind kind.Thread = false
is_coalescing_kind (kind.Coalescing most) = true
is_coalescing_kind (kind.Grid x y z) = false
is_coalescing_kind (kind.GridField first parts x y z) = false

abbrev pub node_coalesces : NodeAttrs → Bool
node_coalesces a = is_coalescing_kind a.kind
