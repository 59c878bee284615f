-- The kind of a node: its launch mode, with the records of a coalescing launch, or the grid of a broadcasting one (DirectX-Specs, Work Graphs,
-- "NodeLaunch", "NodeDispatchGrid", "NodeMaxDispatchGrid", "SV_DispatchGrid", "MaxRecords").
use Rattle.std.specs.Prelude.{ℕ, ◌+◌, if◌then◌else◌, List, [], ◌∷◌, codes, slice_get, Option, Some, None}
use Rattle.wg_machine.specs.declared.shape.Kind.{Kind}
use Rattle.wg_machine.specs.declared.shape.Kind.TheVariants as kind
use Rattle.wg_typing.specs.AttributeArguments.{mode_of, has}
use Rattle.wg_typing.specs.AttributeSites.{fields_at}
use Rattle.wg_typing.specs.AttributeSystem.{is_grid_field}
use Rattle.wg_typing.specs.declared.attribute.Mode.{Mode}
use Rattle.wg_typing.specs.declared.attribute.Mode.TheVariants.{Broadcasting, Coalescing, Thread}
use Rattle.wg_typed.specs.Layout.{field_range}
use Rattle.wg_typed.specs.declared.typed.TypedField.{TypedField}
use Rattle.wg_typed.specs.declared.typed.TypedParameter.{TypedParameter}
use Rattle.wg_typed.specs.declared.typed.TypedStruct.{TypedStruct}
use Rattle.wg_typed.specs.declared.typed_stmt.TypedAttribute.{TypedAttribute}
use Rattle.wg_typed.specs.declared.types.TypeTree.{TypeTree}
use Rattle.wg_typed.specs.declared.types.TypeTree.TheVariants as type
use Rattle.wg_node_attributes.specs.Axes.{grid_said}
use Rattle.wg_node_attributes.specs.Numbers.{count_said}
use Rattle.wg_node_attributes.specs.Parameters.{input_attributes, record_at}
use Rattle.wg_node_attributes.specs.declared.attributes.Axes.{Axes}
use Rattle.wg_node_attributes.specs.declared.attributes.GridField.{GridField}

-- how many directions a field of the type has; a `uint` has one
abbrev pub parts_of : TypeTree → ℕ
parts_of (type.Scalar of) = 1
parts_of (type.Vector of size) = size
parts_of (type.Struct number) = 1
parts_of (type.Array of size) = 1

-- the first field with a grid counts
abbrev pub grid_field_from : ℕ → List TypedField → Option GridField
grid_field_from number [] = None
grid_field_from number (f ∷ rest) =
    if is_grid_field f then Some (record { field = number; parts = parts_of f.of }) else grid_field_from (number + 1) rest

abbrev pub fixed_grid : Axes → Kind
fixed_grid most = kind.Grid most.x most.y most.z

-- the greatest grid, where the record has such a field
abbrev pub field_grid : List TypedStruct → ℕ → Axes → Option GridField → Kind
field_grid structs number most None = fixed_grid most
field_grid structs number most (Some g) = kind.GridField (field_range structs (type.Struct number) g.field).from g.parts most.x most.y most.z

abbrev pub greatest_grid : List TypedStruct → Option ℕ → Axes → Kind
greatest_grid structs None most = fixed_grid most
greatest_grid structs (Some number) most = field_grid structs number most (grid_field_from 0 (fields_at (slice_get structs number)))

abbrev pub grid_kind : List TypedStruct → Option ℕ → List TypedAttribute → Kind
grid_kind structs record_type attributes =
    if has "NodeMaxDispatchGrid" attributes then greatest_grid structs record_type (grid_said (codes "NodeMaxDispatchGrid") attributes)
    else fixed_grid (grid_said (codes "NodeDispatchGrid") attributes)

-- the records of one launch are those that the input bounds, and 1 where it does not; own
abbrev pub coalesced : List TypedAttribute → Kind
coalesced attributes = kind.Coalescing (count_said 256 (codes "MaxRecords") attributes)

abbrev pub kind_in : List TypedStruct → List TypedParameter → Option ℕ → List TypedAttribute → Option Mode → Kind
kind_in structs parameters input attributes None = kind.Thread
kind_in structs parameters input attributes (Some Broadcasting) = grid_kind structs (record_at parameters input) attributes
kind_in structs parameters input attributes (Some Coalescing) = coalesced (input_attributes parameters input)
kind_in structs parameters input attributes (Some Thread) = kind.Thread

abbrev pub kind_said : List TypedStruct → List TypedParameter → Option ℕ → List TypedAttribute → Kind
kind_said structs parameters input attributes = kind_in structs parameters input attributes (mode_of attributes)
