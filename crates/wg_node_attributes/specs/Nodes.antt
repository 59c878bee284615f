-- What the attributes of a text say of its nodes and their outputs (DirectX-Specs, Work Graphs, shader function attributes and node output
-- attributes). Where a text breaks a rule of attributes nothing is read from it.
use Rattle.std.specs.Prelude.{ℕ, ◌+◌, Bool, if◌then◌else◌, List, [], ◌∷◌, ◌++◌, codes, map, Option, Some, None}
use Rattle.wg_typing.specs.AttributeArguments.{has}
use Rattle.wg_typed.specs.declared.typed.Typed.{Typed}
use Rattle.wg_typed.specs.declared.typed.TypedEntry.{TypedEntry}
use Rattle.wg_typed.specs.declared.typed.TypedFunction.{TypedFunction}
use Rattle.wg_typed.specs.declared.typed.TypedParameter.{TypedParameter}
use Rattle.wg_typed.specs.declared.typed.TypedStruct.{TypedStruct}
use Rattle.wg_typed.specs.declared.typed_stmt.TypedAttribute.{TypedAttribute}
use Rattle.wg_node_attributes.specs.Axes.{threads_said}
use Rattle.wg_node_attributes.specs.Budgets.{owner_of, owners, place_in, most_at}
use Rattle.wg_node_attributes.specs.Ids.{id_index, id_name, output_index}
use Rattle.wg_node_attributes.specs.Kinds.{kind_said}
use Rattle.wg_node_attributes.specs.Numbers.{number_said, count_said}
use Rattle.wg_node_attributes.specs.Parameters.{attributes_at, name_at, is_array_at}
use Rattle.wg_node_attributes.specs.declared.attributes.Axes.{Axes}
use Rattle.wg_node_attributes.specs.declared.attributes.NodeAttrs.{NodeAttrs}
use Rattle.wg_node_attributes.specs.declared.attributes.OutputAttr.{OutputAttr}

-- the nodes to which an output sends: those of an array, or one
abbrev pub elements_said : Bool → List TypedAttribute → ℕ
elements_said array attributes = if array then count_said 256 (codes "NodeArraySize") attributes else 1

-- the output that is the parameter of a number, where these own the budgets of the node
abbrev pub output_said : List TypedParameter → List ℕ → ℕ → OutputAttr
output_said parameters budgets number = record {
  param = number;
  budget = place_in budgets (owner_of parameters number);
  most = most_at parameters (owner_of parameters number);
  name = id_name (name_at parameters number) (attributes_at parameters number);
  index = output_index (is_array_at parameters number) (attributes_at parameters number);
  elements = elements_said (is_array_at parameters number) (attributes_at parameters number);
  array = is_array_at parameters number;
  sparse = has "AllowSparseNodes" (attributes_at parameters number);
}

abbrev pub outputs_said : List TypedParameter → List ℕ → List OutputAttr
outputs_said parameters outputs = map (output_said parameters (owners parameters outputs)) outputs

abbrev pub listed_axes : Axes → List ℕ
listed_axes a = a.x ∷ a.y ∷ a.z ∷ []

-- a node by the number of its function
abbrev pub node_said : List TypedStruct → ℕ → TypedFunction → TypedEntry → NodeAttrs
node_said structs number f e = record {
  function = number;
  name = id_name f.name.name f.attributes;
  index = id_index f.attributes;
  kind = kind_said structs f.parameters e.input f.attributes;
  threads = listed_axes (threads_said f.attributes);
  marked = has "NodeIsProgramEntry" f.attributes;
  recursion = number_said 1 31 (codes "NodeMaxRecursionDepth") f.attributes;
  input = e.input;
  outputs = outputs_said f.parameters e.outputs;
}

abbrev pub node_if : List TypedStruct → ℕ → TypedFunction → Option TypedEntry → List NodeAttrs
node_if structs number f None = []
node_if structs number f (Some e) = node_said structs number f e ∷ []

-- the nodes among functions that have the numbers from one on
abbrev pub nodes_from : List TypedStruct → ℕ → List TypedFunction → List NodeAttrs
nodes_from structs number [] = []
nodes_from structs number (f ∷ rest) = node_if structs number f f.entry ++ nodes_from structs (number + 1) rest

abbrev pub nodes_said : Typed → List NodeAttrs
nodes_said typed = nodes_from typed.structs 0 typed.functions
