-- The sites of the rules of attributes: each attribute at its position, each node, and each parameter of a node (DirectX-Specs, Work Graphs,
-- shader function attributes, node inputs and node outputs).
use Rattle.std.specs.Prelude.{ℕ, ◌+◌, Bool, true, false, if◌then◌else◌, List, [], ◌∷◌, ◌++◌, map, slice_get, Option, Some, None, unwrap_or}
use Rattle.wg_typing.specs.Maybe.{where_true}
use Rattle.wg_typing.specs.Sites.{Sites, nowhere, only, ◌&◌, all_sites}
use Rattle.wg_typing.specs.AttributeArguments.{mode_of, is_entry}
use Rattle.wg_typing.specs.declared.attribute.Mode.{Mode}
use Rattle.wg_tree.specs.declared.stmt.ObjectWord.{ObjectWord}
use Rattle.wg_tree.specs.declared.stmt.ObjectWord.TheVariants as object
use Rattle.wg_typed.specs.declared.typed.Typed.{Typed}
use Rattle.wg_typed.specs.declared.typed.TypedField.{TypedField}
use Rattle.wg_typed.specs.declared.typed.TypedFunction.{TypedFunction}
use Rattle.wg_typed.specs.declared.typed.TypedParameter.{TypedParameter}
use Rattle.wg_typed.specs.declared.typed.TypedParameterType.{TypedParameterType}
use Rattle.wg_typed.specs.declared.typed.TypedParameterType.TheVariants as parameter_type
use Rattle.wg_typed.specs.declared.typed.TypedStruct.{TypedStruct}
use Rattle.wg_typed.specs.declared.typed_stmt.TypedAttribute.{TypedAttribute}
use Rattle.wg_typed.specs.declared.typed_stmt.TypedStmt.{TypedStmt}
use Rattle.wg_typed.specs.declared.typed_stmt.TypedStmt.TheFolds.{fold-TypedStmt}
use Rattle.wg_typed.specs.declared.typed_stmt.TypedStmt.TheOpen.{TypedStmt-F}
use Rattle.wg_typing.specs.declared.attribute.ParameterKind.{ParameterKind}
use Rattle.wg_typing.specs.declared.attribute.ParameterKind.TheVariants.{Value, Input, Output, Handle}

-- the parameters of a node, and the number of the one that is meant
pub record Own : Type 0 where
  pub parameters : List TypedParameter
  pub number : ℕ

-- where an attribute stands
pub data Position : Type 0 where
  on_struct : Position
  -- an entry function, of this launch mode
  on_node : Option Mode → Position
  on_plain : Position
  -- a parameter of a node, by its kind
  on_input : Option Mode → Position
  on_output : Own → Position
  on_output_array : Own → Position
  -- any other parameter
  on_value : Position
  -- `if`, `for` or `while`
  on_branch : Position

pub data AttributeSite : Type 0 where
  -- an attribute, after these of the same list
  AtAttribute : Position → List TypedAttribute → TypedAttribute → AttributeSite
  -- an entry function, and the fields of its input's record type
  AtNode : TypedFunction → List TypedField → AttributeSite
  -- an input, in the node's launch mode
  AtInput : Option Mode → ObjectWord → TypedParameter → AttributeSite
  -- an output, and whether it is an array
  AtOutput : Bool → TypedParameter → AttributeSite
  -- a parameter of a node that is no object, in the node's launch mode
  AtValue : Option Mode → TypedParameter → AttributeSite

-- ---- kinds of parameters

abbrev pub object_kind : ObjectWord → ParameterKind
object_kind object.DispatchNodeInputRecord = Input object.DispatchNodeInputRecord
object_kind object.RwDispatchNodeInputRecord = Input object.RwDispatchNodeInputRecord
object_kind object.GroupNodeInputRecords = Input object.GroupNodeInputRecords
object_kind object.RwGroupNodeInputRecords = Input object.RwGroupNodeInputRecords
object_kind object.ThreadNodeInputRecord = Input object.ThreadNodeInputRecord
object_kind object.RwThreadNodeInputRecord = Input object.RwThreadNodeInputRecord
object_kind object.EmptyNodeInput = Input object.EmptyNodeInput
object_kind object.NodeOutput = Output false
object_kind object.NodeOutputArray = Output true
object_kind object.EmptyNodeOutput = Output false
object_kind object.EmptyNodeOutputArray = Output true
object_kind object.ThreadNodeOutputRecords = Handle
object_kind object.GroupNodeOutputRecords = Handle

abbrev pub kind_of : TypedParameterType → ParameterKind
kind_of (parameter_type.Value of) = Value
kind_of (parameter_type.Object place word record_type) = object_kind word

-- ---- the fields of a node's input record

abbrev pub fields_at : Option TypedStruct → List TypedField
fields_at None = []
fields_at (Some s) = s.fields

abbrev pub fields_of : List TypedStruct → Option ℕ → List TypedField
fields_of structs None = []
fields_of structs (Some number) = fields_at (slice_get structs number)

abbrev pub is_input : ParameterKind → Bool
is_input Value = false
is_input (Input word) = true
is_input (Output array) = false
is_input Handle = false

-- the fields of the record type, where this is an input
abbrev pub input_fields : List TypedStruct → TypedParameterType → Option (List TypedField)
input_fields structs (parameter_type.Value of) = None
input_fields structs (parameter_type.Object place word record_type) = where_true (is_input (object_kind word)) (fields_of structs record_type)

-- the fields of the first input's record type; a node without an input has records without fields
abbrev pub record_fields : List TypedStruct → List TypedParameter → List TypedField
record_fields structs [] = []
record_fields structs (p ∷ rest) = unwrap_or (input_fields structs p.of) (record_fields structs rest)

-- ---- sites

abbrev pub attribute_sites : Position → List TypedAttribute → List TypedAttribute → Sites AttributeSite
attribute_sites position before [] = nowhere
attribute_sites position before (a ∷ rest) = only (AtAttribute position before a) & attribute_sites position (before ++ a ∷ []) rest

abbrev pub sites_at : Position → List TypedAttribute → Sites AttributeSite
sites_at position attributes = attribute_sites position [] attributes

abbrev pub struct_sites : TypedStruct → Sites AttributeSite
struct_sites s = sites_at on_struct s.attributes

abbrev pub stmt_sites_step : TypedStmt-F (Sites AttributeSite) → Sites AttributeSite
stmt_sites_step (TypedStmt-F.Block body) = all_sites body
stmt_sites_step TypedStmt-F.Empty = nowhere
stmt_sites_step (TypedStmt-F.Declare declared) = nowhere
stmt_sites_step (TypedStmt-F.Request handle group output element amount) = nowhere
stmt_sites_step (TypedStmt-F.Increment group output element amount) = nowhere
stmt_sites_step (TypedStmt-F.Complete handle) = nowhere
stmt_sites_step (TypedStmt-F.Barrier syncs) = nowhere
stmt_sites_step (TypedStmt-F.Step step) = nowhere
stmt_sites_step TypedStmt-F.Break = nowhere
stmt_sites_step TypedStmt-F.Continue = nowhere
stmt_sites_step (TypedStmt-F.Return value) = nowhere
stmt_sites_step (TypedStmt-F.If attributes collective test first None) = sites_at on_branch attributes & first
stmt_sites_step (TypedStmt-F.If attributes collective test first (Some other)) = sites_at on_branch attributes & first & other
stmt_sites_step (TypedStmt-F.While attributes test body) = sites_at on_branch attributes & body
stmt_sites_step (TypedStmt-F.For attributes start test steps body) = sites_at on_branch attributes & body

abbrev pub stmt_sites : TypedStmt → Sites AttributeSite
stmt_sites = fold-TypedStmt (Sites AttributeSite) stmt_sites_step

abbrev pub body_sites : List TypedStmt → Sites AttributeSite
body_sites body = all_sites (map stmt_sites body)

-- a parameter of a node: its attributes, and what it must have itself
abbrev pub parameter_sites : Option Mode → Own → TypedParameter → ParameterKind → Sites AttributeSite
parameter_sites mode here p Value = sites_at on_value p.attributes & only (AtValue mode p)
parameter_sites mode here p (Input word) = sites_at (on_input mode) p.attributes & only (AtInput mode word p)
parameter_sites mode here p (Output false) = sites_at (on_output here) p.attributes & only (AtOutput false p)
parameter_sites mode here p (Output true) = sites_at (on_output_array here) p.attributes & only (AtOutput true p)
parameter_sites mode here p Handle = sites_at on_value p.attributes

-- the parameters of a node from a number on
abbrev pub parameters_sites : Option Mode → List TypedParameter → ℕ → List TypedParameter → Sites AttributeSite
parameters_sites mode all number [] = nowhere
parameters_sites mode all number (p ∷ rest) =
    parameter_sites mode (record { parameters = all; number = number }) p (kind_of p.of) & parameters_sites mode all (number + 1) rest

abbrev pub node_sites : List TypedStruct → TypedFunction → Sites AttributeSite
node_sites structs f =
    sites_at (on_node (mode_of f.attributes)) f.attributes
    & only (AtNode f (record_fields structs f.parameters))
    & parameters_sites (mode_of f.attributes) f.parameters 0 f.parameters
    & body_sites f.body

abbrev pub plain_parameter_sites : TypedParameter → Sites AttributeSite
plain_parameter_sites p = sites_at on_value p.attributes

abbrev pub plain_sites : TypedFunction → Sites AttributeSite
plain_sites f = sites_at on_plain f.attributes & all_sites (map plain_parameter_sites f.parameters) & body_sites f.body

-- Only `Shader("node")` makes a function a node.
abbrev pub function_sites : List TypedStruct → TypedFunction → Sites AttributeSite
function_sites structs f = if is_entry f.attributes then node_sites structs f else plain_sites f

abbrev pub sites_of : Typed → Sites AttributeSite
sites_of typed = all_sites (map struct_sites typed.structs) & all_sites (map (function_sites typed.structs) typed.functions)
