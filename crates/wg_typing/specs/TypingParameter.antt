-- The parameters of a function: values, and in an entry function one input and outputs (DirectX-Specs, Work Graphs, node inputs and outputs).
use Rattle.std.specs.Prelude.{ℕ, suc, Bool, true, false, not, ◌||◌, if◌then◌else◌, List, [], ◌∷◌, ◌++◌, length, Option, Some, None, slice_get}
use Rattle.wg_words.specs.Maybe.{◌>>=◌}
use Rattle.wg_typing.specs.Maybe.{where_true}
use Rattle.wg_typing.specs.Scope.{Context, own_names, declare, named_type, once}
use Rattle.wg_typing.specs.TypingAttributes.{attributes_of, attribute_sites}
use Rattle.wg_typing.specs.TypingHandle.{record_number, object_sites}
use Rattle.wg_typing.specs.Sites.{Sites, nowhere, only, ◌&◌}
use Rattle.wg_typing.specs.Site.{Site, AtType, AtName, AtLimit}
use Rattle.wg_tree.specs.declared.expr.Named.{Named}
use Rattle.wg_tree.specs.declared.expr.TypeName.{TypeName}
use Rattle.wg_tree.specs.declared.stmt.ObjectType.{ObjectType}
use Rattle.wg_tree.specs.declared.stmt.ObjectWord.{ObjectWord}
use Rattle.wg_tree.specs.declared.stmt.ObjectWord.TheVariants as object_word
use Rattle.wg_tree.specs.declared.item.Parameter.{Parameter}
use Rattle.wg_tree.specs.declared.item.ParameterType.{ParameterType}
use Rattle.wg_tree.specs.declared.item.ParameterType.TheVariants as parameter_type
use Rattle.wg_typed.specs.declared.typed.TypedParameter.{TypedParameter}
use Rattle.wg_typed.specs.declared.typed.TypedParameterType.{TypedParameterType}
use Rattle.wg_typed.specs.declared.typed.TypedParameterType.TheVariants as typed_parameter
use Rattle.wg_typing.specs.declared.context.VariableForm.{VariableForm}
use Rattle.wg_typing.specs.declared.scope.Meant.{Meant}
use Rattle.wg_typing.specs.declared.scope.Meant.TheVariants as meant
use Rattle.wg_typing.specs.declared.scope.Object.{Object}
use Rattle.wg_typing.specs.declared.scope.Object.TheVariants as object
use Rattle.wg_typing.specs.declared.scope.Standing.{Standing}
use Rattle.wg_typing.specs.declared.scope.Standing.TheVariants as standing
use Rattle.wg_typing.specs.TypingSystem.{system_in}
use Rattle.wg_typed.specs.declared.typed.TypedEntry.{TypedEntry}
use Rattle.wg_typing.specs.AttributeArguments.{has}
use Rattle.wg_typed.specs.declared.typed.TypedStruct.{TypedStruct}
use Rattle.wg_typing.specs.declared.scope.Sharing.{Sharing}
use Rattle.wg_typing.specs.declared.scope.Sharing.TheVariants as sharing
use Rattle.wg_typing.specs.declared.context.Around.{Around}
use Rattle.wg_typing.specs.declared.context.Around.TheVariants as surrounding

-- what an object's word makes of a parameter of an entry function
pub data Role : Type 0 where
  -- an input: whether it holds several records, whether its words can be changed, and whether they are the record's
  an_input : Bool → Standing → Bool → Role
  an_output : Bool → Role
  no_role : Role

abbrev pub role_of : ObjectWord → Role
role_of object_word.DispatchNodeInputRecord = an_input false standing.Fixed false
role_of object_word.RwDispatchNodeInputRecord = an_input false standing.Own true
role_of object_word.GroupNodeInputRecords = an_input true standing.Fixed false
role_of object_word.RwGroupNodeInputRecords = an_input true standing.Own false
role_of object_word.ThreadNodeInputRecord = an_input false standing.Fixed false
role_of object_word.RwThreadNodeInputRecord = an_input false standing.Own false
role_of object_word.EmptyNodeInput = an_input true standing.Fixed false
role_of object_word.NodeOutput = an_output false
role_of object_word.NodeOutputArray = an_output true
role_of object_word.EmptyNodeOutput = an_output false
role_of object_word.EmptyNodeOutputArray = an_output true
role_of object_word.ThreadNodeOutputRecords = no_role
role_of object_word.GroupNodeOutputRecords = no_role

-- the parameters before: whether one is an input, and how many are outputs
pub record Before : Type 0 where
  pub has_input : Bool
  pub outputs : ℕ

abbrev pub is_input : Role → Bool
is_input (an_input many s shared) = true
is_input (an_output array) = false
is_input no_role = false

abbrev pub is_output : Role → Bool
is_output (an_output array) = true
is_output (an_input many s shared) = false
is_output no_role = false

abbrev pub role_in : ParameterType → Role
role_in (parameter_type.Value of) = no_role
role_in (parameter_type.Object of) = role_of of.word

abbrev pub one_more : ParameterType → Before → Before
one_more of b = record {
  has_input = b.has_input || is_input (role_in of);
  outputs = if is_output (role_in of) then suc b.outputs else b.outputs;
}

-- whether an object may stand as a parameter: in an entry function, one input alone
abbrev pub takes_role : Around → Bool → Role → Bool
takes_role (surrounding.Entry lanes) has_input (an_input many s shared) = not has_input
takes_role (surrounding.Entry lanes) has_input (an_output array) = true
takes_role (surrounding.Entry lanes) has_input no_role = false
takes_role surrounding.Plain has_input role = false
takes_role surrounding.Const has_input role = false
takes_role (surrounding.Attribute allowed) has_input role = false

-- the record type of an object that stands where it may: none where it is broken
pub data HeldRecords : Type 0 where
  empty : HeldRecords
  records : ℕ → HeldRecords
  unsure_records : HeldRecords

abbrev pub holds_if : Option ℕ → HeldRecords
holds_if (Some number) = records number
holds_if None = unsure_records

abbrev pub holds_named : Option TypeName → Option ℕ → HeldRecords
holds_named None number = empty
holds_named (Some of) number = holds_if number

abbrev pub holds : Context → ObjectType → HeldRecords
holds c of = holds_named of.record_type (record_number c of)

abbrev pub is_marked : Option TypedStruct → Bool
is_marked None = false
is_marked (Some s) = has "NodeTrackRWInputSharing" s.attributes

abbrev pub tracked_if : List TypedStruct → Option ℕ → Sharing
tracked_if structs None = sharing.Shared
tracked_if structs (Some number) = if is_marked (slice_get structs number) then sharing.Tracked else sharing.Shared

-- whose the words of an input are
abbrev pub sharing_of : List TypedStruct → Bool → Option ℕ → Sharing
sharing_of structs true record_type = tracked_if structs record_type
sharing_of structs false record_type = sharing.Copied

abbrev pub input_or_output : List TypedStruct → Role → ℕ → Option ℕ → Option Object
input_or_output structs (an_input many s shared) outputs record_type = Some (object.Input many record_type s (sharing_of structs shared record_type))
input_or_output structs (an_output array) outputs record_type = Some (object.Output outputs array record_type)
input_or_output structs no_role outputs record_type = None

-- a parameter's type, and what it means: a value is the variable of the next number
abbrev pub held_parameter : Context → Before → ObjectType → Option ℕ → Option (TypedParameterType × Meant)
held_parameter c b of record_type =
    input_or_output c.structs (role_of of.word) b.outputs record_type >>= (λ o. Some (typed_parameter.Object of.place of.word record_type, meant.Object o))

abbrev pub object_parameter : Context → Before → ObjectType → HeldRecords → Option (TypedParameterType × Meant)
object_parameter c b of empty = held_parameter c b of None
object_parameter c b of (records number) = held_parameter c b of (Some number)
object_parameter c b of unsure_records = None

-- none where it is broken
abbrev pub parameter_of : Context → Before → ParameterType → Option (TypedParameterType × Meant)
parameter_of c b (parameter_type.Value of) =
    named_type c.names of >>= (λ of. Some (typed_parameter.Value of, meant.Variable (length c.variables) of false))
parameter_of c b (parameter_type.Object of) =
    where_true (takes_role c.around b.has_input (role_of of.word)) of >>= (λ of. object_parameter c b of (holds c of))

abbrev pub meant_if : Option (TypedParameterType × Meant) → Meant
meant_if None = meant.Broken
meant_if (Some known) = known.1

-- the variable of a parameter that is no object
abbrev pub parameter_variable : Around → Parameter → Option (TypedParameterType × Meant) → List VariableForm
parameter_variable around p None = []
parameter_variable around p (Some (typed_parameter.Value of, m)) =
    record { of = of; system = system_in around p.direction (typed_parameter.Value of) p.semantic; constant = false; value = None } ∷ []
parameter_variable around p (Some (typed_parameter.Object place word record_type, m)) = []

abbrev pub with_parameter : Before → Parameter → Context → Context
with_parameter b p c =
    once p.name c (record (declare p.name (meant_if (parameter_of c b p.of)) c) { variables = c.variables ++ parameter_variable c.around p (parameter_of c b p.of) })

abbrev pub parameters_after : Before → List Parameter → Context → Context
parameters_after b [] c = c
parameters_after b (p ∷ rest) c = parameters_after (one_more p.of b) rest (with_parameter b p c)

abbrev pub parameter_type_sites : Context → Before → Named → ParameterType → Sites Site
parameter_type_sites c b name (parameter_type.Value of) = only (AtType c of)
parameter_type_sites c b name (parameter_type.Object of) = object_sites c (takes_role c.around b.has_input (role_of of.word)) of name

abbrev pub output_limit : ℕ
output_limit = 64

-- the number of an output that is one more
abbrev pub output_site : Before → Named → ParameterType → Sites Site
output_site b name of = if is_output (role_in of) then only (AtLimit name (suc b.outputs) output_limit) else nowhere

abbrev pub parameters_sites : Before → List Parameter → Context → Sites Site
parameters_sites b [] c = nowhere
parameters_sites b (p ∷ rest) c =
    attribute_sites c p.attributes & parameter_type_sites c b p.name p.of & only (AtName (own_names c) p.name)
    & output_site b p.name p.of & parameters_sites (one_more p.of b) rest (with_parameter b p c)

abbrev pub parameter_tree : Context → Before → Parameter → Option TypedParameter
parameter_tree c b p = parameter_of c b p.of >>= (λ known. Some (record {
  attributes = attributes_of c p.attributes;
  direction = p.direction;
  of = known.0;
  name = p.name;
  semantic = p.semantic;
}))

abbrev pub parameters_trees : Before → List Parameter → Context → Option (List TypedParameter)
parameters_trees b [] c = Some []
parameters_trees b (p ∷ rest) c = do
  first ← parameter_tree c b p
  others ← parameters_trees (one_more p.of b) rest (with_parameter b p c)
  Some (first ∷ others)

-- ---- what makes a function a node

abbrev pub list_first : List ℕ → Option ℕ
list_first [] = None
list_first (x ∷ rest) = Some x

abbrev pub typed_role : TypedParameterType → Role
typed_role (typed_parameter.Value of) = no_role
typed_role (typed_parameter.Object place word record_type) = role_of word

-- the numbers of the parameters of a role, counted from one on
abbrev pub numbered : (Role → Bool) → ℕ → List TypedParameter → List ℕ
numbered test at [] = []
numbered test at (p ∷ rest) = if test (typed_role p.of) then at ∷ numbered test (suc at) rest else numbered test (suc at) rest

-- the lanes of a node, and the numbers of its input and its outputs
abbrev pub entry_of : Around → List TypedParameter → Option TypedEntry
entry_of (surrounding.Entry lanes) parameters = Some (record { lanes = lanes; input = list_first (numbered is_input 0 parameters); outputs = numbered is_output 0 parameters })
entry_of surrounding.Plain parameters = None
entry_of surrounding.Const parameters = None
entry_of (surrounding.Attribute allowed) parameters = None
