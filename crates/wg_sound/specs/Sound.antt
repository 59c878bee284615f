-- What the typed form of a text keeps to: each number names something of the type that stands there, each operand has the type that its
-- operator takes, and collective statements stand where all lanes come together. Code is made from this.
use Rattle.std.specs.Prelude.{◌≡◌, ◌≤◌, ℕ, nat_le, Bool, true, ◌&&◌, List, length, sum_by, slice_get, Some, None, [], ◌∷◌, ◌++◌, map}
use Rattle.wg_typed.specs.Layout.{words_of, field_types, AreInOrder}
use Rattle.wg_typing.specs.TypingDeclared.{type_limit}
use Rattle.wg_typing.specs.TypingBuffer.{buffer_limit}
use Rattle.wg_typing.specs.TypingShared.{shared_limit}
use Rattle.wg_typing.specs.TypingParameter.{output_limit, is_input, is_output, list_first, numbered}
use Rattle.wg_facts.specs.Tests.{test, if_any, every}
use Rattle.wg_sound.specs.StandingTypes.{stands_in}
use Rattle.wg_sound.specs.Room.{Room, is_node, outputs_of, output_at}
use Rattle.wg_sound.specs.Placement.{body_placed}
use Rattle.wg_sound.specs.SoundStmt.{is_sent, body_sound}
use Rattle.wg_typed.specs.declared.types.TypeTree.{TypeTree}
use Rattle.wg_typed.specs.declared.types.TypeTree.TheVariants as type
use Rattle.wg_typed.specs.declared.typed.Typed.{Typed}
use Rattle.wg_typed.specs.declared.typed.TypedBuffer.{TypedBuffer}
use Rattle.wg_typed.specs.declared.typed.TypedBufferType.{TypedBufferType}
use Rattle.wg_typed.specs.declared.typed.TypedBufferType.TheVariants as buffer
use Rattle.wg_typed.specs.declared.typed.TypedEntry.{TypedEntry}
use Rattle.wg_typed.specs.declared.typed.TypedFunction.{TypedFunction}
use Rattle.wg_typed.specs.declared.typed.TypedHandle.{TypedHandle}
use Rattle.wg_typed.specs.declared.typed.TypedVariable.{TypedVariable}
use Rattle.wg_typed.specs.declared.typed.TypedParameter.{TypedParameter}
use Rattle.wg_typed.specs.declared.typed.TypedParameterType.{TypedParameterType}
use Rattle.wg_typed.specs.declared.typed.TypedParameterType.TheVariants as parameter
use Rattle.wg_typed.specs.declared.typed.TypedShared.{TypedShared}
use Rattle.wg_typed.specs.declared.typed.TypedStruct.{TypedStruct}

-- ---- functions

-- a parameter's type stands in the text; only a node has objects
abbrev pub parameter_stands : List TypedStruct → Bool → TypedParameterType → Bool
parameter_stands structs node (parameter.Value of) = stands_in structs of
parameter_stands structs node (parameter.Object place word None) = node
parameter_stands structs node (parameter.Object place word (Some number)) = node && stands_in structs (type.Struct number)

-- a handle is of an output with records
abbrev pub handle_stands : Room → TypedHandle → Bool
handle_stands room h = test (is_sent true) (output_at room h.output)

-- the numbers of a node's input and outputs are those of parameters of such words
pub record IsEntryOf (entry : TypedEntry) (parameters : List TypedParameter) : Type 0 where
  pub input : entry.input ≡ list_first (numbered is_input 0 parameters)
  pub outputs : entry.outputs ≡ numbered is_output 0 parameters

abbrev pub variable_types : List TypedVariable → List TypeTree
variable_types variables = map (λ (v : TypedVariable). v.of) variables

abbrev pub value_type : TypedParameterType → List TypeTree
value_type (parameter.Value of) = of ∷ []
value_type (parameter.Object place word record_type) = []

-- the types of the parameters that are no objects
abbrev pub value_types : List TypedParameter → List TypeTree
value_types [] = []
value_types (p ∷ rest) = value_type p.of ++ value_types rest

pub record IsSoundFunction (text : Typed) (number : ℕ) (f : TypedFunction) : Type 0 where
  pub entry : (e : TypedEntry) → f.entry ≡ Some e → IsEntryOf e f.parameters
  pub result : if_any (stands_in text.structs) f.result ≡ true
  pub parameters : every (λ (p : TypedParameter). parameter_stands text.structs (is_node f) p.of) f.parameters ≡ true
  pub variables : every (λ (v : TypedVariable). stands_in text.structs v.of) f.variables ≡ true
  -- the variables begin with the parameters that are no objects, and the others are locals
  pub begins : (locals : List TypeTree) × (variable_types f.variables ≡ value_types f.parameters ++ locals)
  pub few_outputs : length (outputs_of f.parameters) ≤ output_limit
  pub handles : every (handle_stands (record { text = text; function = f; number = number })) f.handles ≡ true
  pub body : body_sound (record { text = text; function = f; number = number }) f.body ≡ true
  pub placed : body_placed f ≡ true

-- ---- texts

abbrev pub buffer_stands : List TypedStruct → TypedBufferType → Bool
buffer_stands structs (buffer.Raw writable) = true
buffer_stands structs (buffer.Structured writable of) = stands_in structs of

pub record IsSound (text : Typed) : Type 0 where
  pub structs : AreInOrder text.structs
  pub fields : (number : ℕ) (s : TypedStruct) → slice_get text.structs number ≡ Some s → every (stands_in text.structs) (field_types s) ≡ true
  pub sizes : (number : ℕ) (s : TypedStruct) → slice_get text.structs number ≡ Some s → nat_le (words_of text.structs (type.Struct number)) type_limit ≡ true
  pub buffers : every (λ (b : TypedBuffer). buffer_stands text.structs b.of) text.buffers ≡ true
  pub shared : every (λ (s : TypedShared). stands_in text.structs s.of) text.shared ≡ true
  pub few_buffers : length text.buffers ≤ buffer_limit
  pub few_words : sum_by (λ (s : TypedShared). words_of text.structs s.of) text.shared ≤ shared_limit
  pub functions : (number : ℕ) (f : TypedFunction) → slice_get text.functions number ≡ Some f → IsSoundFunction text number f
