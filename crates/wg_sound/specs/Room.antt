-- Where an expression stands: in a function of a text, by its number; and what the numbers in it name.
use Rattle.std.specs.Prelude.{ℕ, Bool, true, false, ◌&&◌, if◌then◌else◌, List, [], ◌∷◌, ◌++◌, slice_get, Option, Some, None, is_some}
use Rattle.wg_words.specs.Maybe.{◌>>=◌}
use Rattle.wg_typing.specs.Conversions.{same_type}
use Rattle.wg_typing.specs.TypingParameter.{Role, an_input, an_output, no_role, role_of, is_marked}
use Rattle.wg_facts.specs.Tests.{test}
use Rattle.wg_typed.specs.declared.types.TypeTree.{TypeTree}
use Rattle.wg_typed.specs.declared.types.TypeTree.TheVariants as type
use Rattle.wg_typed.specs.declared.typed.Typed.{Typed}
use Rattle.wg_typed.specs.declared.typed.TypedBuffer.{TypedBuffer}
use Rattle.wg_typed.specs.declared.typed.TypedBufferType.{TypedBufferType}
use Rattle.wg_typed.specs.declared.typed.TypedBufferType.TheVariants as buffer
use Rattle.wg_typed.specs.declared.typed.TypedFunction.{TypedFunction}
use Rattle.wg_typed.specs.declared.typed.TypedHandle.{TypedHandle}
use Rattle.wg_typed.specs.declared.typed.TypedVariable.{TypedVariable}
use Rattle.wg_typed.specs.declared.typed.TypedParameter.{TypedParameter}
use Rattle.wg_typed.specs.declared.typed.TypedParameterType.{TypedParameterType}
use Rattle.wg_typed.specs.declared.typed.TypedParameterType.TheVariants as parameter
use Rattle.wg_typed.specs.declared.typed.TypedShared.{TypedShared}
use Rattle.wg_typing.specs.declared.scope.Standing.{Standing}
use Rattle.wg_typing.specs.declared.scope.Standing.TheVariants as standing

pub record Room : Type 0 where
  pub text : Typed
  pub function : TypedFunction
  pub number : ℕ

abbrev pub is_node : TypedFunction → Bool
is_node f = is_some f.entry

-- ---- the objects of a node

-- whether an output is an array, and its record type
pub record Output : Type 0 where
  pub array : Bool
  pub record_type : Option ℕ

-- whether an input holds several records, its record type, whether it can be changed, and whether its words are the record's
pub record Input : Type 0 where
  pub many : Bool
  pub record_type : Option ℕ
  pub standing : Standing
  pub shared : Bool

abbrev pub output_if : Role → Option ℕ → List Output
output_if (an_output array) number = record { array = array; record_type = number } ∷ []
output_if (an_input many s shared) number = []
output_if no_role number = []

abbrev pub input_if : Role → Option ℕ → Option Input → Option Input
input_if (an_input many s shared) number rest = Some (record { many = many; record_type = number; standing = s; shared = shared })
input_if (an_output array) number rest = rest
input_if no_role number rest = rest

abbrev pub output_of : TypedParameterType → List Output
output_of (parameter.Value of) = []
output_of (parameter.Object place word number) = output_if (role_of word) number

-- the outputs among parameters, by number
abbrev pub outputs_of : List TypedParameter → List Output
outputs_of [] = []
outputs_of (p ∷ rest) = output_of p.of ++ outputs_of rest

abbrev pub input_of_type : TypedParameterType → Option Input → Option Input
input_of_type (parameter.Value of) rest = rest
input_of_type (parameter.Object place word number) rest = input_if (role_of word) number rest

-- the input among parameters: the first one
abbrev pub input_of : List TypedParameter → Option Input
input_of [] = None
input_of (p ∷ rest) = input_of_type p.of (input_of rest)

abbrev pub output_at : Room → ℕ → Option Output
output_at room output = slice_get (outputs_of room.function.parameters) output

abbrev pub input_in : Room → Option Input
input_in room = input_of room.function.parameters

-- the record type of a handle: that of its output
abbrev pub handle_record : Room → ℕ → Option ℕ
handle_record room handle =
    slice_get room.function.handles handle >>= (λ (h : TypedHandle). output_at room h.output >>= (λ (o : Output). o.record_type))

-- whether the last group of the input's record is told: its words are shared, and its struct is marked for it
abbrev pub tells_last : Room → Input → Bool
tells_last room i = i.shared && is_marked (i.record_type >>= slice_get room.text.structs)

-- ---- what the numbers name

abbrev pub is_value_of : TypeTree → TypedParameterType → Bool
is_value_of t (parameter.Value of) = same_type of t
is_value_of t (parameter.Object place word kept) = false

abbrev pub has_variable : Room → ℕ → TypeTree → Bool
has_variable room number t = test (λ (v : TypedVariable). same_type v.of t) (slice_get room.function.variables number)

abbrev pub has_shared : Room → ℕ → TypeTree → Bool
has_shared room variable t = test (λ (v : TypedShared). same_type v.of t) (slice_get room.text.shared variable)

abbrev pub buffer_type : Room → ℕ → Option TypedBufferType
buffer_type room number = slice_get room.text.buffers number >>= (λ (b : TypedBuffer). Some b.of)

abbrev pub holds_elements : TypeTree → TypedBufferType → Bool
holds_elements t (buffer.Raw writable) = false
holds_elements t (buffer.Structured writable of) = same_type of t

abbrev pub is_raw : TypedBufferType → Bool
is_raw (buffer.Raw writable) = true
is_raw (buffer.Structured writable of) = false

abbrev pub is_writable_raw : TypedBufferType → Bool
is_writable_raw (buffer.Raw writable) = writable
is_writable_raw (buffer.Structured writable of) = false

-- whether an element of a buffer can be changed
abbrev pub element_standing : Option TypedBufferType → Standing
element_standing None = standing.Fixed
element_standing (Some (buffer.Raw writable)) = standing.Fixed
element_standing (Some (buffer.Structured writable of)) = if writable then standing.Memory else standing.Fixed

abbrev pub input_standing : Option Input → Standing
input_standing None = standing.Fixed
input_standing (Some i) = i.standing

abbrev pub is_record : TypeTree → Option ℕ → Bool
is_record t None = false
is_record t (Some number) = same_type t (type.Struct number)
