-- The parameters of a node by their numbers.
use Rattle.std.specs.Prelude.{ℕ, Bool, false, List, [], slice_get, Option, Some, None}
use Rattle.wg_typing.specs.AttributeSites.{kind_of}
use Rattle.wg_typed.specs.declared.typed.TypedParameter.{TypedParameter}
use Rattle.wg_typed.specs.declared.typed.TypedParameterType.{TypedParameterType}
use Rattle.wg_typed.specs.declared.typed.TypedParameterType.TheVariants as parameter_type
use Rattle.wg_typed.specs.declared.typed_stmt.TypedAttribute.{TypedAttribute}
use Rattle.wg_typing.specs.declared.attribute.ParameterKind.{ParameterKind}
use Rattle.wg_typing.specs.declared.attribute.ParameterKind.TheVariants.{Value, Input, Output, Handle}

abbrev pub attributes_if : Option TypedParameter → List TypedAttribute
attributes_if None = []
attributes_if (Some p) = p.attributes

abbrev pub attributes_at : List TypedParameter → ℕ → List TypedAttribute
attributes_at parameters number = attributes_if (slice_get parameters number)

abbrev pub name_if : Option TypedParameter → List ℕ
name_if None = []
name_if (Some p) = p.name.name

abbrev pub name_at : List TypedParameter → ℕ → List ℕ
name_at parameters number = name_if (slice_get parameters number)

abbrev pub is_array : ParameterKind → Bool
is_array (Output array) = array
is_array Value = false
is_array (Input word) = false
is_array Handle = false

abbrev pub is_array_if : Option TypedParameter → Bool
is_array_if None = false
is_array_if (Some p) = is_array (kind_of p.of)

abbrev pub is_array_at : List TypedParameter → ℕ → Bool
is_array_at parameters number = is_array_if (slice_get parameters number)

-- the struct of an object's records
abbrev pub record_of : TypedParameterType → Option ℕ
record_of (parameter_type.Value of) = None
record_of (parameter_type.Object place word record_type) = record_type

abbrev pub record_if : Option TypedParameter → Option ℕ
record_if None = None
record_if (Some p) = record_of p.of

-- a node need not have an input
abbrev pub record_at : List TypedParameter → Option ℕ → Option ℕ
record_at parameters None = None
record_at parameters (Some number) = record_if (slice_get parameters number)

abbrev pub input_attributes : List TypedParameter → Option ℕ → List TypedAttribute
input_attributes parameters None = []
input_attributes parameters (Some number) = attributes_at parameters number
