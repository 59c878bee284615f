-- What an expression shows to what is around it, and members, components and elements after a value.
use Rattle.std.specs.Prelude.{ℕ, nat_lt, Bool, true, false, ◌&&◌, if◌then◌else◌, List, [], ◌∷◌, length, slice_get, Option, None}
use Rattle.wg_words.specs.Maybe.{◌>>=◌}
use Rattle.wg_typing.specs.Conversions.{same_type, uint_type}
use Rattle.wg_typed.specs.Layout.{field_types, element_type}
use Rattle.wg_facts.specs.Tests.{test, if_any, every}
use Rattle.wg_sound.specs.Room.{Room}
use Rattle.wg_tree.specs.declared.expr.Scalar.{Scalar}
use Rattle.wg_typed.specs.declared.types.TypeTree.{TypeTree}
use Rattle.wg_typed.specs.declared.types.TypeTree.TheVariants as type
use Rattle.wg_typed.specs.declared.typed.TypedStruct.{TypedStruct}
use Rattle.wg_typed.specs.declared.typed_expr.Access.TheOpen.{Access-F}
use Rattle.wg_typing.specs.declared.scope.Standing.{Standing}
use Rattle.wg_typing.specs.declared.scope.Standing.TheVariants as standing

-- an expression: its type, whether it and its parts are sound, and whether it can be assigned
pub record Shown : Type 0 where
  pub of : TypeTree
  pub sound : Bool
  pub standing : Standing

-- the same of a kind of expression, where its type is given
pub record Held : Type 0 where
  pub sound : Bool
  pub standing : Standing

abbrev pub held : Standing → Bool → Held
held s sound = record { sound = sound; standing = s }

abbrev pub value_held : Bool → Held
value_held sound = held standing.Fixed sound

-- sound, and of the type
abbrev pub is_a : TypeTree → Shown → Bool
is_a t e = e.sound && same_type e.of t

abbrev pub is_index : Option Shown → Bool
is_index index = if_any (is_a uint_type) index

-- a form after a value: its type, whether it may follow one of a type, and whether what can be assigned stays so
pub record Form : Type 0 where
  pub of : TypeTree
  pub follows : TypeTree → Bool
  pub single : Bool

abbrev pub field_of : List TypedStruct → TypeTree → ℕ → Option TypeTree
field_of structs (type.Struct number) field = slice_get structs number >>= (λ s. slice_get (field_types s) field)
field_of structs (type.Scalar of) field = None
field_of structs (type.Vector of size) field = None
field_of structs (type.Array of size) field = None

-- one component is a scalar, and several are a vector
abbrev pub components_type : Scalar → List ℕ → TypeTree
components_type of (c ∷ []) = type.Scalar of
components_type of components = type.Vector of (length components)

-- the components stand in a vector, from one to four of them, and have the type
abbrev pub are_components : TypeTree → List ℕ → TypeTree → Bool
are_components t components (type.Vector of size) =
    every (λ c. nat_lt c size) components && ((nat_lt 0 (length components) && nat_lt (length components) 5) && same_type (components_type of components) t)
are_components t components (type.Scalar of) = false
are_components t components (type.Struct number) = false
are_components t components (type.Array of size) = false

abbrev pub is_one : List ℕ → Bool
is_one (c ∷ []) = true
is_one components = false

abbrev pub is_element : TypeTree → TypeTree → Bool
is_element t (type.Array of size) = same_type (element_type of) t
is_element t (type.Scalar of) = false
is_element t (type.Vector of size) = false
is_element t (type.Struct number) = false

abbrev pub access_step : Room → Access-F Form (TypeTree → Held) Shown (TypeTree → Option TypeTree) → Form
access_step room (Access-F.Field field of) =
    record { of = of; follows = λ t. test (λ x. same_type x of) (field_of room.text.structs t field); single = true }
access_step room (Access-F.Components components of) = record { of = of; follows = are_components of components; single = is_one components }
access_step room (Access-F.Index index of) = record { of = of; follows = λ t. is_element of t && is_a uint_type index; single = true }

-- each form follows what stands before it, up to a type
abbrev pub all_follow : List Form → TypeTree → TypeTree → Bool
all_follow [] from goal = same_type from goal
all_follow (f ∷ rest) from goal = f.follows from && all_follow rest f.of goal

abbrev pub all_single : List Form → Bool
all_single forms = every (λ (f : Form). f.single) forms

-- where a value stands with forms after it
abbrev pub after_forms : List Form → Standing → Standing
after_forms forms s = if all_single forms then s else standing.Fixed
