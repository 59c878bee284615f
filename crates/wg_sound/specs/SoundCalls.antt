-- Calls of plain functions, of the language's own functions, and constructors.
use Rattle.std.specs.Prelude.{ℕ, ◌+◌, ◌==◌, nat_lt, Bool, true, false, not, ◌&&◌, List, [], ◌∷◌, slice_get, Option, Some, None}
use Rattle.wg_typing.specs.Conversions.{numbers, same_scalar, same_type, truth_type}
use Rattle.wg_typed.specs.Directions.{direction_of}
use Rattle.wg_typing.specs.TypingInterlocked.{is_fixed}
use Rattle.wg_typing.specs.TypingIntrinsic.{Reckons, in_common, in_uint, to_one_truth, in_truths, choosing}
use Rattle.wg_typing.specs.TypingConstructor.{components}
use Rattle.wg_facts.specs.Tests.{test, every}
use Rattle.wg_sound.specs.Room.{Room, is_node, is_value_of}
use Rattle.wg_sound.specs.SoundForms.{Shown, is_a}
use Rattle.wg_sound.specs.SoundOperators.{is_counted, is_truths, truths_like}
use Rattle.wg_tree.specs.declared.expr.Scalar.{Scalar}
use Rattle.wg_tree.specs.declared.expr.Scalar.TheVariants as scalar
use Rattle.wg_tree.specs.declared.item.Direction.{Direction}
use Rattle.wg_tree.specs.declared.item.Direction.TheVariants as direction
use Rattle.wg_typed.specs.declared.types.TypeTree.{TypeTree}
use Rattle.wg_typed.specs.declared.typed.TypedFunction.{TypedFunction}
use Rattle.wg_typed.specs.declared.typed.TypedParameter.{TypedParameter}
use Rattle.wg_typing.specs.declared.numbers.Numbers.{Numbers}

-- ---- calls of plain functions

abbrev pub passes_as : Direction → Shown → Bool
passes_as direction.In e = true
passes_as direction.Out e = not (is_fixed e.standing)
passes_as direction.InOut e = not (is_fixed e.standing)

-- an argument of the parameter's type, and assignable where it is given back
abbrev pub passes : TypedParameter → Shown → Bool
passes p e = is_value_of e.of p.of && (e.sound && passes_as (direction_of p.direction) e)

abbrev pub all_pass : List TypedParameter → List Shown → Bool
all_pass [] [] = true
all_pass [] (e ∷ rest) = false
all_pass (p ∷ parameters) [] = false
all_pass (p ∷ parameters) (e ∷ rest) = passes p e && all_pass parameters rest

abbrev pub same_result : Option TypeTree → Option TypeTree → Bool
same_result None None = true
same_result (Some a) (Some b) = same_type a b
same_result None (Some b) = false
same_result (Some a) None = false

abbrev pub gives : Option TypeTree → List Shown → TypedFunction → Bool
gives result arguments f = same_result f.result result && all_pass f.parameters arguments

-- a plain function before the own one, with these arguments and this result
abbrev pub calls : Room → ℕ → Option TypeTree → List Shown → Bool
calls room function result arguments =
    nat_lt function room.number && test (λ (f : TypedFunction). not (is_node f) && gives result arguments f) (slice_get room.text.functions function)

-- ---- the language's own functions

abbrev pub are_of : List TypeTree → List Shown → Bool
are_of [] [] = true
are_of [] (e ∷ rest) = false
are_of (t ∷ types) [] = false
are_of (t ∷ types) (e ∷ rest) = is_a t e && are_of types rest

abbrev pub all_are : TypeTree → List Shown → Bool
all_are t arguments = every (is_a t) arguments

abbrev pub is_uint_type : TypeTree → Bool
is_uint_type t = test (λ (n : Numbers). same_scalar n.of scalar.Uint) (numbers t)

-- the arguments on which a function reckons that gives a value of the type
abbrev pub reckons_on : Reckons → TypeTree → List Shown → Bool
reckons_on in_common t arguments = is_counted t && all_are t arguments
reckons_on in_uint t arguments = is_uint_type t && all_are t arguments
reckons_on to_one_truth t arguments = same_type t truth_type && every (λ (a : Shown). a.sound && is_truths a.of) arguments
reckons_on in_truths t arguments = is_truths t && all_are t arguments
reckons_on choosing t arguments = test (λ truth. are_of (truth ∷ t ∷ t ∷ []) arguments) (truths_like t)

-- ---- constructors

abbrev pub is_part : Scalar → Shown → Bool
is_part of e = e.sound && test (λ (m : Numbers). same_scalar m.of of) (numbers e.of)

abbrev pub count_in : Option Numbers → ℕ
count_in None = 0
count_in (Some n) = components n.size

-- how many components a value of the type has
abbrev pub count_of : TypeTree → ℕ
count_of t = count_in (numbers t)

abbrev pub parts_count : List Shown → ℕ
parts_count [] = 0
parts_count (e ∷ rest) = count_of e.of + parts_count rest

-- parts of the one scalar, with as many components together as the type has
abbrev pub constructs : TypeTree → List Shown → Bool
constructs t parts = test (λ (n : Numbers). every (is_part n.of) parts) (numbers t) && parts_count parts == count_of t
