-- A choice of parts that have types is the choice of the definitions.
use Rattle.std.proofs.Common.{◌≡◌, true, ◌&&◌, if◌then◌else◌, is_some, Option, Some, None, refl}
use Rattle.wg_words.specs.declared.place.Place.{Place}
use Rattle.wg_words.specs.Maybe.{◌>>=◌}
use Rattle.wg_typed.specs.declared.typed_expr.TypedExpr.{TypedExpr}
use Rattle.wg_typed.specs.declared.typed_expr.TypedKind.TheVariants as tree
use Rattle.wg_typing.specs.Conversions.{numbers, type_of, truth_type, common_numbers}
use Rattle.wg_typing.specs.Layers.{convert, fixed, typed_part}
use Rattle.wg_typing.specs.PartSites as s
use Rattle.wg_typing.specs.RulesMismatchExpr.{choice_of}
use Rattle.wg_typing.specs.Site.{AtGoal}
use Rattle.wg_typing.specs.Sites.{nowhere, ◌&◌}
use Rattle.wg_typing.specs.TypingOperators.{choice_value}
use Rattle.wg_typing.specs.declared.numbers.Numbers.{Numbers}
use Rattle.wg_typing.specs.declared.part.Part.{Part}
use Rattle.wg_typing.specs.declared.part.TypedPart.{TypedPart}
use Rattle.wg_typing.specs.declared.scope.Value.{Value}
use Rattle.wg_operators.specs.Operators.{choice_from, choice_sites}

abbrev no_value : Option Value
no_value = None

nothing_then : {A : Type 0} (o : Option A) → no_value ≡ (o >>= (λ a. no_value))
nothing_then None = refl
nothing_then (Some a) = refl

each_number : (m n : Option Numbers) (f : Numbers → Option Value) → (choice_of m n >>= f) ≡ (m >>= (λ m. n >>= (λ n. common_numbers m n >>= f)))
each_number None n f = refl
each_number (Some m) None f = refl
each_number (Some m) (Some n) f = refl

abbrev results : Place → TypedPart → TypedPart → TypedExpr → Numbers → Option Value
results place a b condition c = convert (type_of c) a >>= (λ first. convert (type_of c) b >>= (λ second. fixed place (type_of c) (tree.Choice condition first second)))

abbrev choice_of_typed : Place → Option TypedPart → Option TypedPart → Option TypedPart → Option Value
choice_of_typed place t a b = t >>= convert truth_type >>= (λ condition. a >>= (λ a. b >>= (λ b. numbers a.of >>= (λ m. numbers b.of >>= (λ n. common_numbers m n >>= results place a b condition)))))

with_condition : (place : Place) (condition : Option TypedExpr) (a b : TypedPart)
    → (condition >>= (λ condition. choice_of (numbers a.of) (numbers b.of) >>= results place a b condition)) ≡ (condition >>= (λ condition. numbers a.of >>= (λ m. numbers b.of >>= (λ n. common_numbers m n >>= results place a b condition))))
with_condition place None a b = refl
with_condition place (Some condition) a b = each_number (numbers a.of) (numbers b.of) (results place a b condition)

from_typed : (place : Place) (t a b : Option TypedPart) → choice_from place t a b ≡ choice_of_typed place t a b
from_typed place None a b = refl
from_typed place (Some t) None b = nothing_then (convert truth_type t)
from_typed place (Some t) (Some a) None = nothing_then (convert truth_type t)
from_typed place (Some t) (Some a) (Some b) = with_condition place (convert truth_type t) a b

pub choice_is : (place : Place) (test first second : Part) → choice_from place (typed_part test) (typed_part first) (typed_part second) ≡ choice_value place test first second
choice_is place test first second = from_typed place (typed_part test) (typed_part first) (typed_part second)

pub sites_are : (place : Place) (test first second : Part) → choice_sites place (typed_part test) (typed_part first) (typed_part second) ≡ s.choice_sites place test first second
sites_are place test first second = from (typed_part test) (typed_part first) (typed_part second)
  where
    from : (t a b : Option TypedPart) → choice_sites place t a b ≡ (if is_some t && (is_some a && (is_some b && true)) then s.site_if (AtGoal truth_type) t & s.results_site place a b else nowhere)
    from None a b = refl
    from (Some t) None b = refl
    from (Some t) (Some a) None = refl
    from (Some t) (Some a) (Some b) = refl
