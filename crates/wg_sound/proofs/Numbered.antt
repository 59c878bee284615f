-- Types of numbers, and which of them fit.
use Rattle.std.proofs.Common.{◌≡◌, ℕ, true, Option, Some, None, refl, ap, ◌∙◌, subst}
use Rattle.std.specs.Prelude.{◌&&◌}
use Rattle.wg_typing.specs.Conversions.{numbers, sized, type_of, same_type, size_fits, numbers_fit, fits, is_number, common_size, joined_size}
use Rattle.wg_tree.specs.declared.expr.Scalar.{Scalar}
use Rattle.wg_typed.specs.declared.types.TypeTree.{TypeTree}
use Rattle.wg_facts.proofs.Basics.{and_left, and_right, or_right, then_some, where_so}
use Rattle.wg_typing.specs.declared.numbers.Numbers.{Numbers}

numbers_sized : (of : Scalar) (size : Option ℕ) → numbers (sized of size) ≡ Some (record { of = of; size = size })
numbers_sized of None = refl
numbers_sized of (Some n) = refl

pub numbers_type : (n : Numbers) → numbers (type_of n) ≡ Some n
numbers_type n = numbers_sized n.of n.size

pub is_number_type : (n : Numbers) → is_number (type_of n) ≡ true
is_number_type n = sized_number n.of n.size
  where
    sized_number : (of : Scalar) (size : Option ℕ) → is_number (sized of size) ≡ true
    sized_number of None = refl
    sized_number of (Some n) = refl

-- a value of numbers fits where their size does
pub fits_sized : (t : TypeTree) (n m : Numbers) → numbers t ≡ Some n → size_fits n m.size ≡ true → fits t (type_of m) ≡ true
fits_sized t n m e f = or_right (same_type t (type_of m)) _ (ap (λ o. numbers_fit o (numbers (type_of m))) e ∙ ap (λ o. numbers_fit (Some n) o) (numbers_type m) ∙ f)

-- both fit their joined size
pub joined_fits : (a b : Numbers) (c : Option ℕ) → joined_size a b ≡ Some c → (size_fits a c ≡ true) × (size_fits b c ≡ true)
joined_fits a b c e =
    let s = then_some (common_size a.size b.size) _ c e in
    let w = where_so (size_fits a s.0 && size_fits b s.0) s.0 c s.2 in
    (subst (λ x. size_fits a x ≡ true) w.1 (and_left (size_fits a s.0) _ w.0), subst (λ x. size_fits b x ≡ true) w.1 (and_right (size_fits a s.0) _ w.0))
