-- Which types fit, of those in which operators and calls reckon.
use Rattle.std.proofs.Common.{◌≡◌, ℕ, true, Option, Some, None, refl, sym, ap, ◌∙◌, subst, arith}
use Rattle.std.specs.Prelude.{◌==◌, ◌&&◌}
use Rattle.std.proofs.lemmas.Grind.{common_steps}
use Rattle.wg_typing.specs.Conversions.{numbers, sized, type_of, same_type, size_fits, numbers_fit, fits, is_number, is_scalar, common_size, common, common_numbers, Class, arithmetic, shift, comparison, logic, suits, class_of, operation, operation_on, truths, sizes_fit, joined_size}
use Rattle.wg_tree.specs.declared.expr.Scalar.{Scalar}
use Rattle.wg_tree.specs.declared.expr.BinaryOperator.{BinaryOperator}
use Rattle.wg_typed.specs.declared.types.TypeTree.{TypeTree}
use Rattle.wg_typed.specs.declared.types.TypeTree.TheVariants as type
use Rattle.wg_typing.proofs.Facts.{Has, or_right, some_value, then_some, where_passes, where_same, and_left, and_right}
use Rattle.wg_typing.specs.declared.numbers.Numbers.{Numbers}
use Rattle.wg_typing.specs.declared.numbers.Operation.{Operation}

-- a number type has its numbers
pub has_numbers : (t : TypeTree) → is_number t ≡ true → Has (numbers t)
has_numbers (type.Scalar of) e = tt
has_numbers (type.Vector of n) e = tt
has_numbers (type.Struct number) e = absurd (cc)
has_numbers (type.Array of n) e = absurd (cc)

numbers_sized : (of : Scalar) (size : Option ℕ) → numbers (sized of size) ≡ Some (record { of = of; size = size })
numbers_sized of None = refl
numbers_sized of (Some n) = refl

pub numbers_type : (n : Numbers) → numbers (type_of n) ≡ Some n
numbers_type n = numbers_sized n.of n.size

pub is_number_type : (n : Numbers) → is_number (type_of n) ≡ true
is_number_type n = sized_number n.of n.size
  where
    sized_number : (of : Scalar) (size : Option ℕ) → is_number (sized of size) ≡ true
    sized_number of None = refl
    sized_number of (Some n) = refl

-- a value of numbers fits where their size does
pub fits_sized : (t : TypeTree) (n m : Numbers) → numbers t ≡ Some n → size_fits n m.size ≡ true → fits t (type_of m) ≡ true
fits_sized t n m e f = or_right (same_type t (type_of m)) _ (ap (λ o. numbers_fit o (numbers (type_of m))) e ∙ ap (λ o. numbers_fit (Some n) o) (numbers_type m) ∙ f)

same_number : (m : ℕ) → (m == m) ≡ true
same_number m = grind (arith, common_steps)

pub size_same : (n : Numbers) → size_fits n n.size ≡ true
size_same n = same n.of n.size
  where
    same : (of : Scalar) (size : Option ℕ) → sizes_fit of size size ≡ true
    same of None = refl
    same of (Some m) = same_number m

-- both may be of their joined size
pub joined_fits : (a b : Numbers) (c : Option ℕ) → joined_size a b ≡ Some c → (size_fits a c ≡ true) × (size_fits b c ≡ true)
joined_fits a b c e =
    let s = then_some (common_size a.size b.size) _ c e in
    let h = where_passes (size_fits a s.0 && size_fits b s.0) s.0 c s.2 in
    let q = where_same (size_fits a s.0 && size_fits b s.0) s.0 c s.2 in
    (subst (λ x. size_fits a x ≡ true) q (and_left (size_fits a s.0) _ h), subst (λ x. size_fits b x ≡ true) q (and_right (size_fits a s.0) _ h))

-- ---- two-sided operators

scalar_size : (t : TypeTree) (n : Numbers) → is_scalar t ≡ true → numbers t ≡ Some n → n.size ≡ None
scalar_size (type.Scalar of) n e f = let q : record { of = of; size = None } ≡ n = cc in ap (λ (m : Numbers). m.size) (sym q)
scalar_size (type.Vector of k) n e f = absurd (cc)
scalar_size (type.Struct number) n e f = absurd (cc)
scalar_size (type.Array of k) n e f = absurd (cc)

-- the right operand converts to the type that is wanted of it
operation_fits : (k : Class) (u : TypeTree) (a b : Numbers) (o : Operation) → numbers u ≡ Some b → suits k u ≡ true → operation k a b ≡ Some o → fits u (type_of o.right) ≡ true
operation_fits arithmetic u a b o e s h =
    let c = then_some (common a b) _ o h in
    let d = then_some (joined_size a b) _ c.0 c.1 in
    subst (λ (x : Operation). fits u (type_of x.right) ≡ true) (some_value c.2) (fits_sized u b c.0 e (subst (λ (n : Numbers). size_fits b n.size ≡ true) (some_value d.2) (joined_fits a b d.0 d.1).1))
operation_fits shift u a b o e s h =
    let d = then_some (joined_size a b) _ o h in
    subst (λ (x : Operation). fits u (type_of x.right) ≡ true) (some_value d.2) (fits_sized u b _ e (joined_fits a b d.0 d.1).1)
operation_fits comparison u a b o e s h =
    let c = then_some (common a b) _ o h in
    let d = then_some (joined_size a b) _ c.0 c.1 in
    subst (λ (x : Operation). fits u (type_of x.right) ≡ true) (some_value c.2) (fits_sized u b c.0 e (subst (λ (n : Numbers). size_fits b n.size ≡ true) (some_value d.2) (joined_fits a b d.0 d.1).1))
operation_fits logic u a b o e s h =
    subst (λ (x : Operation). fits u (type_of x.right) ≡ true) (some_value h) (fits_sized u b (truths None) e (ap (λ z. sizes_fit b.of z None) (scalar_size u b s e)))

pub operation_on_fits : (op : BinaryOperator) (t u : TypeTree) (o : Operation) → suits (class_of op) u ≡ true → operation_on op t u ≡ Some o → fits u (type_of o.right) ≡ true
operation_on_fits op t u o s h =
    let a = then_some (numbers t) _ o h in
    let b = then_some (numbers u) _ o a.2 in
    operation_fits (class_of op) u a.0 b.0 o b.1 s b.2

-- ---- `?:`

pub chosen_fits : (a b c : Numbers) → common_numbers a b ≡ Some c → (size_fits a c.size ≡ true) × (size_fits b c.size ≡ true)
chosen_fits a b c h =
    let d = then_some (joined_size a b) _ c h in
    let q = some_value d.2 in
    let f = joined_fits a b d.0 d.1 in
    (subst (λ (n : Numbers). size_fits a n.size ≡ true) q f.0, subst (λ (n : Numbers). size_fits b n.size ≡ true) q f.1)
