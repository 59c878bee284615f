-- Equal types, truths, and what holds where it is there.
use Rattle.std.proofs.Common.{◌≡◌, ℕ, Bool, true, false, not, cond, List, [], ◌∷◌, ◌++◌, Option, Some, None, refl, sym, ap, ◌∙◌, subst, arith, ◌<◌, ◌≤◌, nat_lt}
use Rattle.std.specs.Prelude.{◌&&◌, ◌||◌, ◌==◌}
use Rattle.std.proofs.lemmas.Grind.{common_steps}
use Rattle.wg_words.specs.Maybe.{◌>>=◌}
use Rattle.wg_typing.specs.Maybe.{where_true, all_of, if_there}
use Rattle.wg_typing.specs.Conversions.{scalar_number, same_scalar, same_element, same_type}
use Rattle.wg_facts.specs.Tests.{test, every}
use Rattle.wg_tree.specs.declared.expr.Scalar.{Scalar}
use Rattle.wg_tree.specs.declared.expr.Scalar.TheVariants as scalar
use Rattle.wg_typed.specs.declared.types.ElementType.{ElementType}
use Rattle.wg_typed.specs.declared.types.ElementType.TheVariants as element
use Rattle.wg_typed.specs.declared.types.TypeTree.{TypeTree}
use Rattle.wg_typed.specs.declared.types.TypeTree.TheVariants as type

-- ---- truths

pub and_left : (a b : Bool) → (a && b) ≡ true → a ≡ true
and_left true b e = refl
and_left false b e = e

pub and_right : (a b : Bool) → (a && b) ≡ true → b ≡ true
and_right true b e = e
and_right false b e = absurd (cc)

pub both : {a b : Bool} → a ≡ true → b ≡ true → (a && b) ≡ true
both {a} {b} e f = ap (λ x. x && b) e ∙ f

pub or_left : (a b : Bool) → a ≡ true → (a || b) ≡ true
or_left true b e = refl
or_left false b e = absurd (cc)

pub or_right : (a b : Bool) → b ≡ true → (a || b) ≡ true
or_right true b e = refl
or_right false b e = e

pub not_true : (b : Bool) → b ≡ false → not b ≡ true
not_true true e = cc
not_true false e = refl

pub not_false : (b : Bool) → not b ≡ true → b ≡ false
not_false true e = cc
not_false false e = refl

-- ---- what may be absent

abbrev pub and_then : {A B : Type 0} → Option A → (A → Option B) → Option B
and_then o f = o >>= f

abbrev pub If : {A : Type 0} → (A → Type 0) → Option A → Type 0
If p None = Unit {0}
If p (Some a) = p a

pub some_value : {A : Type 0} {a b : A} → Some a ≡ Some b → a ≡ b
some_value {A} {a} {b} e = cc

pub if_then : {A B : Type 0} (p : A → Type 0) (q : B → Type 0) (o : Option A) (f : A → Option B) → If p o → ((a : A) → p a → If q (f a)) → If q (and_then o f)
if_then p q None f h k = tt
if_then p q (Some a) f h k = k a h

-- the same, with what the value is
pub if_was : {A B : Type 0} (q : B → Type 0) (o : Option A) (f : A → Option B) → ((a : A) → o ≡ Some a → If q (f a)) → If q (and_then o f)
if_was q None f k = tt
if_was q (Some a) f k = k a refl

pub if_where : {A : Type 0} (p : A → Type 0) (b : Bool) (a : A) → (b ≡ true → p a) → If p (where_true b a)
if_where p true a h = h refl
if_where p false a h = tt

pub if_so : {A : Type 0} (p : A → Type 0) (o : Option A) (a : A) → o ≡ Some a → If p o → p a
if_so p o a e h = subst (If p) e h

pub then_some : {A B : Type 0} (o : Option A) (f : A → Option B) (b : B) → and_then o f ≡ Some b → (a : A) × (o ≡ Some a) × (f a ≡ Some b)
then_some None f b e = absurd (cc)
then_some (Some a) f b e = (a, refl, e)

pub where_so : {A : Type 0} (b : Bool) (a x : A) → where_true b a ≡ Some x → (b ≡ true) × (a ≡ x)
where_so true a x e = (refl, some_value e)
where_so false a x e = absurd (cc)

pub where_is : {A : Type 0} (b : Bool) (a : A) → b ≡ true → where_true b a ≡ Some a
where_is b a e = ap (λ x. where_true x a) e

pub all_first : {A : Type 0} (o : Option A) (rest : List (Option A)) (xs : List A) → all_of (o ∷ rest) ≡ Some xs → (a : A) × (o ≡ Some a) × ((others : List A) × (all_of rest ≡ Some others) × (xs ≡ a ∷ others))
all_first o rest xs e =
    let a = then_some o _ xs e in
    let b = then_some (all_of rest) _ xs a.2 in
    (a.0, a.1, (b.0, b.1, sym (some_value b.2)))

-- ---- equal numbers and types

pub same_count : (a b : ℕ) → (a == b) ≡ true → a ≡ b
same_count a b e = grind (arith, common_steps, e)

pub same_self : (m : ℕ) → (m == m) ≡ true
same_self m = grind (arith, common_steps)

pub scalar_self : (a : Scalar) → same_scalar a a ≡ true
scalar_self a = same_self (scalar_number a)

pub element_self : (a : ElementType) → same_element a a ≡ true
element_self (element.Scalar a) = scalar_self a
element_self (element.Vector a m) = both (scalar_self a) (same_self m)
element_self (element.Struct m) = same_self m

pub type_self : (t : TypeTree) → same_type t t ≡ true
type_self (type.Scalar a) = scalar_self a
type_self (type.Vector a m) = both (scalar_self a) (same_self m)
type_self (type.Struct m) = same_self m
type_self (type.Array a m) = both (element_self a) (same_self m)

-- the scalar of a number
scalar_at : ℕ → Scalar
scalar_at n =
    cond (n == 0) scalar.Bool (cond (n == 1) scalar.Int (cond (n == 2) scalar.Uint (cond (n == 3) scalar.Int16 (cond (n == 4) scalar.Uint16 (cond (n == 5) scalar.Int64 scalar.Uint64)))))

scalar_back : (a : Scalar) → scalar_at (scalar_number a) ≡ a
unfolding scalar_at
scalar_back scalar.Bool = refl
scalar_back scalar.Int = refl
scalar_back scalar.Uint = refl
scalar_back scalar.Int16 = refl
scalar_back scalar.Uint16 = refl
scalar_back scalar.Int64 = refl
scalar_back scalar.Uint64 = refl

pub scalar_is : (a b : Scalar) → same_scalar a b ≡ true → a ≡ b
scalar_is a b e = sym (scalar_back a) ∙ ap scalar_at (same_count (scalar_number a) (scalar_number b) e) ∙ scalar_back b

pub element_is : (a b : ElementType) → same_element a b ≡ true → a ≡ b
element_is (element.Scalar a) (element.Scalar b) e = ap element.Scalar (scalar_is a b e)
element_is (element.Scalar a) (element.Vector b n) e = absurd (cc)
element_is (element.Scalar a) (element.Struct n) e = absurd (cc)
element_is (element.Vector a m) (element.Scalar b) e = absurd (cc)
element_is (element.Vector a m) (element.Vector b n) e =
    ap (λ x. element.Vector x m) (scalar_is a b (and_left (same_scalar a b) _ e)) ∙ ap (element.Vector b) (same_count m n (and_right (same_scalar a b) _ e))
element_is (element.Vector a m) (element.Struct n) e = absurd (cc)
element_is (element.Struct m) (element.Scalar b) e = absurd (cc)
element_is (element.Struct m) (element.Vector b n) e = absurd (cc)
element_is (element.Struct m) (element.Struct n) e = ap element.Struct (same_count m n e)

pub type_is : (s t : TypeTree) → same_type s t ≡ true → s ≡ t
type_is (type.Scalar a) (type.Scalar b) e = ap type.Scalar (scalar_is a b e)
type_is (type.Scalar a) (type.Vector b n) e = absurd (cc)
type_is (type.Scalar a) (type.Struct n) e = absurd (cc)
type_is (type.Scalar a) (type.Array b n) e = absurd (cc)
type_is (type.Vector a m) (type.Scalar b) e = absurd (cc)
type_is (type.Vector a m) (type.Vector b n) e =
    ap (λ x. type.Vector x m) (scalar_is a b (and_left (same_scalar a b) _ e)) ∙ ap (type.Vector b) (same_count m n (and_right (same_scalar a b) _ e))
type_is (type.Vector a m) (type.Struct n) e = absurd (cc)
type_is (type.Vector a m) (type.Array b n) e = absurd (cc)
type_is (type.Struct m) (type.Scalar b) e = absurd (cc)
type_is (type.Struct m) (type.Vector b n) e = absurd (cc)
type_is (type.Struct m) (type.Struct n) e = ap type.Struct (same_count m n e)
type_is (type.Struct m) (type.Array b n) e = absurd (cc)
type_is (type.Array a m) (type.Scalar b) e = absurd (cc)
type_is (type.Array a m) (type.Vector b n) e = absurd (cc)
type_is (type.Array a m) (type.Struct n) e = absurd (cc)
type_is (type.Array a m) (type.Array b n) e =
    ap (λ x. type.Array x m) (element_is a b (and_left (same_element a b) _ e)) ∙ ap (type.Array b) (same_count m n (and_right (same_element a b) _ e))

-- equal types are the same
pub type_same : (s t : TypeTree) → s ≡ t → same_type s t ≡ true
type_same s t e = subst (λ x. same_type s x ≡ true) e (type_self s)

-- ---- tests of what is there

pub test_some : {A : Type 0} (f : A → Bool) (o : Option A) (a : A) → o ≡ Some a → f a ≡ true → test f o ≡ true
test_some f o a e h = ap (test f) e ∙ h

pub every_more : {A : Type 0} (f : A → Bool) (xs ys : List A) → every f xs ≡ true → every f ys ≡ true → every f (xs ++ ys) ≡ true
every_more f [] ys h k = k
every_more f (x ∷ xs) ys h k = both (and_left (f x) _ h) (every_more f xs ys (and_right (f x) _ h) k)

-- ---- smaller numbers

pub less_so : (m n : ℕ) → m < n → nat_lt m n ≡ true
less_so m n h = grind (arith, common_steps, h)

pub so_less : (m n : ℕ) → nat_lt m n ≡ true → m < n
so_less m n e = grind (arith, common_steps, e)

-- one that is not above
pub at_most : (m n : ℕ) → nat_lt m n ≡ false → n ≤ m
at_most m n e = grind (arith, common_steps, e)

-- ---- what follows from tests

pub test_so : {A : Type 0} (f : A → Bool) (o : Option A) → test f o ≡ true → (a : A) × (o ≡ Some a) × (f a ≡ true)
test_so f None e = absurd (cc)
test_so f (Some a) e = (a, refl, e)

pub either_so : (a b : Bool) (p : Type 0) → (a || b) ≡ true → (a ≡ true → p) → (b ≡ true → p) → p
either_so true b p e f g = f refl
either_so false b p e f g = g e

pub if_there_is : {A B : Type 0} (p : A → Type 0) (q : Option B → Type 0) (f : A → Option B) (o : Option A) → If p o → q None → ((a : A) → p a → If (λ b. q (Some b)) (f a)) → If q (if_there f o)
if_there_is p q f None h n k = n
if_there_is p q f (Some a) h n k = if_then (λ b. q (Some b)) q (f a) _ (k a h) (λ b i. i)
