-- The numbers by slot, as the ring tells which slots are free again.
use Rattle.std.proofs.Common.{◌≡◌, ◌≢◌, ℕ, zero, suc, ◌+◌, ◌<◌, ◌≤◌, Bool, true, false, List, [], ◌∷◌, ◌++◌, length, Option, Some, None, refl, sym, ap, subst, ◌∙◌, arith}
use Rattle.std.specs.Prelude.{◌==◌, ◌||◌, if◌then◌else◌, cond, is_some, IsSome, count_by, slice_get, slice_set, slice_index_or}
use Rattle.std.proofs.lemmas.List.Folds.{list_any-append}
use Rattle.std.proofs.lemmas.List.Sums.{sum_by-cons}
use Rattle.std.proofs.lemmas.Bool.{eqb-true, eq-eqb}
use Rattle.wg_slots.specs.SlotsOf.{waits_in}
use Rattle.wg_slots.specs.Kept.{AreApart}
use Rattle.wg_slots.specs.Places.{in_use}
use Rattle.wg_slots.proofs.Records.{not_none, or_left, or_right}
use Rattle.wg_slots.proofs.Apart.{fewer, few_wait}

-- ---- one slot's number

same_none : (b : Bool) → ◌≡◌ {A = Option ℕ} None (if b then None else None)
same_none true = refl
same_none false = refl

from_slot : (free : List ℕ) (s : ℕ) (ns : List ℕ) (i : ℕ) → slice_index_or (in_use free s ns) i None ≡ (if waits_in free (s + i) then None else slice_get ns i)
from_slot free s [] i = same_none (waits_in free (s + i))
from_slot free s (n ∷ ns) zero = ap (λ (k : ℕ). if waits_in free k then None else Some n) here
  where
    here : s ≡ s + zero
    here = omega arith
from_slot free s (n ∷ ns) (suc i) = from_slot free (s + 1) ns i ∙ ap (λ (k : ℕ). if waits_in free k then None else slice_get ns i) next
  where
    next : s + 1 + i ≡ s + suc i
    next = omega arith

pub use_is : (free ns : List ℕ) (i : ℕ) → slice_index_or (in_use free 0 ns) i None ≡ (if waits_in free i then None else slice_get ns i)
use_is free ns i = from_slot free 0 ns i ∙ ap (λ (k : ℕ). if waits_in free k then None else slice_get ns i) none
  where
    none : 0 + i ≡ i
    none = omega arith

pub free_none : (free ns : List ℕ) (i : ℕ) → waits_in free i ≡ true → slice_index_or (in_use free 0 ns) i None ≡ None
free_none free ns i e = use_is free ns i ∙ ap (λ (b : Bool). if b then None else slice_get ns i) e

pub used_some : (free ns : List ℕ) (i : ℕ) → waits_in free i ≡ false → slice_index_or (in_use free 0 ns) i None ≡ slice_get ns i
used_some free ns i e = use_is free ns i ∙ ap (λ (b : Bool). if b then None else slice_get ns i) e

pub same_use : (a b ms ns : List ℕ) (i : ℕ) → waits_in a i ≡ waits_in b i → slice_get ms i ≡ slice_get ns i → slice_index_or (in_use a 0 ms) i None ≡ slice_index_or (in_use b 0 ns) i None
same_use a b ms ns i w g =
    use_is a ms i
    ∙ (ap (λ (c : Bool). if c then None else slice_get ms i) w
    ∙ (ap (λ (o : Option ℕ). if waits_in b i then None else o) g ∙ sym (use_is b ns i)))

pub within_some : (ns : List ℕ) (i : ℕ) → i < length ns → IsSome (slice_get ns i)
within_some [] i h = absurd (omega arith)
within_some (n ∷ ns) zero h = refl
within_some (n ∷ ns) (suc i) h = within_some ns i (omega arith)

some_within : (ns : List ℕ) (i : ℕ) → IsSome (slice_get ns i) → i < length ns
some_within [] i e = absurd cc
some_within (n ∷ ns) zero e = omega arith
some_within (n ∷ ns) (suc i) e = let h = some_within ns i e in omega arith

-- a number that is there was written, and its slot is not free again
pub record IsUsed (free ns : List ℕ) (i : ℕ) : Type 0 where
  pub within : i < length ns
  pub used : waits_in free i ≡ false
  pub is : slice_index_or (in_use free 0 ns) i None ≡ slice_get ns i

pub is_used : (free ns : List ℕ) (i : ℕ) → IsSome (slice_index_or (in_use free 0 ns) i None) → IsUsed free ns i
is_used free ns i some = choice (waits_in free i) refl
  where
    choice : (b : Bool) → waits_in free i ≡ b → IsUsed free ns i
    choice true e = absurd (not_none (slice_index_or (in_use free 0 ns) i None) (free_none free ns i e) some)
    choice false e = record { within = some_within ns i (subst IsSome (used_some free ns i e) some); used = e; is = used_some free ns i e }

-- ---- how many slots have a number

all_used : (s : ℕ) (ns : List ℕ) → count_by is_some (in_use [] s ns) ≡ length ns
all_used s [] = refl
all_used s (n ∷ ns) =
    let a = sum_by-cons (λ (o : Option ℕ). cond (is_some o) 1 0) (Some n) (in_use [] (s + 1) ns) in
    let h = all_used (s + 1) ns in
    omega arith

not_same : (a b : ℕ) → a ≢ b → (a == b) ≡ false
not_same a b ne = choice (a == b) refl
  where
    choice : (c : Bool) → (a == b) ≡ c → c ≡ false
    choice true e = absurd (ne (eqb-true a b e))
    choice false e = refl

pub other_waits : (p q : ℕ) (ps : List ℕ) → p ≢ q → waits_in (p ∷ ps) q ≡ waits_in ps q
other_waits p q ps ne = ap (λ (b : Bool). b || waits_in ps q) (not_same p q ne)

below_all : (f : ℕ) (free : List ℕ) (s : ℕ) (ns : List ℕ) → f < s → in_use (f ∷ free) s ns ≡ in_use free s ns
below_all f free s [] h = refl
below_all f free s (n ∷ ns) h =
    ap (λ (b : Bool). (if b then None else Some n) ∷ in_use (f ∷ free) (s + 1) ns) (other_waits f s free (λ e. absurd (omega (arith, e))))
    ∙ ap (λ (l : List (Option ℕ)). (if waits_in free s then None else Some n) ∷ l) (below_all f free (s + 1) ns (omega arith))

one_free : (free : List ℕ) (s : ℕ) (ns : List ℕ) (i : ℕ) → in_use ((s + i) ∷ free) s ns ≡ slice_set (in_use free s ns) i None
one_free free s [] i = refl
one_free free s (n ∷ ns) zero =
    ap (λ (b : Bool). (if b then None else Some n) ∷ in_use ((s + zero) ∷ free) (s + 1) ns) (or_left (s + zero == s) (waits_in free s) (eq-eqb (s + zero) s (omega arith)))
    ∙ ap (λ (l : List (Option ℕ)). None ∷ l) (below_all (s + zero) free (s + 1) ns (omega arith))
one_free free s (n ∷ ns) (suc i) =
    ap (λ (b : Bool). (if b then None else Some n) ∷ in_use ((s + suc i) ∷ free) (s + 1) ns) (other_waits (s + suc i) s free (λ e. absurd (omega (arith, e))))
    ∙ ap (λ (l : List (Option ℕ)). (if waits_in free s then None else Some n) ∷ l) (ap (λ (k : ℕ). in_use (k ∷ free) (s + 1) ns) next ∙ one_free free (s + 1) ns i)
  where
    next : s + suc i ≡ s + 1 + i
    next = omega arith

pub used_are : (free ns : List ℕ) → AreApart free → ((p : ℕ) → waits_in free p ≡ true → p < length ns) → count_by is_some (in_use free 0 ns) + length free ≡ length ns
used_are [] ns apart within = let h = all_used 0 ns in omega arith
used_are (f ∷ free) ns apart within =
    let rest = used_are free ns apart.1 (λ p w. within p (or_right (f == p) (waits_in free p) w)) in
    let there = subst IsSome (sym (used_some free ns f apart.0)) (within_some ns f (within f (or_left (f == f) (waits_in free f) (eq-eqb f f refl)))) in
    let one = fewer (in_use free 0 ns) f there in
    let same = ap (count_by is_some) (ap (λ (k : ℕ). in_use (k ∷ free) 0 ns) none ∙ one_free free 0 ns f) in
    omega arith
  where
    none : f ≡ 0 + f
    none = omega arith

-- no more slots are apart than were written
pub few_apart : (ps ns : List ℕ) → AreApart ps → ((p : ℕ) → waits_in ps p ≡ true → p < length ns) → length ps ≤ length ns
few_apart ps ns apart within =
    let h = few_wait ps (in_use [] 0 ns) apart (λ p w. subst IsSome (sym (used_some [] ns p refl)) (within_some ns p (within p w))) in
    let all = all_used 0 ns in
    omega arith

-- ---- parts of a ring

pub waits_or : (xs ys : List ℕ) (p : ℕ) → waits_in (xs ++ ys) p ≡ (waits_in xs p || waits_in ys p)
waits_or xs ys p = list_any-append (λ (q : ℕ). q == p) xs ys

pub waits_left : (xs ys : List ℕ) (p : ℕ) → waits_in xs p ≡ true → waits_in (xs ++ ys) p ≡ true
waits_left xs ys p e = waits_or xs ys p ∙ or_left (waits_in xs p) (waits_in ys p) e

pub waits_right : (xs ys : List ℕ) (p : ℕ) → waits_in ys p ≡ true → waits_in (xs ++ ys) p ≡ true
waits_right xs ys p e = waits_or xs ys p ∙ or_right (waits_in xs p) (waits_in ys p) e

pub apart_right : (xs ys : List ℕ) → AreApart (xs ++ ys) → AreApart ys
apart_right [] ys apart = apart
apart_right (x ∷ xs) ys apart = apart_right xs ys apart.1
