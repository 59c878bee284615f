-- Slots of which no one stands twice.
use Rattle.std.proofs.Common.{◌≡◌, ℕ, zero, suc, ◌+◌, ◌≤◌, Bool, true, false, List, [], ◌∷◌, ◌++◌, length, Option, Some, None, refl, sym, ap, subst, ◌∙◌, arith}
use Rattle.std.specs.Prelude.{◌==◌, ◌||◌, cond, is_some, IsSome, count_by, slice_set, slice_index_or}
use Rattle.std.proofs.lemmas.List.{get_or-set_other}
use Rattle.std.proofs.lemmas.List.Folds.{list_any-append}
use Rattle.std.proofs.lemmas.List.Sums.{sum_by-cons}
use Rattle.std.proofs.lemmas.Bool.{eqb-true, eq-eqb}
use Rattle.wg_slots.specs.SlotsOf.{waits_in}
use Rattle.wg_slots.specs.Kept.{AreApart}
use Rattle.wg_slots.proofs.Records.{or_left, or_right, waits_apart}

-- ---- they are no more than the values at them

pub fewer : (os : List (Option ℕ)) (i : ℕ) → IsSome (slice_index_or os i None) → count_by is_some (slice_set os i None) + 1 ≡ count_by is_some os
fewer [] i e = absurd cc
fewer (None ∷ os) zero e = absurd cc
fewer (Some n ∷ os) zero e =
    let a = sum_by-cons (λ (o : Option ℕ). cond (is_some o) 1 0) None os in
    let b = sum_by-cons (λ (o : Option ℕ). cond (is_some o) 1 0) (Some n) os in
    omega arith
fewer (o ∷ os) (suc i) e =
    let h = fewer os i e in
    let a = sum_by-cons (λ (p : Option ℕ). cond (is_some p) 1 0) o (slice_set os i None) in
    let b = sum_by-cons (λ (p : Option ℕ). cond (is_some p) 1 0) o os in
    omega arith

pub few_wait : (ps : List ℕ) (os : List (Option ℕ)) → AreApart ps → ((p : ℕ) → waits_in ps p ≡ true → IsSome (slice_index_or os p None)) → length ps ≤ count_by is_some os
few_wait [] os apart there = omega arith
few_wait (p ∷ ps) os apart there =
    let one = fewer os p (there p (or_left (p == p) (waits_in ps p) (eq-eqb p p refl))) in
    let rest = few_wait ps (slice_set os p None) apart.1 (λ q w. subst IsSome (sym (get_or-set_other os p q None None (waits_apart ps q p w apart.0))) (there q (or_right (p == q) (waits_in ps q) w))) in
    omega arith

-- ---- a slot more

pub no_or : (a b : Bool) → (a || b) ≡ false → (a ≡ false) × (b ≡ false)
no_or true b e = absurd cc
no_or false b e = (refl, e)

pub apart_more : (ps : List ℕ) (slot : ℕ) → AreApart ps → waits_in ps slot ≡ false → AreApart (ps ++ slot ∷ [])
apart_more [] slot apart none = (refl, tt)
apart_more (p ∷ ps) slot apart none =
    let parts = no_or (p == slot) (waits_in ps slot) none in
    (list_any-append (λ (q : ℕ). q == p) ps (slot ∷ []) ∙ ap (λ (b : Bool). b || ((slot == p) || false)) apart.0 ∙ last (slot == p) refl parts.0, apart_more ps slot apart.1 parts.1)
  where
    last : (b : Bool) → (slot == p) ≡ b → (p == slot) ≡ false → (b || false) ≡ false
    last true e n = absurd (clash (p == slot) (eq-eqb p slot (sym (eqb-true slot p e))) n)
      where
        clash : (c : Bool) → c ≡ true → c ≡ false → ⊥
        clash true t f = absurd cc
        clash false t f = absurd cc
    last false e n = refl
