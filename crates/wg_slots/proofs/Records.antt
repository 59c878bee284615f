-- Records by slot, from numbers and words.
use Rattle.std.proofs.Common.{◌≡◌, ◌≢◌, ℕ, zero, suc, ◌+◌, Bool, true, false, List, [], ◌∷◌, length, Option, Some, None, refl, sym, ap, subst, ◌∙◌, arith}
use Rattle.std.specs.Prelude.{◌==◌, ◌||◌, cond, is_some, IsSome, count_by, filter_map, slice_get, slice_index_or}
use Rattle.std.specs.Option.{option_map}
use Rattle.std.specs.List.{cons_option}
use Rattle.std.proofs.lemmas.List.Sums.{sum_by-cons}
use Rattle.std.proofs.lemmas.Bool.{eq-eqb}
use Rattle.wg_machine.specs.declared.launch.Record.{Record}
use Rattle.wg_slots.specs.SlotsOf.{waits_in}
use Rattle.wg_slots.specs.Kept.{records_by}

-- ---- a value that is there

pub some_of : {A : Type 0} (o : Option A) → IsSome o → (x : A) × (o ≡ Some x)
some_of None e = absurd cc
some_of (Some x) e = (x, refl)

pub there_is : {A : Type 0} (o : Option A) (x : A) → o ≡ Some x → IsSome o
there_is o x e = ap is_some e

pub same_some : {A : Type 0} (x y : A) → ◌≡◌ {A = Option A} (Some x) (Some y) → x ≡ y
same_some x y e = cc

pub not_none : {A : Type 0} (o : Option A) → o ≡ None → IsSome o → ⊥
not_none None e s = absurd cc
not_none (Some x) e s = absurd cc

-- ---- records by slot

-- a slot's record, with words
abbrev pub with_words : Option ℕ → List ℕ → Option Record
with_words o words = option_map (λ (n : ℕ). record { number = n; words = words }) o

from_slot : (f : ℕ → List ℕ) (s : ℕ) (os : List (Option ℕ)) (i : ℕ) → slice_index_or (records_by f s os) i None ≡ with_words (slice_index_or os i None) (f (s + i))
from_slot f s [] i = refl
from_slot f s (o ∷ os) zero = ap (λ (k : ℕ). with_words o (f k)) (omega arith)
from_slot f s (o ∷ os) (suc i) = from_slot f (s + 1) os i ∙ ap (λ (k : ℕ). with_words (slice_index_or os i None) (f k)) (omega arith)

pub record_is : (f : ℕ → List ℕ) (os : List (Option ℕ)) (i : ℕ) → slice_index_or (records_by f 0 os) i None ≡ with_words (slice_index_or os i None) (f i)
record_is f os i = from_slot f 0 os i ∙ ap (λ (k : ℕ). with_words (slice_index_or os i None) (f k)) (omega arith)

pub words_same : (o : Option ℕ) (a b : List ℕ) → (IsSome o → a ≡ b) → with_words o a ≡ with_words o b
words_same None a b h = refl
words_same (Some n) a b h = ap (λ (w : List ℕ). with_words (Some n) w) (h refl)

same_from : (f g : ℕ → List ℕ) (s : ℕ) (os : List (Option ℕ)) → ((i : ℕ) → IsSome (slice_index_or os i None) → f (s + i) ≡ g (s + i)) → records_by f s os ≡ records_by g s os
same_from f g s [] h = refl
same_from f g s (o ∷ os) h =
    ap (λ (r : Option Record). r ∷ records_by f (s + 1) os) (words_same o (f s) (g s) (λ some. subst (λ (k : ℕ). f k ≡ g k) here (h zero some)))
    ∙ ap (λ (l : List (Option Record)). with_words o (g s) ∷ l) (same_from f g (s + 1) os (λ i some. subst (λ (k : ℕ). f k ≡ g k) (next i) (h (suc i) some)))
  where
    here : s + zero ≡ s
    here = omega arith

    next : (i : ℕ) → s + suc i ≡ s + 1 + i
    next i = omega arith

pub records_same : (f g : ℕ → List ℕ) (os : List (Option ℕ)) → ((i : ℕ) → IsSome (slice_index_or os i None) → f i ≡ g i) → records_by f 0 os ≡ records_by g 0 os
records_same f g os h = same_from f g 0 os (λ i some. subst (λ (k : ℕ). f k ≡ g k) (from_zero i) (h i some))
  where
    from_zero : (i : ℕ) → i ≡ 0 + i
    from_zero i = omega arith

pub used_same : (f : ℕ → List ℕ) (s : ℕ) (os : List (Option ℕ)) → count_by is_some (records_by f s os) ≡ count_by is_some os
used_same f s [] = refl
used_same f s (o ∷ os) =
    sum_by-cons (λ (r : Option Record). cond (is_some r) 1 0) (head o) (records_by f (s + 1) os)
    ∙ (ap (λ (n : ℕ). cond (is_some (head o)) 1 0 + n) (used_same f (s + 1) os)
    ∙ (ap (λ (n : ℕ). n + count_by is_some os) (is_one o) ∙ sym (sum_by-cons (λ (r : Option ℕ). cond (is_some r) 1 0) o os)))
  where
    head : Option ℕ → Option Record
    head p = with_words p (f s)

    is_one : (p : Option ℕ) → ◌≡◌ {A = ℕ} (cond (is_some (head p)) 1 0) (cond (is_some p) 1 0)
    is_one None = refl
    is_one (Some n) = refl

-- ---- slots that wait

pub or_left : (a b : Bool) → a ≡ true → (a || b) ≡ true
or_left true b e = refl
or_left false b e = absurd cc

pub or_right : (a b : Bool) → b ≡ true → (a || b) ≡ true
or_right true b e = refl
or_right false b e = e

pub filter_same : (f g : ℕ → Option Record) (ps : List ℕ) → ((p : ℕ) → waits_in ps p ≡ true → f p ≡ g p) → filter_map f ps ≡ filter_map g ps
filter_same f g [] h = refl
filter_same f g (p ∷ ps) h =
    ap (λ (o : Option Record). cons_option o (filter_map f ps)) (h p (or_left (p == p) (waits_in ps p) (eq-eqb p p refl)))
    ∙ ap (λ (l : List Record). cons_option (g p) l) (filter_same f g ps (λ q w. h q (or_right (p == q) (waits_in ps q) w)))

-- each slot that waits gives a record
pub filter_length : (f : ℕ → Option Record) (ps : List ℕ) → ((p : ℕ) → waits_in ps p ≡ true → IsSome (f p)) → length (filter_map f ps) ≡ length ps
filter_length f [] h = refl
filter_length f (p ∷ ps) h =
    let some = some_of (f p) (h p (or_left (p == p) (waits_in ps p) (eq-eqb p p refl))) in
    ap (λ (o : Option Record). length (cons_option o (filter_map f ps))) some.1 ∙ ap suc (filter_length f ps (λ q w. h q (or_right (p == q) (waits_in ps q) w)))

pub filter_get : (f : ℕ → Option Record) (ps : List ℕ) → ((p : ℕ) → waits_in ps p ≡ true → IsSome (f p)) → (i p : ℕ) → slice_get ps i ≡ Some p → slice_get (filter_map f ps) i ≡ f p
filter_get f [] h i p e = absurd cc
filter_get f (q ∷ ps) h zero p e =
    let some = some_of (f q) (h q (or_left (q == q) (waits_in ps q) (eq-eqb q q refl))) in
    ap (λ (o : Option Record). slice_get (cons_option o (filter_map f ps)) zero) some.1 ∙ (sym some.1 ∙ ap f (same_some q p e))
filter_get f (q ∷ ps) h (suc i) p e =
    let some = some_of (f q) (h q (or_left (q == q) (waits_in ps q) (eq-eqb q q refl))) in
    ap (λ (o : Option Record). slice_get (cons_option o (filter_map f ps)) (suc i)) some.1 ∙ filter_get f ps (λ r w. h r (or_right (q == r) (waits_in ps r) w)) i p e

pub waits_at : (ps : List ℕ) (i p : ℕ) → slice_get ps i ≡ Some p → waits_in ps p ≡ true
waits_at [] i p e = absurd cc
waits_at (q ∷ ps) zero p e = or_left (q == p) (waits_in ps p) (eq-eqb q p (same_some q p e))
waits_at (q ∷ ps) (suc i) p e = or_right (q == p) (waits_in ps p) (waits_at ps i p e)

-- a slot that waits is none that doesn't
pub waits_apart : (ps : List ℕ) (p q : ℕ) → waits_in ps p ≡ true → waits_in ps q ≡ false → p ≢ q
waits_apart ps p q w n e = absurd (clash (waits_in ps q) (ap (waits_in ps) (sym e) ∙ w) n)
  where
    clash : (b : Bool) → b ≡ true → b ≡ false → ⊥
    clash true t f = absurd cc
    clash false t f = absurd cc
