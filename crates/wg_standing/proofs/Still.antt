-- Which records are still there after a step.
use Rattle.std.proofs.Common.{None, ◌≡◌, ℕ, zero, suc, ◌+◌, ◌<◌, ◌≤◌, Bool, true, false, ◌||◌, List, [], ◌∷◌, ◌++◌, length, refl, ap, sym, ◌∙◌, subst, arith, inl, inr, ◌⊎◌}
use Rattle.std.specs.Prelude.{if◌then◌else◌, ◌==◌, ◌&&◌, filter, nat_le}
use Rattle.std.specs.List.{list_any}
use Rattle.std.proofs.lemmas.Bool.Decides.{nat_tests, Decides-eqb}
use Rattle.wg_standing.specs.declared.pending.Pending.{Pending}
use Rattle.wg_machine.specs.declared.launch.Live.{Live}
use Rattle.wg_machine.specs.declared.shape.Shape.{Shape}
use Rattle.wg_machine.specs.State.{kept}
use Rattle.wg_machine.specs.Step.{left_after, has_number}
use Rattle.wg_machine.specs.Grids.{without_group}
use Rattle.wg_standing.specs.Outs.{after_one, unopened, AllAllowed}
use Rattle.wg_standing.specs.Standing.{by_unit, in_slot, EachKnown}
use Rattle.wg_standing.specs.Moves.{is_still}
use Rattle.wg_standing.proofs.Commute.{live_with, ran}
use Rattle.wg_standing.proofs.Rising.{numbers, among_first, among_ran}
use Rattle.wg_standing.proofs.Outs.{allowed_among}

pub bool_eq : (a b : Bool) → (a ≡ true → b ≡ true) → (b ≡ true → a ≡ true) → a ≡ b
bool_eq true b f g = sym (f refl)
bool_eq false true f g = let e = g refl in absurd (cc)
bool_eq false false f g = refl

abbrev has : ℕ → List Live → Bool
has n ws = list_any (λ (x : Live). x.number == n) ws

abbrev pub in_range : ℕ → ℕ → ℕ → Bool
in_range v zero u = false
in_range v (suc k) u = (u == v) || in_range (v + 1) k u

alg : (a b c d e f : Bool) → ((((a && b) && c) || d) || (((e && b) && c) || f)) ≡ ((((a || e) && b) && c) || (d || f))
alg true true true true true true = refl
alg true true true true true false = refl
alg true true true true false true = refl
alg true true true true false false = refl
alg true true true false true true = refl
alg true true true false true false = refl
alg true true true false false true = refl
alg true true true false false false = refl
alg true true false true true true = refl
alg true true false true true false = refl
alg true true false true false true = refl
alg true true false true false false = refl
alg true true false false true true = refl
alg true true false false true false = refl
alg true true false false false true = refl
alg true true false false false false = refl
alg true false true true true true = refl
alg true false true true true false = refl
alg true false true true false true = refl
alg true false true true false false = refl
alg true false true false true true = refl
alg true false true false true false = refl
alg true false true false false true = refl
alg true false true false false false = refl
alg true false false true true true = refl
alg true false false true true false = refl
alg true false false true false true = refl
alg true false false true false false = refl
alg true false false false true true = refl
alg true false false false true false = refl
alg true false false false false true = refl
alg true false false false false false = refl
alg false true true true true true = refl
alg false true true true true false = refl
alg false true true true false true = refl
alg false true true true false false = refl
alg false true true false true true = refl
alg false true true false true false = refl
alg false true true false false true = refl
alg false true true false false false = refl
alg false true false true true true = refl
alg false true false true true false = refl
alg false true false true false true = refl
alg false true false true false false = refl
alg false true false false true true = refl
alg false true false false true false = refl
alg false true false false false true = refl
alg false true false false false false = refl
alg false false true true true true = refl
alg false false true true true false = refl
alg false false true true false true = refl
alg false false true true false false = refl
alg false false true false true true = refl
alg false false true false true false = refl
alg false false true false false true = refl
alg false false true false false false = refl
alg false false false true true true = refl
alg false false false true true false = refl
alg false false false true false true = refl
alg false false false true false false = refl
alg false false false false true true = refl
alg false false false false true false = refl
alg false false false false false true = refl
alg false false false false false false = refl

has_filter : (handed v n : ℕ) (x : Live) (bag : List Live) → has n (filter (in_slot handed v) (x ∷ bag)) ≡ ((((x.unit == v) && nat_le handed x.number) && (x.number == n)) || has n (filter (in_slot handed v) bag))
has_filter handed v n x bag = choice ((x.unit == v) && nat_le handed x.number)
  where
    choice : (b : Bool) → has n (if b then x ∷ filter (in_slot handed v) bag else filter (in_slot handed v) bag) ≡ ((b && (x.number == n)) || has n (filter (in_slot handed v) bag))
    choice true = refl
    choice false = refl

waits_cons : (handed v k n : ℕ) (x : Live) (bag : List Live) → list_any (has n) (by_unit handed v k (x ∷ bag)) ≡ (((in_range v k x.unit && nat_le handed x.number) && (x.number == n)) || list_any (has n) (by_unit handed v k bag))
waits_cons handed v zero n x bag = refl
waits_cons handed v (suc k) n x bag =
    ap (λ (b : Bool). b || list_any (has n) (by_unit handed (v + 1) k (x ∷ bag))) (has_filter handed v n x bag)
    ∙ ap (λ (b : Bool). ((((x.unit == v) && nat_le handed x.number) && (x.number == n)) || has n (filter (in_slot handed v) bag)) || b) (waits_cons handed (v + 1) k n x bag)
    ∙ alg (x.unit == v) (nat_le handed x.number) (x.number == n) (has n (filter (in_slot handed v) bag)) (in_range (v + 1) k x.unit) (list_any (has n) (by_unit handed (v + 1) k bag))

waits_nil : (handed v k n : ℕ) → list_any (has n) (by_unit handed v k []) ≡ false
waits_nil handed v zero n = refl
waits_nil handed v (suc k) n = waits_nil handed (v + 1) k n

above : (u v : ℕ) → (u == v) ≡ false → v ≤ u → v + 1 ≤ u
above u v e h = grind (arith, nat_tests)

pub within_range : (v k u : ℕ) → v ≤ u → u < v + k → in_range v k u ≡ true
within_range v zero u low high = absurd (omega arith)
within_range v (suc k) u low high = choice (λ l. within_range (v + 1) k u l (omega arith)) (u == v) refl
  where
    choice : (v + 1 ≤ u → in_range (v + 1) k u ≡ true) → (b : Bool) → (u == v) ≡ b → (b || in_range (v + 1) k u) ≡ true
    choice ih true e = refl
    choice ih false e = ih (above u v e low)

le_true : (m n : ℕ) → m ≤ n → nat_le m n ≡ true
le_true m n h = grind (arith, nat_tests)

same_test : (l q b : Bool) → (q ≡ true → l ≡ true) → (((true && l) && q) || b) ≡ (q || b)
same_test true true b h = refl
same_test true false b h = refl
same_test false true b h = let e = h refl in absurd (cc)
same_test false false b h = refl

-- what waits in slots are all that are no entries
waits_are : (handed k n : ℕ) (bag : List Live) → handed ≤ n → EachKnown k bag → list_any (has n) (by_unit handed 0 k bag) ≡ has_number (numbers bag) n
waits_are handed k n [] h known = waits_nil handed 0 k n
waits_are handed k n (x ∷ bag) h known =
    let u = known.0 in
    let r : in_range 0 k x.unit ≡ true = within_range 0 k x.unit (omega arith) (omega arith) in
    let t = same_test (nat_le handed x.number) (x.number == n) (has_number (numbers bag) n) (λ e. le_true handed x.number (let q = (Decides-eqb x.number n).0 e in omega arith)) in
    waits_cons handed 0 k n x bag
    ∙ ap (λ (b : Bool). ((in_range 0 k x.unit && nat_le handed x.number) && (x.number == n)) || b) (waits_are handed k n bag h known.1)
    ∙ ap (λ (b : Bool). ((b && nat_le handed x.number) && (x.number == n)) || has_number (numbers bag) n) r
    ∙ t

or_left : (a b : Bool) → a ≡ true → (a || b) ≡ true
or_left true b e = refl
or_left false b e = absurd (cc)

or_right : (a b : Bool) → b ≡ true → (a || b) ≡ true
or_right true b e = refl
or_right false b e = e

or_either : (a b : Bool) → (a || b) ≡ true → (a ≡ true) ⊎ (b ≡ true)
or_either true b e = inl refl
or_either false b e = inr e

-- what is left was there
among_left : (nums at : List ℕ) (n : ℕ) (bag : List Live) → has_number (numbers (left_after nums at None bag)) n ≡ true → has_number (numbers bag) n ≡ true
among_left nums at n [] e = e
among_left nums at n (x ∷ bag) e =
    elim (among_ran at x (left_after nums at None bag) (has_number nums x.number) n e) [
      | inl q ↦ or_left (x.number == n) (has_number (numbers bag) n) ((Decides-eqb x.number n).1 q)
      | inr k ↦ or_right (x.number == n) (has_number (numbers bag) n) (among_left nums at n bag k)
    ]

pub among_unopened : (outs : List Pending) (n : ℕ) (bag : List Live) → has_number (numbers (unopened outs bag)) n ≡ true → has_number (numbers bag) n ≡ true
among_unopened [] n bag e = e
among_unopened (o ∷ outs) n bag e = among_left o.inputs o.at n bag (among_unopened outs n (after_one o bag) e)

-- what is there is left, or the launch takes it
left_or_taken : (nums at : List ℕ) (n : ℕ) (bag : List Live) → has_number (numbers bag) n ≡ true → (has_number nums n ≡ true) ⊎ (has_number (numbers (left_after nums at None bag)) n ≡ true)
left_or_taken nums at n [] e = absurd (cc)
left_or_taken nums at n (x ∷ bag) e = choice (λ f. left_or_taken nums at n bag f) (has_number nums x.number) refl (among_first x.number n (numbers bag) e)
  where
    skip : (b : Bool) → has_number (numbers (left_after nums at None bag)) n ≡ true → has_number (numbers (ran b at x ++ left_after nums at None bag)) n ≡ true
    skip true e = go (without_group at x.groups)
      where
        go : (gs : List (List ℕ)) → has_number (numbers (kept (live_with x.number x.unit x.words x.grid gs) ++ left_after nums at None bag)) n ≡ true
        go [] = e
        go (g ∷ gs) = or_right (x.number == n) (has_number (numbers (left_after nums at None bag)) n) e
    skip false e = or_right (x.number == n) (has_number (numbers (left_after nums at None bag)) n) e

    choice : (has_number (numbers bag) n ≡ true → (has_number nums n ≡ true) ⊎ (has_number (numbers (left_after nums at None bag)) n ≡ true)) → (b : Bool) → has_number nums x.number ≡ b → (x.number ≡ n) ⊎ (has_number (numbers bag) n ≡ true) → (has_number nums n ≡ true) ⊎ (has_number (numbers (ran b at x ++ left_after nums at None bag)) n ≡ true)
    choice ih true e (inl q) = inl (subst (λ (m : ℕ). has_number nums m ≡ true) q e)
    choice ih false e (inl q) = inr (or_left (x.number == n) (has_number (numbers (left_after nums at None bag)) n) ((Decides-eqb x.number n).1 q))
    choice ih b e (inr f) = elim (ih f) [ inl g ↦ inl g | inr g ↦ inr (skip b g) ]

abbrev taken_by : List Pending → ℕ → Bool
taken_by outs n = list_any (λ (p : Pending). has_number p.inputs n) outs

unopened_or_taken : (outs : List Pending) (n : ℕ) (bag : List Live) → has_number (numbers bag) n ≡ true → (has_number (numbers (unopened outs bag)) n || taken_by outs n) ≡ true
unopened_or_taken [] n bag e = or_left (has_number (numbers bag) n) false e
unopened_or_taken (o ∷ outs) n bag e =
    elim (left_or_taken o.inputs o.at n bag e) [
      | inl t ↦ or_right (has_number (numbers (unopened (o ∷ outs) bag)) n) (has_number o.inputs n || taken_by outs n) (or_left (has_number o.inputs n) (taken_by outs n) t)
      | inr l ↦ widen (has_number (numbers (unopened outs (after_one o bag))) n) (has_number o.inputs n) (taken_by outs n) (unopened_or_taken outs n (after_one o bag) l)
    ]
  where
    widen : (a b c : Bool) → (a || c) ≡ true → (a || (b || c)) ≡ true
    widen true b c e = refl
    widen false true c e = refl
    widen false false c e = e

taken_among : (shape : Shape) (bag : List Live) (outs : List Pending) (n : ℕ) → AllAllowed shape bag outs → taken_by outs n ≡ true → has_number (numbers bag) n ≡ true
taken_among shape bag [] n all e = absurd (cc)
taken_among shape bag (o ∷ outs) n all e =
    elim (or_either (has_number o.inputs n) (taken_by outs n) e) [
      | inl f ↦ allowed_among shape bag o all.0 n f
      | inr f ↦ taken_among shape bag outs n all.1 f
    ]

known_ran : (k : ℕ) (at : List ℕ) (x : Live) (rest : List Live) (b : Bool) → x.unit < k → EachKnown k rest → EachKnown k (ran b at x ++ rest)
known_ran k at x rest true h known = go (without_group at x.groups)
  where
    go : (gs : List (List ℕ)) → EachKnown k (kept (live_with x.number x.unit x.words x.grid gs) ++ rest)
    go [] = known
    go (g ∷ gs) = (h, known)
known_ran k at x rest false h known = (h, known)

pub known_left : (k : ℕ) (nums at : List ℕ) (bag : List Live) → EachKnown k bag → EachKnown k (left_after nums at None bag)
known_left k nums at [] known = known
known_left k nums at (x ∷ bag) known = known_ran k at x (left_after nums at None bag) (has_number nums x.number) known.0 (known_left k nums at bag known.1)

pub known_append : (k : ℕ) (xs ys : List Live) → EachKnown k xs → EachKnown k ys → EachKnown k (xs ++ ys)
known_append k [] ys a b = b
known_append k (x ∷ xs) ys a b = (a.0, known_append k xs ys a.1 b)

pub known_unopened : (k : ℕ) (outs : List Pending) (bag : List Live) → EachKnown k bag → EachKnown k (unopened outs bag)
known_unopened k [] bag known = known
known_unopened k (o ∷ outs) bag known = known_unopened k outs (after_one o bag) (known_left k o.inputs o.at bag known)

-- a record that is no entry is in the bag where it waits or a launch of it is out
pub still : (shape : Shape) (handed n : ℕ) (outs : List Pending) (bag : List Live) → handed ≤ n → EachKnown (length shape.units) bag → AllAllowed shape bag outs → is_still (by_unit handed 0 (length shape.units) (unopened outs bag)) outs n ≡ has_number (numbers bag) n
still shape handed n outs bag h known all =
    ap (λ (b : Bool). b || taken_by outs n) (waits_are handed (length shape.units) n (unopened outs bag) h (known_unopened (length shape.units) outs bag known))
    ∙ bool_eq (has_number (numbers (unopened outs bag)) n || taken_by outs n) (has_number (numbers bag) n) (λ e. elim (or_either (has_number (numbers (unopened outs bag)) n) (taken_by outs n) e) [ inl f ↦ among_unopened outs n bag f | inr f ↦ taken_among shape bag outs n all f ]) (λ e. unopened_or_taken outs n bag e)
