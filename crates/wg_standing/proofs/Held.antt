-- Records of which everything is opened, and that each record of a bag has one place.
use Rattle.std.proofs.Common.{◌≡◌, ℕ, zero, suc, ◌+◌, ◌<◌, ◌≤◌, Bool, true, false, ◌||◌, List, [], ◌∷◌, length, refl, ap, sym, ◌∙◌, subst, arith}
use Rattle.std.specs.Prelude.{if◌then◌else◌, ◌==◌, ◌&&◌, filter, sum_by, nat_le, replicate}
use Rattle.std.proofs.lemmas.Bool.Decides.{nat_tests, Decides-eqb}
use Rattle.std.proofs.lemmas.List.Sums.{sum_by-cons}
use Rattle.wg_words.specs.Each.{Each}
use Rattle.wg_machine.specs.declared.launch.Live.{Live}
use Rattle.wg_machine.specs.Step.{has_number}
use Rattle.wg_standing.specs.Core.{CoreView}
use Rattle.wg_standing.specs.Outs.{unopened}
use Rattle.wg_standing.specs.Standing.{EachKnown, IsPlaced, Rises, by_unit, in_slot, is_entry_record, is_opened, opened_of}
use Rattle.wg_standing.specs.Places.{HasOnePlace, times_in}
use Rattle.wg_standing.proofs.Counting.{count_cons, pay}
use Rattle.wg_standing.proofs.Rising.{among_none, numbers, rises_unopened}
use Rattle.wg_standing.proofs.Still.{among_unopened, in_range, known_unopened, within_range}

among_more : (m : ℕ) (ms : List ℕ) (xs : List Live) → Each (λ (x : Live). has_number ms x.number ≡ true) xs → Each (λ (x : Live). has_number (m ∷ ms) x.number ≡ true) xs
among_more m ms [] e = tt
among_more m ms (x ∷ xs) e = (or_more (m == x.number) (has_number ms x.number) e.0, among_more m ms xs e.1)
  where
    or_more : (a b : Bool) → b ≡ true → (a || b) ≡ true
    or_more true b e = refl
    or_more false b e = e

-- each record is among its own
pub all_among : (xs : List Live) → Each (λ (x : Live). has_number (numbers xs) x.number ≡ true) xs
all_among [] = tt
all_among (x ∷ xs) =
    let self : (x.number == x.number) ≡ true = grind (arith, nat_tests) in
    (rw self refl, among_more x.number (numbers xs) xs (all_among xs))

-- of records that are among those that are ready not everything is opened
pub none_opened : (ready xs : List Live) → Each (λ (x : Live). has_number (numbers ready) x.number ≡ true) xs → opened_of ready xs ≡ []
none_opened ready [] e = refl
none_opened ready (x ∷ xs) e = rw e.0 (none_opened ready xs e.1)

pub nothing_there : (handed v n : ℕ) → replicate n [] ≡ by_unit handed v n []
nothing_there handed v zero = refl
nothing_there handed v (suc n) = ap (λ (rest : List (List Live)). [] ∷ rest) (nothing_there handed (v + 1) n)

times_cons : (n : ℕ) (x : Live) (xs : List Live) → times_in n (x ∷ xs) ≡ pay (x.number == n) 1 + times_in n xs
times_cons n x xs = count_cons (λ (y : Live). y.number == n) x xs

times_filter : (n : ℕ) (p : Live → Bool) (x : Live) (xs : List Live) → times_in n (filter p (x ∷ xs)) ≡ pay (p x && (x.number == n)) 1 + times_in n (filter p xs)
times_filter n p x xs = choice (p x)
  where
    choice : (b : Bool) → times_in n (if b then x ∷ filter p xs else filter p xs) ≡ pay (b && (x.number == n)) 1 + times_in n (filter p xs)
    choice true = times_cons n x (filter p xs)
    choice false = omega arith

-- a unit below is in no range
out_of_range : (v k u : ℕ) → u < v → in_range v k u ≡ false
out_of_range v zero u h = refl
out_of_range v (suc k) u h = let e : (u == v) ≡ false = grind (arith, nat_tests) in rw e (out_of_range (v + 1) k u (omega arith))

alone : (a b l e : Bool) → (a ≡ true → b ≡ false) → pay ((a && l) && e) 1 + pay ((b && l) && e) 1 ≡ pay (((a || b) && l) && e) 1
alone true true l e h = let z = h refl in absurd (cc)
alone true false l e h = omega arith
alone false b l e h = omega arith

times_slots : (handed v k n : ℕ) (x : Live) (xs : List Live) → sum_by (times_in n) (by_unit handed v k (x ∷ xs)) ≡ pay ((in_range v k x.unit && nat_le handed x.number) && (x.number == n)) 1 + sum_by (times_in n) (by_unit handed v k xs)
times_slots handed v zero n x xs = omega arith
times_slots handed v (suc k) n x xs =
    let a = sum_by-cons (times_in n) (filter (in_slot handed v) (x ∷ xs)) (by_unit handed (v + 1) k (x ∷ xs)) in
    let b = sum_by-cons (times_in n) (filter (in_slot handed v) xs) (by_unit handed (v + 1) k xs) in
    let c = times_filter n (in_slot handed v) x xs in
    let ih = times_slots handed (v + 1) k n x xs in
    let one = alone (x.unit == v) (in_range (v + 1) k x.unit) (nat_le handed x.number) (x.number == n) (λ e. out_of_range (v + 1) k x.unit (let q = (Decides-eqb x.unit v).0 e in omega arith)) in
    omega (arith, a, b, c, ih, one)

no_slots : (handed v k n : ℕ) → sum_by (times_in n) (by_unit handed v k []) ≡ 0
no_slots handed v zero n = refl
no_slots handed v (suc k) n =
    let a = sum_by-cons (times_in n) [] (by_unit handed (v + 1) k []) in omega (arith, a, no_slots handed (v + 1) k n)

slot_or_entry : (l m e : Bool) → ((l ≡ true) → m ≡ false) → ((l ≡ false) → m ≡ true) → pay ((true && l) && e) 1 + pay (m && e) 1 ≡ pay e 1
slot_or_entry true m e f g = let z = f refl in rw z (omega arith)
slot_or_entry false m e f g = let z = g refl in rw z (omega arith)

-- each record is in a slot of its unit or is an entry record
pub slots_and_entries : (handed k n : ℕ) (xs : List Live) → EachKnown k xs → sum_by (times_in n) (by_unit handed 0 k xs) + times_in n (filter (is_entry_record handed) xs) ≡ times_in n xs
slots_and_entries handed k n [] known = let z = no_slots handed 0 k n in omega (arith, z)
slots_and_entries handed k n (x ∷ xs) known =
    let a = times_slots handed 0 k n x xs in
    let u = known.0 in
    let r : in_range 0 k x.unit ≡ true = within_range 0 k x.unit (omega arith) (omega arith) in
    let a' = subst (λ (b : Bool). sum_by (times_in n) (by_unit handed 0 k (x ∷ xs)) ≡ pay ((b && nat_le handed x.number) && (x.number == n)) 1 + sum_by (times_in n) (by_unit handed 0 k xs)) r a in
    let b = times_filter n (is_entry_record handed) x xs in
    let c = times_cons n x xs in
    let d = slot_or_entry (nat_le handed x.number) (nat_le (x.number + 1) handed) (x.number == n) (λ e. grind (arith, nat_tests)) (λ e. grind (arith, nat_tests)) in
    let ih = slots_and_entries handed k n xs known.1 in
    omega (arith, a', b, c, d, ih)

-- in rising order each number stands once
times_rising : (lo end n : ℕ) (xs : List Live) → Rises lo xs end → times_in n xs ≡ pay (has_number (numbers xs) n) 1
times_rising lo end n [] r = refl
times_rising lo end n (x ∷ xs) r = choice (x.number == n) refl (times_cons n x xs) (times_rising (x.number + 1) end n xs r.1)
  where
    choice : (b : Bool) → (x.number == n) ≡ b → times_in n (x ∷ xs) ≡ pay b 1 + times_in n xs → times_in n xs ≡ pay (has_number (numbers xs) n) 1 → times_in n (x ∷ xs) ≡ pay (b || has_number (numbers xs) n) 1
    choice true e t ih =
        let q = (Decides-eqb x.number n).0 e in
        let none = among_none n (x.number + 1) end xs r.1 (omega arith) in
        let z = ih ∙ ap (λ (b : Bool). pay b 1) none in
        omega (arith, t, z)
    choice false e t ih = omega (arith, t, ih)

nothing : (b : Bool) → pay ((if b then false else true) && false) 1 ≡ 0
nothing true = refl
nothing false = refl

times_opened : (n : ℕ) (ready xs : List Live) → times_in n (opened_of ready xs) ≡ (if has_number (numbers ready) n then 0 else times_in n xs)
times_opened n ready [] = choice (has_number (numbers ready) n)
  where
    choice : (b : Bool) → times_in n [] ≡ (if b then 0 else times_in n [])
    choice true = refl
    choice false = refl
times_opened n ready (x ∷ xs) = go (x.number == n) refl (has_number (numbers ready) n) refl (times_filter n (is_opened ready) x xs) (times_cons n x xs) (times_opened n ready xs)
  where
    go : (e : Bool) → (x.number == n) ≡ e → (b : Bool) → has_number (numbers ready) n ≡ b
        → times_in n (opened_of ready (x ∷ xs)) ≡ pay ((if has_number (numbers ready) x.number then false else true) && e) 1 + times_in n (opened_of ready xs)
        → times_in n (x ∷ xs) ≡ pay e 1 + times_in n xs
        → times_in n (opened_of ready xs) ≡ (if b then 0 else times_in n xs) → times_in n (opened_of ready (x ∷ xs)) ≡ (if b then 0 else times_in n (x ∷ xs))
    go true q true h t c ih =
        let f = subst (λ (m : ℕ). has_number (numbers ready) m ≡ true) (sym ((Decides-eqb x.number n).0 q)) h in
        let z = ap (λ (b : Bool). pay ((if b then false else true) && true) 1) f in
        omega (arith, t, z, ih)
    go true q false h t c ih =
        let f = subst (λ (m : ℕ). has_number (numbers ready) m ≡ false) (sym ((Decides-eqb x.number n).0 q)) h in
        let z = ap (λ (b : Bool). pay ((if b then false else true) && true) 1) f in
        omega (arith, t, c, z, ih)
    go false q true h t c ih =
        let z = nothing (has_number (numbers ready) x.number) in omega (arith, t, z, ih)
    go false q false h t c ih =
        let z = nothing (has_number (numbers ready) x.number) in omega (arith, t, c, z, ih)

-- what is ready and what is opened are the bag
ready_and_opened : (end n : ℕ) (ready bag : List Live) → Rises 0 ready end → Rises 0 bag end → (has_number (numbers ready) n ≡ true → has_number (numbers bag) n ≡ true) → times_in n ready + times_in n (opened_of ready bag) ≡ times_in n bag
ready_and_opened end n ready bag r s h =
    choice (has_number (numbers ready) n) refl (times_rising 0 end n ready r) (times_rising 0 end n bag s) (times_opened n ready bag)
  where
    choice : (b : Bool) → has_number (numbers ready) n ≡ b → times_in n ready ≡ pay b 1 → times_in n bag ≡ pay (has_number (numbers bag) n) 1 → times_in n (opened_of ready bag) ≡ (if b then 0 else times_in n bag) → times_in n ready + times_in n (opened_of ready bag) ≡ times_in n bag
    choice true e a b c = let z = b ∙ ap (λ (q : Bool). pay q 1) (h e) in omega (arith, a, z, c)
    choice false e a b c = omega (arith, a, c)

known_filter : (k : ℕ) (p : Live → Bool) (xs : List Live) → EachKnown k xs → EachKnown k (filter p xs)
known_filter k p [] known = tt
known_filter k p (x ∷ xs) known = choice (p x) (known_filter k p xs known.1)
  where
    choice : (b : Bool) → EachKnown k (filter p xs) → EachKnown k (if b then x ∷ filter p xs else filter p xs)
    choice true rest = (known.0, rest)
    choice false rest = rest

at_most_one : (b : Bool) → pay b 1 ≤ 1
at_most_one true = omega arith
at_most_one false = omega arith

-- each record of a bag has one place
pub one_place : (core : CoreView) (n : ℕ) → IsPlaced core core.bag → HasOnePlace core n
one_place core n p =
    let bag = core.bag in
    let k = length core.shape.units in
    let ready = unopened core.outs bag in
    let opened = opened_of ready bag in
    let waits = ap (sum_by (times_in n)) p.waits in
    let entries = ap (times_in n) p.entries in
    let held = ap (sum_by (times_in n)) p.held in
    let taken = ap (times_in n) p.taken in
    let a = slots_and_entries core.handed k n ready (known_unopened k core.outs bag p.known) in
    let b = slots_and_entries core.handed k n opened (known_filter k (is_opened ready) bag p.known) in
    let c = ready_and_opened core.next n ready bag (rises_unopened 0 core.next core.outs bag p.rises) p.rises (λ e. among_unopened core.outs n bag e) in
    let once = times_rising 0 core.next n bag p.rises in
    let few = at_most_one (has_number (numbers bag) n) in
    record { parts = omega (arith, waits, entries, held, taken, a, b, c); once = omega (arith, once, few) }
