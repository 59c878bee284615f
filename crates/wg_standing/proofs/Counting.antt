-- How many slots a settling frees.
use Rattle.std.proofs.Common.{None, ◌≡◌, ℕ, ◌+◌, ◌<◌, ◌≤◌, Bool, true, false, cond, List, [], ◌∷◌, ◌++◌, refl, ap, sym, ◌∙◌, subst, arith}
use Rattle.std.specs.Prelude.{if◌then◌else◌, ◌==◌, ◌&&◌, count_by, nat_le}
use Rattle.std.proofs.lemmas.Bool.Decides.{nat_tests}
use Rattle.std.proofs.lemmas.List.Sums.{sum_by-cons}
use Rattle.wg_machine.specs.declared.launch.Live.{Live}
use Rattle.wg_machine.specs.State.{kept}
use Rattle.wg_machine.specs.Step.{left_after, has_number, taken, IsReady}
use Rattle.wg_machine.specs.Grids.{without_group}
use Rattle.wg_standing.specs.Standing.{Rises, in_slot}
use Rattle.wg_words.specs.Each.{Each}
use Rattle.wg_standing.proofs.Commute.{live_with, ran}
use Rattle.wg_standing.proofs.Rising.{numbers, among_none, rises_left}

pub count_cons : {X : Type 0} → (p : X → Bool) (x : X) (xs : List X) → count_by p (x ∷ xs) ≡ (if p x then 1 else 0) + count_by p xs
count_cons p x xs = sum_by-cons (λ y. cond (p y) 1 0) x xs

pub count_append : {X : Type 0} → (p : X → Bool) (xs ys : List X) → count_by p (xs ++ ys) ≡ count_by p xs + count_by p ys
count_append p [] ys = omega arith
count_append p (x ∷ xs) ys =
    let a = count_cons p x xs in
    let b = count_cons p x (xs ++ ys) in
    let c = count_append p xs ys in omega (arith, a, b, c)

abbrev pub is_nil : List (List ℕ) → Bool
is_nil [] = true
is_nil (g ∷ gs) = false

abbrev pub pay : Bool → ℕ → ℕ
pay b n = if b then n else 0

abbrev pub opposite : Bool → Bool
opposite b = if b then false else true

-- a launch takes the last group of the record
abbrev pub empties : List ℕ → List ℕ → Live → Bool
empties nums at x = has_number nums x.number && is_nil (without_group at x.groups)

count_kept : (p : ℕ → ℕ → Bool) (number unit : ℕ) (words grid : List ℕ) (gs : List (List ℕ)) (rest : List Live) → count_by (λ (x : Live). p x.unit x.number) (kept (live_with number unit words grid gs) ++ rest) ≡ (if p unit number && opposite (is_nil gs) then 1 else 0) + count_by (λ (x : Live). p x.unit x.number) rest
count_kept p number unit words grid [] rest = choice (p unit number)
  where
    choice : (b : Bool) → count_by (λ (x : Live). p x.unit x.number) rest ≡ (if b && false then 1 else 0) + count_by (λ (x : Live). p x.unit x.number) rest
    choice true = omega arith
    choice false = omega arith
count_kept p number unit words grid (g ∷ gs) rest = choice (p unit number) (count_cons (λ (x : Live). p x.unit x.number) (live_with number unit words grid (g ∷ gs)) rest)
  where
    choice : (b : Bool) → count_by (λ (x : Live). p x.unit x.number) (live_with number unit words grid (g ∷ gs) ∷ rest) ≡ (if b then 1 else 0) + count_by (λ (x : Live). p x.unit x.number) rest → count_by (λ (x : Live). p x.unit x.number) (live_with number unit words grid (g ∷ gs) ∷ rest) ≡ (if b && true then 1 else 0) + count_by (λ (x : Live). p x.unit x.number) rest
    choice true e = e
    choice false e = e

parts : (p n : Bool) (a b : ℕ) → (if p then 1 else 0) + (a + b) ≡ ((if p && opposite n then 1 else 0) + a) + ((if p && n then 1 else 0) + b)
parts true true a b = omega arith
parts true false a b = omega arith
parts false true a b = omega arith
parts false false a b = omega arith

none_of : (p : Bool) (b : ℕ) → (if p && false then 1 else 0) + b ≡ b
none_of true b = omega arith
none_of false b = omega arith

-- those of a kind in the bag are those after the launch, and those that it takes out
pub count_left : (p : ℕ → ℕ → Bool) (nums at : List ℕ) (bag : List Live) → count_by (λ (x : Live). p x.unit x.number) bag ≡ count_by (λ (x : Live). p x.unit x.number) (left_after nums at None bag) + count_by (λ (x : Live). p x.unit x.number && empties nums at x) bag
count_left p nums at [] = refl
count_left p nums at (x ∷ bag) =
    choice (count_left p nums at bag) (has_number nums x.number) (count_cons (λ (y : Live). p y.unit y.number) x bag) (count_cons (λ (y : Live). p y.unit y.number && empties nums at y) x bag)
  where
    q : Live → Bool
    q y = p y.unit y.number

    choice : count_by (λ (y : Live). p y.unit y.number) bag ≡ count_by (λ (y : Live). p y.unit y.number) (left_after nums at None bag) + count_by (λ (y : Live). p y.unit y.number && empties nums at y) bag → (b : Bool) → count_by (λ (y : Live). p y.unit y.number) (x ∷ bag) ≡ (if p x.unit x.number then 1 else 0) + count_by (λ (y : Live). p y.unit y.number) bag → count_by (λ (y : Live). p y.unit y.number && empties nums at y) (x ∷ bag) ≡ (if p x.unit x.number && (b && is_nil (without_group at x.groups)) then 1 else 0) + count_by (λ (y : Live). p y.unit y.number && empties nums at y) bag → count_by (λ (y : Live). p y.unit y.number) (x ∷ bag) ≡ count_by (λ (y : Live). p y.unit y.number) (ran b at x ++ left_after nums at None bag) + count_by (λ (y : Live). p y.unit y.number && empties nums at y) (x ∷ bag)
    choice ih true e f =
        let k = count_kept p x.number x.unit x.words x.grid (without_group at x.groups) (left_after nums at None bag) in
        let m = parts (p x.unit x.number) (is_nil (without_group at x.groups)) (count_by (λ (y : Live). p y.unit y.number) (left_after nums at None bag)) (count_by (λ (y : Live). p y.unit y.number && empties nums at y) bag) in
        omega (arith, ih, e, f, k, m)
    choice ih false e f =
        let k = count_cons (λ (y : Live). p y.unit y.number) x (left_after nums at None bag) in
        let m = none_of (p x.unit x.number) (count_by (λ (y : Live). p y.unit y.number && empties nums at y) bag) in
        omega (arith, ih, e, f, k, m)

-- what a test says of the records that a launch takes
abbrev pub EachAgrees : (Live → Bool) → (ℕ → Bool) → List ℕ → List Live → Type 0
EachAgrees p f nums [] = Unit {0}
EachAgrees p f nums (x ∷ bag) = (has_number nums x.number ≡ true → p x ≡ f x.number) × EachAgrees p f nums bag

self_eq : (n : ℕ) → (n == n) ≡ true
self_eq n = grind (arith, nat_tests)

not_eq : (m n : ℕ) → m < n → (m == n) ≡ false
not_eq m n h = grind (arith, nat_tests)

among_skip : (at : List ℕ) (x : Live) (rest : List Live) (b : Bool) (n : ℕ) → x.number < n → has_number (numbers (ran b at x ++ rest)) n ≡ has_number (numbers rest) n
among_skip at x rest true n h = go (without_group at x.groups)
  where
    go : (gs : List (List ℕ)) → has_number (numbers (kept (live_with x.number x.unit x.words x.grid gs) ++ rest)) n ≡ has_number (numbers rest) n
    go [] = refl
    go (g ∷ gs) = rw (not_eq x.number n h) refl
among_skip at x rest false n h = rw (not_eq x.number n h) refl

pub agrees : (nums at : List ℕ) (f : ℕ → Bool) (lo end : ℕ) (bag : List Live) → Rises lo bag end → ((n : ℕ) → lo ≤ n → f n ≡ opposite (has_number (numbers (left_after nums at None bag)) n)) → EachAgrees (λ (x : Live). is_nil (without_group at x.groups)) f nums bag
agrees nums at f lo end [] r h = tt
agrees nums at f lo end (x ∷ bag) r h = (
  λ e. go (without_group at x.groups) (subst (λ (b : Bool). f x.number ≡ opposite (has_number (numbers (ran b at x ++ left_after nums at None bag)) x.number)) e (h x.number r.0)),
  agrees nums at f (x.number + 1) end bag r.1 (λ n low. let a = r.0 in h n (omega arith) ∙ ap opposite (among_skip at x (left_after nums at None bag) (has_number nums x.number) n (omega arith))),
)
  where
    go : (gs : List (List ℕ)) → f x.number ≡ opposite (has_number (numbers (kept (live_with x.number x.unit x.words x.grid gs) ++ left_after nums at None bag)) x.number) → is_nil gs ≡ f x.number
    go [] e =
        let none = among_none x.number (x.number + 1) end (left_after nums at None bag) (rises_left (x.number + 1) end nums at bag r.1) (omega arith) in
        sym (e ∙ ap opposite none)
    go (g ∷ gs) e = sym (e ∙ rw (self_eq x.number) refl)

head_test : (a b l e g : Bool) → a ≡ b → ((l && e) ≡ g) → pay ((a && l) && (true && e)) 1 ≡ pay b (pay g 1)
head_test true true true e g p q = ap (λ (t : Bool). pay t 1) q
head_test true true false e g p q = ap (λ (t : Bool). pay t 1) q
head_test false false true e g p q = refl
head_test false false false e g p q = refl
head_test true false l e g p q = absurd (cc)
head_test false true l e g p q = absurd (cc)

if_sum : (b : Bool) (m n : ℕ) → (if b then m else 0) + (if b then n else 0) ≡ (if b then m + n else 0)
if_sum true m n = refl
if_sum false m n = refl

-- those that a launch takes out of slots of a unit
pub count_gone : (handed w unit : ℕ) (nums at : List ℕ) (f : ℕ → Bool) (bag : List Live) → Each (IsReady unit at) (taken nums bag) → EachAgrees (λ (x : Live). is_nil (without_group at x.groups)) f nums bag → count_by (λ (x : Live). in_slot handed w x && empties nums at x) bag ≡ (if w == unit then count_by (λ n. nat_le handed n && f n) (numbers (taken nums bag)) else 0)
count_gone handed w unit nums at f [] r a = zero_is (w == unit)
  where
    zero_is : (b : Bool) → 0 ≡ pay b 0
    zero_is true = refl
    zero_is false = refl
count_gone handed w unit nums at f (x ∷ bag) r a = choice (λ k. count_gone handed w unit nums at f bag k a.1) (has_number nums x.number) refl r (count_cons (λ (y : Live). in_slot handed w y && empties nums at y) x bag)
  where
    choice : (Each (IsReady unit at) (taken nums bag) → count_by (λ (y : Live). in_slot handed w y && empties nums at y) bag ≡ (if w == unit then count_by (λ n. nat_le handed n && f n) (numbers (taken nums bag)) else 0)) → (b : Bool) → has_number nums x.number ≡ b → Each (IsReady unit at) (if b then x ∷ taken nums bag else taken nums bag) → count_by (λ (y : Live). in_slot handed w y && empties nums at y) (x ∷ bag) ≡ (if in_slot handed w x && (b && is_nil (without_group at x.groups)) then 1 else 0) + count_by (λ (y : Live). in_slot handed w y && empties nums at y) bag → count_by (λ (y : Live). in_slot handed w y && empties nums at y) (x ∷ bag) ≡ (if w == unit then count_by (λ n. nat_le handed n && f n) (numbers (if b then x ∷ taken nums bag else taken nums bag)) else 0)
    choice ih true e r c =
        let k = ih r.1 in
        let u : (x.unit == w) ≡ (w == unit) = (ap (λ (n : ℕ). n == w) r.0.unit_is) ∙ (let s : (unit == w) ≡ (w == unit) = grind (arith, nat_tests) in s) in
        let t = head_test (x.unit == w) (w == unit) (nat_le handed x.number) (is_nil (without_group at x.groups)) (nat_le handed x.number && f x.number) u (ap (λ (b : Bool). nat_le handed x.number && b) (a.0 e)) in
        let m = if_sum (w == unit) (if (nat_le handed x.number && f x.number) then 1 else 0) (count_by (λ n. nat_le handed n && f n) (numbers (taken nums bag))) in
        let d = ap (λ (n : ℕ). if w == unit then n else 0) (count_cons (λ n. nat_le handed n && f n) x.number (numbers (taken nums bag))) in
        omega (arith, k, t, m, d, c)
    choice ih false e r c =
        let k = ih r in
        let m = none_of (in_slot handed w x) (count_by (λ (y : Live). in_slot handed w y && empties nums at y) bag) in
        omega (arith, k, m, c)
