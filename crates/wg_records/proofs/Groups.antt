-- The groups of a grid: each stands there once. What is left of a list without a group.
use Rattle.std.proofs.Common.{◌≡◌, ℕ, zero, suc, ◌+◌, ◌*◌, Bool, true, false, List, [], ◌∷◌, ◌++◌, length, map, refl, ap, sym, ◌∙◌, subst, arith}
use Rattle.std.specs.Prelude.{if◌then◌else◌, ◌==◌, ◌&&◌, ◌||◌, slice_index, nat_le, nat_lt, count_by}
use Rattle.std.specs.List.{flat_map, range_with_len}
use Rattle.std.proofs.lemmas.Bool.Decides.{nat_tests}
use Rattle.std.proofs.lemmas.List.{length-append}
use Rattle.std.proofs.lemmas.List.Sums.{sum_by-cons}
use Rattle.std.proofs.Math.Nat.{mul_comm}
use Rattle.wg_machine.specs.Grids.{groups_of, groups_in, has_group, same_group, without_group}
use Rattle.wg_machine.specs.Run.{times}
use Rattle.wg_records.specs.Slots.{is_inside}

abbrev pub pay : Bool → ℕ → ℕ
pay b n = if b then n else 0

count_cons : {X : Type 0} → (p : X → Bool) (x : X) (xs : List X) → count_by p (x ∷ xs) ≡ pay (p x) 1 + count_by p xs
count_cons p x xs = sum_by-cons (λ y. if p y then 1 else 0) x xs

count_append : {X : Type 0} → (p : X → Bool) (xs ys : List X) → count_by p (xs ++ ys) ≡ count_by p xs + count_by p ys
count_append p [] ys = omega arith
count_append p (x ∷ xs) ys =
    let a = count_cons p x xs in
    let b = count_cons p x (xs ++ ys) in
    let c = count_append p xs ys in
    omega (arith, a, b, c)

pub times_cons : (at g : List ℕ) (gs : List (List ℕ)) → times at (g ∷ gs) ≡ pay (same_group g at) 1 + times at gs
times_cons at g gs = count_cons (λ (h : List ℕ). same_group h at) g gs

-- a number is one of so many from s on
abbrev in_range : ℕ → ℕ → ℕ → Bool
in_range s n a = nat_le s a && nat_lt a (s + n)

one_more : (s n a h t k : ℕ) → h ≡ pay (s == a) k → t ≡ pay (in_range (s + 1) n a) k → h + t ≡ pay (in_range s (suc n) a) k
one_more s n a h t k p q = choice (s == a) refl p
  where
    choice : (b : Bool) → (s == a) ≡ b → h ≡ pay b k → h + t ≡ pay (in_range s (suc n) a) k
    choice true e p =
        let f : in_range (s + 1) n a ≡ false = grind (arith, nat_tests) in
        let g : in_range s (suc n) a ≡ true = grind (arith, nat_tests) in
        let q' = subst (λ (b : Bool). t ≡ pay b k) f q in
        subst (λ (b : Bool). h + t ≡ pay b k) (sym g) (omega (arith, p, q'))
    choice false e p =
        let g : in_range s (suc n) a ≡ in_range (s + 1) n a = grind (arith, nat_tests) in
        subst (λ (b : Bool). h + t ≡ pay b k) (sym g) (omega (arith, p, q))

none_in : (s a k : ℕ) → 0 ≡ pay (in_range s 0 a) k
none_in s a k = let f : in_range s 0 a ≡ false = grind (arith, nat_tests) in subst (λ (b : Bool). 0 ≡ pay b k) (sym f) refl

planes : (at : List ℕ) (f : ℕ → List (List ℕ)) (a k s n : ℕ) → ((y : ℕ) → times at (f y) ≡ pay (y == a) k) → times at (flat_map f (range_with_len s n)) ≡ pay (in_range s n a) k
planes at f a k s zero h = none_in s a k
planes at f a k s (suc n) h =
    count_append (λ (g : List ℕ). same_group g at) (f s) (flat_map f (range_with_len (s + 1) n))
    ∙ one_more s n a (times at (f s)) (times at (flat_map f (range_with_len (s + 1) n))) k (h s) (planes at f a k (s + 1) n h)

rows : (at : List ℕ) (g : ℕ → List ℕ) (a k s n : ℕ) → ((x : ℕ) → pay (same_group (g x) at) 1 ≡ pay (x == a) k) → times at (map g (range_with_len s n)) ≡ pay (in_range s n a) k
rows at g a k s zero h = none_in s a k
rows at g a k s (suc n) h =
    times_cons at (g s) (map g (range_with_len (s + 1) n))
    ∙ one_more s n a (pay (same_group (g s) at) 1) (times at (map g (range_with_len (s + 1) n))) k (h s) (rows at g a k (s + 1) n h)

one_by_one : (l p q r : Bool) → l ≡ true → pay (((l && p) && q) && r) 1 ≡ pay p (pay q (pay r 1))
one_by_one false p q r e = absurd (cc)
one_by_one true false q r e = refl
one_by_one true true false r e = refl
one_by_one true true true r e = refl

swap : (p q : Bool) (n : ℕ) → pay p (pay q n) ≡ pay q (pay p n)
swap true true n = refl
swap true false n = refl
swap false true n = refl
swap false false n = refl

all_three : (p q r : Bool) → pay r (pay q (pay p 1)) ≡ (if (p && q) && r then 1 else 0)
all_three true true true = refl
all_three true true false = refl
all_three true false true = refl
all_three true false false = refl
all_three false true true = refl
all_three false true false = refl
all_three false false true = refl
all_three false false false = refl

from_zero : (n a : ℕ) → in_range 0 n a ≡ nat_lt a n
from_zero n a = grind (arith, nat_tests)

-- each group of a grid stands there once, and no other does
pub times_grid : (grid at : List ℕ) → length at ≡ 3 → times at (groups_of grid) ≡ (if is_inside grid at then 1 else 0)
times_grid grid at three =
    let gx = slice_index grid 0 in
    let gy = slice_index grid 1 in
    let gz = slice_index grid 2 in
    let ax = slice_index at 0 in
    let ay = slice_index at 1 in
    let az = slice_index at 2 in
    let l : (3 == length at) ≡ true = ap (λ (n : ℕ). 3 == n) three in
    let px = in_range 0 gx ax in
    let py = in_range 0 gy ay in
    let row : (z y : ℕ) → times at (map (λ (x : ℕ). x ∷ y ∷ z ∷ []) (range_with_len 0 gx)) ≡ pay (y == ay) (pay (z == az) (pay px 1)) =
    (λ z y.
    rows at (λ (x : ℕ). x ∷ y ∷ z ∷ []) ax (pay (y == ay) (pay (z == az) 1)) 0 gx (λ x. one_by_one (3 == length at) (x == ax) (y == ay) (z == az) l)
    ∙ swap px (y == ay) (pay (z == az) 1) ∙ ap (pay (y == ay)) (swap px (z == az) 1)) in
    let plane : (z : ℕ) → times at (flat_map (λ (y : ℕ). map (λ (x : ℕ). x ∷ y ∷ z ∷ []) (range_with_len 0 gx)) (range_with_len 0 gy)) ≡ pay (z == az) (pay py (pay px 1)) =
    (λ z. planes at _ ay (pay (z == az) (pay px 1)) 0 gy (row z) ∙ swap py (z == az) (pay px 1)) in
    planes at _ az (pay py (pay px 1)) 0 gz plane
    ∙ all_three px py (in_range 0 gz az)
    ∙ ap (λ (b : Bool). if (b && py) && in_range 0 gz az then 1 else 0) (from_zero gx ax)
    ∙ ap (λ (b : Bool). if (nat_lt ax gx && b) && in_range 0 gz az then 1 else 0) (from_zero gy ay)
    ∙ ap (λ (b : Bool). if (nat_lt ax gx && nat_lt ay gy) && b then 1 else 0) (from_zero gz az)

length_map : (g : ℕ → List ℕ) (s n : ℕ) → length (map g (range_with_len s n)) ≡ n
length_map g s zero = refl
length_map g s (suc n) = ap suc (length_map g (s + 1) n)

length_flat : (f : ℕ → List (List ℕ)) (k s n : ℕ) → ((y : ℕ) → length (f y) ≡ k) → length (flat_map f (range_with_len s n)) ≡ n * k
length_flat f k s zero h = let z : 0 * k ≡ 0 = omega arith in sym z
length_flat f k s (suc n) h =
    let a = length-append (f s) (flat_map f (range_with_len (s + 1) n)) in
    let b = h s in
    let c = length_flat f k (s + 1) n h in
    let d : suc n * k ≡ k + n * k = omega arith in
    omega (arith, a, b, c, d)

pub length_grid : (grid : List ℕ) → length (groups_of grid) ≡ groups_in grid
length_grid grid =
    let gx = slice_index grid 0 in
    let gy = slice_index grid 1 in
    let gz = slice_index grid 2 in
    let row = λ (z y : ℕ). map (λ (x : ℕ). x ∷ y ∷ z ∷ []) (range_with_len 0 gx) in
    length_flat (λ z. flat_map (row z) (range_with_len 0 gy)) (gy * gx) 0 gz (λ z. length_flat (row z) gx 0 gy (λ y. length_map (λ (x : ℕ). x ∷ y ∷ z ∷ []) 0 gx))
    ∙ ap (λ (k : ℕ). gz * k) (mul_comm gy gx) ∙ mul_comm gz (gx * gy)

same_as : (g a b : List ℕ) → same_group g a ≡ true → same_group g b ≡ same_group a b
same_as g a b e = grind (arith, nat_tests)

-- a list without a group has that group once less, and each other one as often
pub times_without : (at b : List ℕ) (gs : List (List ℕ)) → has_group gs at ≡ true → times b (without_group at gs) + pay (same_group at b) 1 ≡ times b gs
times_without at b [] h = absurd (cc)
times_without at b (g ∷ gs) h = choice (λ k. times_without at b gs k) (same_group g at) refl h
  where
    choice : (has_group gs at ≡ true → times b (without_group at gs) + pay (same_group at b) 1 ≡ times b gs) → (t : Bool) → same_group g at ≡ t → (t || has_group gs at) ≡ true → times b (if t then gs else g ∷ without_group at gs) + pay (same_group at b) 1 ≡ times b (g ∷ gs)
    choice ih true e h =
        let c = times_cons b g gs in
        let s = ap (λ (t : Bool). pay t 1) (same_as g at b e) in
        omega (arith, c, s)
    choice ih false e h =
        let c = times_cons b g gs in
        let d = times_cons b g (without_group at gs) in
        let i = ih h in
        omega (arith, c, d, i)

pub length_without : (at : List ℕ) (gs : List (List ℕ)) → has_group gs at ≡ true → length (without_group at gs) + 1 ≡ length gs
length_without at [] h = absurd (cc)
length_without at (g ∷ gs) h = choice (λ k. length_without at gs k) (same_group g at) h
  where
    choice : (has_group gs at ≡ true → length (without_group at gs) + 1 ≡ length gs) → (t : Bool) → (t || has_group gs at) ≡ true → length (if t then gs else g ∷ without_group at gs) + 1 ≡ length (g ∷ gs)
    choice ih true h = omega arith
    choice ih false h = let i = ih h in omega (arith, i)

-- a group stands in a list where it stands there some times
pub has_times : (at : List ℕ) (gs : List (List ℕ)) (b : Bool) → times at gs ≡ (if b then 1 else 0) → has_group gs at ≡ b
has_times at [] true h = absurd (omega (arith, h))
has_times at [] false h = refl
has_times at (g ∷ gs) b h = choice (λ d k. has_times at gs d k) (same_group g at) b refl h
  where
    choice : ((d : Bool) → times at gs ≡ (if d then 1 else 0) → has_group gs at ≡ d) → (t b : Bool) → same_group g at ≡ t → times at (g ∷ gs) ≡ (if b then 1 else 0) → (t || has_group gs at) ≡ b
    choice ih true true e h = refl
    choice ih true false e h =
        let c = times_cons at g gs in
        let d = ap (λ (t : Bool). pay t 1) e in
        absurd (omega (arith, c, d, h))
    choice ih false b e h =
        let c = times_cons at g gs in
        let d = ap (λ (t : Bool). pay t 1) e in
        ih b (let z : times at gs ≡ times at (g ∷ gs) = omega (arith, c, d) in z ∙ h)
