-- The groups of a grid: each stands there once, and its place is below the grid's product.
use Rattle.std.proofs.Common.{◌≡◌, ℕ, zero, suc, ◌+◌, ◌*◌, ◌<◌, ◌≤◌, Bool, true, false, List, [], ◌∷◌, length, map, refl, ap, sym, ◌∙◌, subst, arith}
use Rattle.std.specs.Prelude.{IsTrue, if◌then◌else◌, ◌==◌, ◌&&◌, ◌||◌, slice_index, nat_le}
use Rattle.std.specs.List.{list_any, flat_map, range_with_len}
use Rattle.std.proofs.lemmas.Bool.{and_parts}
use Rattle.std.proofs.lemmas.Bool.Decides.{nat_tests, Decides-eqb}
use Rattle.std.proofs.lemmas.List.Folds.{list_any-append}
use Rattle.std.proofs.Math.Nat.{mul-le-mul_right, suc-mul, mul_assoc, mul_comm}
use Rattle.wg_machine.specs.Grids.{groups_of, groups_in, place_of, has_group, same_group, without_group}
use Rattle.wg_machine.specs.Run.{times}
use Rattle.wg_machine.proofs.Counts.{pay, count_cons, count_append, any_counted}

one_place : (s a h t k : ℕ) → h ≤ pay (s == a) k → t ≤ pay (nat_le (s + 1) a) k → h + t ≤ pay (nat_le s a) k
one_place s a h t k p q = choice (s == a) refl p
  where
    choice : (b : Bool) → (s == a) ≡ b → h ≤ pay b k → h + t ≤ pay (nat_le s a) k
    choice true e p =
        let f : nat_le (s + 1) a ≡ false = grind (arith, nat_tests) in
        let g : nat_le s a ≡ true = grind (arith, nat_tests) in
        let q' = subst (λ (b : Bool). t ≤ pay b k) f q in
        subst (λ (b : Bool). h + t ≤ pay b k) (sym g) (omega (arith, p, q'))
    choice false e p =
        let g : nat_le s a ≡ nat_le (s + 1) a = grind (arith, nat_tests) in
        subst (λ (b : Bool). h + t ≤ pay b k) (sym g) (omega (arith, p, q))

planes : (at : List ℕ) (f : ℕ → List (List ℕ)) (a k s n : ℕ) → ((y : ℕ) → times at (f y) ≤ pay (y == a) k) → times at (flat_map f (range_with_len s n)) ≤ pay (nat_le s a) k
planes at f a k s zero h = omega arith
planes at f a k s (suc n) h =
    let e = count_append (λ (g : List ℕ). same_group g at) (f s) (flat_map f (range_with_len (s + 1) n)) in
    let q = one_place s a (times at (f s)) (times at (flat_map f (range_with_len (s + 1) n))) k (h s) (planes at f a k (s + 1) n h) in
    omega (arith, e, q)

rows : (at : List ℕ) (g : ℕ → List ℕ) (a k s n : ℕ) → ((x : ℕ) → pay (same_group (g x) at) 1 ≤ pay (x == a) k) → times at (map g (range_with_len s n)) ≤ pay (nat_le s a) k
rows at g a k s zero h = omega arith
rows at g a k s (suc n) h =
    let e = count_cons (λ (h : List ℕ). same_group h at) (g s) (map g (range_with_len (s + 1) n)) in
    let q = one_place s a (pay (same_group (g s) at) 1) (times at (map g (range_with_len (s + 1) n))) k (h s) (rows at g a k (s + 1) n h) in
    omega (arith, e, q)

at_most : (b : Bool) (k n : ℕ) → n ≤ pay b k → n ≤ k
at_most true k n h = h
at_most false k n h = omega arith

both : (l p q r : Bool) → pay (((l && p) && q) && r) 1 ≤ pay p (pay q (pay r 1))
both false p q r = omega arith
both true true true true = omega arith
both true true true false = omega arith
both true true false r = omega arith
both true false q r = omega arith

pub once_in_grid : (grid at : List ℕ) → times at (groups_of grid) ≤ 1
once_in_grid grid at =
    at_most (nat_le 0 (slice_index at 2)) 1 (times at (groups_of grid)) (
    planes at _ (slice_index at 2) 1 0 (slice_index grid 2) (λ z.
    at_most (nat_le 0 (slice_index at 1)) (pay (z == slice_index at 2) 1) _ (
    planes at _ (slice_index at 1) (pay (z == slice_index at 2) 1) 0 (slice_index grid 1) (λ y.
    at_most (nat_le 0 (slice_index at 0)) (pay (y == slice_index at 1) (pay (z == slice_index at 2) 1)) _ (
    rows at (λ x. x ∷ y ∷ z ∷ []) (slice_index at 0) (pay (y == slice_index at 1) (pay (z == slice_index at 2) 1)) 0 (slice_index grid 0) (λ x.
    both (3 == length at) (x == slice_index at 0) (y == slice_index at 1) (z == slice_index at 2)))))))

-- a number of a range that passes
record Passes (a n : ℕ) (p : ℕ → Bool) : Type 0 where
  number : ℕ
  from : a ≤ number
  below : number < a + n
  passes : p number ≡ true

any_map : (q : List ℕ → Bool) (f : ℕ → List ℕ) (a n : ℕ) → list_any q (map f (range_with_len a n)) ≡ true → Passes a n (λ k. q (f k))
any_map q f a zero h = absurd (cc)
any_map q f a (suc n) h = choice (λ k. any_map q f (a + 1) n k) (q (f a)) refl h
  where
    choice : (list_any q (map f (range_with_len (a + 1) n)) ≡ true → Passes (a + 1) n (λ k. q (f k))) → (b : Bool) → q (f a) ≡ b → (b || list_any q (map f (range_with_len (a + 1) n))) ≡ true → Passes a (suc n) (λ k. q (f k))
    choice ih true e h = record { number = a; from = omega arith; below = omega arith; passes = e }
    choice ih false e h = let r = ih h in record { number = r.number; from = (let x = r.from in omega arith); below = (let x = r.below in omega arith); passes = r.passes }

any_flat : (q : List ℕ → Bool) (f : ℕ → List (List ℕ)) (a n : ℕ) → list_any q (flat_map f (range_with_len a n)) ≡ true → Passes a n (λ k. list_any q (f k))
any_flat q f a zero h = absurd (cc)
any_flat q f a (suc n) h = choice (λ k. any_flat q f (a + 1) n k) (list_any q (f a)) refl (sym (list_any-append q (f a) (flat_map f (range_with_len (a + 1) n))) ∙ h)
  where
    choice : (list_any q (flat_map f (range_with_len (a + 1) n)) ≡ true → Passes (a + 1) n (λ k. list_any q (f k))) → (b : Bool) → list_any q (f a) ≡ b → (b || list_any q (flat_map f (range_with_len (a + 1) n))) ≡ true → Passes a (suc n) (λ k. list_any q (f k))
    choice ih true e h = record { number = a; from = omega arith; below = omega arith; passes = e }
    choice ih false e h = let r = ih h in record { number = r.number; from = (let x = r.from in omega arith); below = (let x = r.below in omega arith); passes = r.passes }

-- one digit before others
digit : (n r m d : ℕ) → n < m → r < d → n * d + r < m * d
digit n r m d less small =
    let a : suc n * d ≤ m * d = mul-le-mul_right d less in
    let b : suc n * d ≡ n * d + d = suc-mul n d in
    omega arith

place_below : (x y z gx gy gz : ℕ) → x < gx → y < gy → z < gz → z * (gy * gx) + (y * gx + x) < gz * (gy * gx)
place_below x y z gx gy gz hx hy hz = digit z (y * gx + x) gz (gy * gx) hz (digit y x gy gx hy hx)

pub place_in_grid : (grid at : List ℕ) → IsTrue (has_group (groups_of grid) at) → place_of grid at < groups_in grid
place_in_grid grid at h =
    let gx = slice_index grid 0 in
    let gy = slice_index grid 1 in
    let gz = slice_index grid 2 in
    let q = λ (g : List ℕ). same_group g at in
    let row = λ (z y : ℕ). map (λ (x : ℕ). x ∷ y ∷ z ∷ []) (range_with_len 0 gx) in
    let plane = λ (z : ℕ). flat_map (row z) (range_with_len 0 gy) in
    let pz = any_flat q plane 0 gz h in
    let z = pz.number in
    let py = any_flat q (row z) 0 gy pz.passes in
    let y = py.number in
    let px = any_map q (λ (x : ℕ). x ∷ y ∷ z ∷ []) 0 gx py.passes in
    let x = px.number in
    let both = and_parts ((3 == length at) && (x == slice_index at 0) && (y == slice_index at 1)) (z == slice_index at 2) px.passes in
    let two = and_parts ((3 == length at) && (x == slice_index at 0)) (y == slice_index at 1) both.0 in
    let one = and_parts (3 == length at) (x == slice_index at 0) two.0 in
    let ex : x ≡ slice_index at 0 = (Decides-eqb x (slice_index at 0)).0 one.1 in
    let ey : y ≡ slice_index at 1 = (Decides-eqb y (slice_index at 1)).0 two.1 in
    let ez : z ≡ slice_index at 2 = (Decides-eqb z (slice_index at 2)).0 both.1 in
    let bx : x < gx = (let k = px.below in omega arith) in
    let by' : y < gy = (let k = py.below in omega arith) in
    let bz : z < gz = (let k = pz.below in omega arith) in
    let less = place_below x y z gx gy gz bx by' bz in
    let left : z * gx * gy ≡ z * (gy * gx) = mul_assoc z gx gy ∙ ap (λ (k : ℕ). z * k) (mul_comm gx gy) in
    let right : gx * gy * gz ≡ gz * (gy * gx) = mul_comm (gx * gy) gz ∙ ap (λ (k : ℕ). gz * k) (mul_comm gx gy) in
    let here : z * gx * gy + y * gx + x < gx * gy * gz = omega arith in
    subst (λ (k : ℕ). slice_index at 2 * gx * gy + slice_index at 1 * gx + k < gx * gy * gz) ex
    (subst (λ (k : ℕ). slice_index at 2 * gx * gy + k * gx + x < gx * gy * gz) ey
    (subst (λ (k : ℕ). k * gx * gy + y * gx + x < gx * gy * gz) ez here))

-- a group stands in a list where it stands there some times
pub has_times : (groups : List (List ℕ)) (at : List ℕ) → IsTrue (has_group groups at) → 1 ≤ times at groups
has_times groups at h = any_counted (λ (g : List ℕ). same_group g at) groups h

pub times_has : (groups : List (List ℕ)) (at : List ℕ) → 1 ≤ times at groups → IsTrue (has_group groups at)
times_has [] at h = absurd (omega arith)
times_has (g ∷ groups) at h = choice (λ k. times_has groups at k) (same_group g at) refl
  where
    choice : (1 ≤ times at groups → IsTrue (has_group groups at)) → (b : Bool) → same_group g at ≡ b → IsTrue (b || has_group groups at)
    choice later true e = refl
    choice later false e =
        let c = count_cons (λ (k : List ℕ). same_group k at) g groups in
        let d = ap (λ b. pay b 1) e in
        later (omega (arith, c, d))

-- a list without a group has no group more often
pub times_without : (e at : List ℕ) (groups : List (List ℕ)) → times at (without_group e groups) ≤ times at groups
times_without e at [] = omega arith
times_without e at (g ∷ groups) = choice (times_without e at groups) (same_group g e)
  where
    choice : times at (without_group e groups) ≤ times at groups → (b : Bool) → times at (if b then groups else g ∷ without_group e groups) ≤ times at (g ∷ groups)
    choice ih true = let c = count_cons (λ (k : List ℕ). same_group k at) g groups in omega (arith, c)
    choice ih false =
        let c = count_cons (λ (k : List ℕ). same_group k at) g groups in
        let d = count_cons (λ (k : List ℕ). same_group k at) g (without_group e groups) in
        omega (arith, c, d, ih)
