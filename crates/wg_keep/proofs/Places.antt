-- A group's coordinates, by its place in the grid.
use Rattle.std.proofs.Common.{◌≡◌, ℕ, zero, suc, ◌+◌, ◌*◌, ◌<◌, ◌≤◌, List, [], ◌∷◌, ◌++◌, length, map, refl, ap, sym, ◌∙◌, arith, Some, length-append, inl, inr, ◌⊎◌, Bool, true, false}
use Rattle.std.specs.Prelude.{slice_get, slice_index}
use Rattle.std.specs.List.{flat_map, range_with_len}
use Rattle.std.proofs.Math.Nat.{mul-le-mul_right}
use Rattle.std.proofs.lemmas.Nat.{div-add-mod', mod_below}
use Rattle.std.specs.Prelude.{◌/◌, ◌%◌, nat_le}
use Rattle.std.proofs.lemmas.Bool.Decides.{nat_tests}
use Rattle.wg_machine.specs.Grids.{groups_in, groups_of, place_of}

get_left : (xs ys : List (List ℕ)) (i : ℕ) → i < length xs → slice_get (xs ++ ys) i ≡ slice_get xs i
get_left [] ys i h = absurd (omega arith)
get_left (x ∷ xs) ys zero h = refl
get_left (x ∷ xs) ys (suc i) h = get_left xs ys i (omega arith)

get_right : (xs ys : List (List ℕ)) (i : ℕ) → slice_get (xs ++ ys) (length xs + i) ≡ slice_get ys i
get_right [] ys i = let e : 0 + i ≡ i = omega arith in ap (slice_get ys) e
get_right (x ∷ xs) ys i = let e : suc (length xs) + i ≡ suc (length xs + i) = omega arith in ap (slice_get (x ∷ (xs ++ ys))) e ∙ get_right xs ys i

get_map : (g : ℕ → List ℕ) (s n i : ℕ) → i < n → slice_get (map g (range_with_len s n)) i ≡ Some (g (s + i))
get_map g s zero i h = absurd (omega arith)
get_map g s (suc n) zero h = let e : s ≡ s + 0 = omega arith in ap (λ (x : ℕ). Some (g x)) e
get_map g s (suc n) (suc i) h = let e : s + 1 + i ≡ s + suc i = omega arith in get_map g (s + 1) n i (omega arith) ∙ ap (λ (x : ℕ). Some (g x)) e

length_map : (g : ℕ → List ℕ) (s n : ℕ) → length (map g (range_with_len s n)) ≡ n
length_map g s zero = refl
length_map g s (suc n) = ap suc (length_map g (s + 1) n)

more_times : (n w : ℕ) → suc n * w ≡ w + n * w
more_times n w = grind arith

length_flat : (f : ℕ → List (List ℕ)) (w s n : ℕ) → ((y : ℕ) → length (f y) ≡ w) → length (flat_map f (range_with_len s n)) ≡ n * w
length_flat f w s zero h = omega arith
length_flat f w s (suc n) h =
    let a = length-append (f s) (flat_map f (range_with_len (s + 1) n)) in
    let b = length_flat f w (s + 1) n h in
    let c = more_times n w in
    let d = h s in omega (arith, a, b, c, d)

get_flat : (f : ℕ → List (List ℕ)) (w s n y i : ℕ) → ((k : ℕ) → length (f k) ≡ w) → y < n → i < w → slice_get (flat_map f (range_with_len s n)) (y * w + i) ≡ slice_get (f (s + y)) i
get_flat f w s zero y i h a b = absurd (omega arith)
get_flat f w s (suc n) zero i h a b =
    let z : 0 * w + i ≡ i = omega arith in
    let e : s ≡ s + 0 = omega arith in
    let l = h s in
    ap (slice_get (f s ++ flat_map f (range_with_len (s + 1) n))) z ∙ get_left (f s) (flat_map f (range_with_len (s + 1) n)) i (omega (arith, l, b)) ∙ ap (λ (k : ℕ). slice_get (f k) i) e
get_flat f w s (suc n) (suc y) i h a b =
    let l = h s in
    let m = more_times y w in
    let q : suc y * w + i ≡ length (f s) + (y * w + i) = omega (arith, l, m) in
    let e : s + 1 + y ≡ s + suc y = omega arith in
    ap (slice_get (f s ++ flat_map f (range_with_len (s + 1) n))) q ∙ get_right (f s) (flat_map f (range_with_len (s + 1) n)) (y * w + i) ∙ get_flat f w (s + 1) n y i h (omega arith) b ∙ ap (λ (k : ℕ). slice_get (f k) i) e

-- the group at (z * Y + y) * X + x is that of x, y and z
pub group_at : (X Y Z x y z : ℕ) → x < X → y < Y → z < Z → slice_get (groups_of (X ∷ Y ∷ Z ∷ [])) (z * (Y * X) + (y * X + x)) ≡ Some (x ∷ y ∷ z ∷ [])
group_at X Y Z x y z a b c =
    let rows : (k j : ℕ) → length (map (λ i. i ∷ j ∷ k ∷ []) (range_with_len 0 X)) ≡ X = λ k j. length_map (λ i. i ∷ j ∷ k ∷ []) 0 X in
    let planes : (k : ℕ) → length (flat_map (λ j. map (λ i. i ∷ j ∷ k ∷ []) (range_with_len 0 X)) (range_with_len 0 Y)) ≡ Y * X = λ k. length_flat (λ j. map (λ i. i ∷ j ∷ k ∷ []) (range_with_len 0 X)) X 0 Y (rows k) in
    let within : y * X + x < Y * X = inside X Y x y a b in
    get_flat (λ k. flat_map (λ j. map (λ i. i ∷ j ∷ k ∷ []) (range_with_len 0 X)) (range_with_len 0 Y)) (Y * X) 0 Z z (y * X + x) planes c within
    ∙ get_flat (λ j. map (λ i. i ∷ j ∷ (0 + z) ∷ []) (range_with_len 0 X)) X 0 Y y x (rows (0 + z)) b a
    ∙ get_map (λ i. i ∷ (0 + y) ∷ (0 + z) ∷ []) 0 X x a
    ∙ (let e : 0 + x ≡ x = omega arith in let f : 0 + y ≡ y = omega arith in let g : 0 + z ≡ z = omega arith in rw (e, f, g) refl)
  where
    inside : (X Y x y : ℕ) → x < X → y < Y → y * X + x < Y * X
    inside X Y x y a b = grind arith

le_or : (m n : ℕ) → (m ≤ n) ⊎ (n < m)
le_or m n = choice (nat_le m n) refl
  where
    choice : (b : Bool) → nat_le m n ≡ b → (m ≤ n) ⊎ (n < m)
    choice true e = inl (grind (arith, nat_tests))
    choice false e = inr (grind (arith, nat_tests))

-- a product below another has a part below it
quotient_below : (n a b : ℕ) → n < a * b → 0 < b → n / b < a
quotient_below n a b h some =
    let d = div-add-mod' n b in
    choice (n / b) d
  where
    choice : (q : ℕ) → q * b + n % b ≡ n → q < a
    choice q d = elim (le_or a q) [
      | inl high ↦ (let m = mul-le-mul_right b high in absurd (omega (arith, m, d, h)))
      | inr low ↦ low
    ]

some_first : (n a b : ℕ) → n < a * b → 0 < a
some_first n zero b h = absurd (omega (arith, h))
some_first n (suc a) b h = omega arith

some_second : (n a b : ℕ) → n < a * b → 0 < b
some_second n a b h = some_first n b a (let c : a * b ≡ b * a = grind arith in omega (arith, h, c))

-- the parts of a place in a grid
record Parts (X Y Z p : ℕ) : Type 0 where
  x : p % X < X
  y : p / X % Y < Y
  z : p / X / Y < Z
  whole : p / X / Y * (Y * X) + (p / X % Y * X + p % X) ≡ p

parts : (X Y Z p : ℕ) → p < X * Y * Z → Parts X Y Z p
parts X Y Z p h =
    let xy : 0 < X * Y = some_first p (X * Y) Z h in
    let some_x : 0 < X = some_first 0 X Y xy in
    let some_y : 0 < Y = some_second 0 X Y xy in
    let swap : X * Y * Z ≡ Y * Z * X = grind arith in
    let row : p / X < Y * Z = quotient_below p (Y * Z) X (omega (arith, h, swap)) some_x in
    let swap_row : Y * Z ≡ Z * Y = grind arith in
    let a = div-add-mod' p X in
    let b = div-add-mod' (p / X) Y in
    record {
      x = mod_below p X some_x;
      y = mod_below (p / X) Y some_y;
      z = quotient_below (p / X) Z Y (omega (arith, row, swap_row)) some_y;
      whole = joined (p / X / Y) (p / X % Y) (p % X) (p / X) a b;
    }
  where
    joined : (z y x r : ℕ) → r * X + x ≡ p → z * Y + y ≡ r → z * (Y * X) + (y * X + x) ≡ p
    joined z y x r a b =
        let c : (z * Y + y) * X ≡ z * (Y * X) + y * X = grind arith in
        let d = ap (λ (n : ℕ). n * X) b in
        omega (arith, a, c, d)

pub at_place : (grid : List ℕ) (p : ℕ) → p < groups_in grid → slice_get (groups_of grid) p ≡ Some (p % slice_index grid 0 ∷ p / slice_index grid 0 % slice_index grid 1 ∷ p / slice_index grid 0 / slice_index grid 1 ∷ [])
at_place grid p h =
    let X = slice_index grid 0 in
    let Y = slice_index grid 1 in
    let Z = slice_index grid 2 in
    let k = parts X Y Z p h in
    ap (slice_get (groups_of grid)) (sym k.whole) ∙ group_at X Y Z (p % X) (p / X % Y) (p / X / Y) k.x k.y k.z

pub place_at : (grid : List ℕ) (p : ℕ) → p < groups_in grid → place_of grid (p % slice_index grid 0 ∷ p / slice_index grid 0 % slice_index grid 1 ∷ p / slice_index grid 0 / slice_index grid 1 ∷ []) ≡ p
place_at grid p h =
    let X = slice_index grid 0 in
    let Y = slice_index grid 1 in
    let k = parts X Y (slice_index grid 2) p h in
    turned (p / X / Y) (p / X % Y) (p % X) X Y k.whole
  where
    turned : (z y x X Y : ℕ) → z * (Y * X) + (y * X + x) ≡ p → z * X * Y + y * X + x ≡ p
    turned z y x X Y e = let c : z * (Y * X) ≡ z * X * Y = grind arith in omega (arith, e, c)

pub length_groups : (grid : List ℕ) → length (groups_of grid) ≡ groups_in grid
length_groups grid =
    let X = slice_index grid 0 in
    let Y = slice_index grid 1 in
    let Z = slice_index grid 2 in
    let rows : (k j : ℕ) → length (map (λ i. i ∷ j ∷ k ∷ []) (range_with_len 0 X)) ≡ X = λ k j. length_map (λ i. i ∷ j ∷ k ∷ []) 0 X in
    let planes : (k : ℕ) → length (flat_map (λ j. map (λ i. i ∷ j ∷ k ∷ []) (range_with_len 0 X)) (range_with_len 0 Y)) ≡ Y * X = λ k. length_flat (λ j. map (λ i. i ∷ j ∷ k ∷ []) (range_with_len 0 X)) X 0 Y (rows k) in
    let all = length_flat (λ k. flat_map (λ j. map (λ i. i ∷ j ∷ k ∷ []) (range_with_len 0 X)) (range_with_len 0 Y)) (Y * X) 0 Z planes in
    let swap : Z * (Y * X) ≡ X * Y * Z = grind arith in
    all ∙ swap
