-- No group stands twice in a grid.
use Rattle.std.proofs.Common.{◌≡◌, ℕ, zero, suc, ◌+◌, ◌<◌, ◌≤◌, Bool, true, false, List, [], ◌∷◌, ◌++◌, length, map, refl, sym, subst, arith}
use Rattle.std.specs.Prelude.{◌==◌, ◌&&◌, slice_index, nat_le}
use Rattle.std.specs.List.{flat_map, range_with_len}
use Rattle.std.proofs.lemmas.Bool.Decides.{nat_tests}
use Rattle.wg_machine.specs.declared.launch.Sent.{Sent}
use Rattle.wg_machine.specs.declared.shape.Shape.{Shape}
use Rattle.wg_machine.specs.Run.{times}
use Rattle.wg_machine.specs.Grids.{same_group, groups_of, grid_of}
use Rattle.wg_machine.specs.Units.{kind_at}
use Rattle.wg_machine.specs.State.{kept, born}
use Rattle.wg_standing.specs.Standing.{EachDistinct, IsWithin}
use Rattle.wg_words.specs.Each.{Each}
use Rattle.wg_standing.proofs.Commute.{live_with}
use Rattle.wg_standing.proofs.Opening.{times_cons}
use Rattle.wg_standing.proofs.Counting.{pay, count_append}

one_place : (s a h t k : ℕ) → h ≤ pay (s == a) k → t ≤ pay (nat_le (s + 1) a) k → h + t ≤ pay (nat_le s a) k
one_place s a h t k p q = choice (s == a) refl p
  where
    choice : (b : Bool) → (s == a) ≡ b → h ≤ pay b k → h + t ≤ pay (nat_le s a) k
    choice true e p =
        let f : nat_le (s + 1) a ≡ false = grind (arith, nat_tests) in
        let g : nat_le s a ≡ true = grind (arith, nat_tests) in
        let q' = subst (λ (b : Bool). t ≤ pay b k) f q in
        subst (λ (b : Bool). h + t ≤ pay b k) (sym g) (omega (arith, p, q'))
    choice false e p =
        let g : nat_le s a ≡ nat_le (s + 1) a = grind (arith, nat_tests) in
        subst (λ (b : Bool). h + t ≤ pay b k) (sym g) (omega (arith, p, q))

times_append : (at : List ℕ) (xs ys : List (List ℕ)) → times at (xs ++ ys) ≡ times at xs + times at ys
times_append at xs ys = count_append (λ (g : List ℕ). same_group g at) xs ys

planes : (at : List ℕ) (f : ℕ → List (List ℕ)) (a k s n : ℕ) → ((y : ℕ) → times at (f y) ≤ pay (y == a) k) → times at (flat_map f (range_with_len s n)) ≤ pay (nat_le s a) k
planes at f a k s zero h = omega arith
planes at f a k s (suc n) h =
    let e = times_append at (f s) (flat_map f (range_with_len (s + 1) n)) in
    let q = one_place s a (times at (f s)) (times at (flat_map f (range_with_len (s + 1) n))) k (h s) (planes at f a k (s + 1) n h) in
    omega (arith, e, q)

rows : (at : List ℕ) (g : ℕ → List ℕ) (a k s n : ℕ) → ((x : ℕ) → pay (same_group (g x) at) 1 ≤ pay (x == a) k) → times at (map g (range_with_len s n)) ≤ pay (nat_le s a) k
rows at g a k s zero h = omega arith
rows at g a k s (suc n) h =
    let e = times_cons at (g s) (map g (range_with_len (s + 1) n)) in
    let q = one_place s a (pay (same_group (g s) at) 1) (times at (map g (range_with_len (s + 1) n))) k (h s) (rows at g a k (s + 1) n h) in
    omega (arith, e, q)

at_most : (b : Bool) (k n : ℕ) → n ≤ pay b k → n ≤ k
at_most true k n h = h
at_most false k n h = omega arith

both : (l p q r : Bool) → pay (((l && p) && q) && r) 1 ≤ pay p (pay q (pay r 1))
both true true true true = omega arith
both true true true false = omega arith
both true true false r = omega arith
both true false q r = omega arith
both false true true true = omega arith
both false true true false = omega arith
both false true false r = omega arith
both false false q r = omega arith

pub times_grid : (at grid : List ℕ) → times at (groups_of grid) ≤ 1
times_grid at grid =
    at_most (nat_le 0 (slice_index at 2)) 1 (times at (groups_of grid)) (
    planes at _ (slice_index at 2) 1 0 (slice_index grid 2) (λ z.
    at_most (nat_le 0 (slice_index at 1)) (pay (z == slice_index at 2) 1) _ (
    planes at _ (slice_index at 1) (pay (z == slice_index at 2) 1) 0 (slice_index grid 1) (λ y.
    at_most (nat_le 0 (slice_index at 0)) (pay (y == slice_index at 1) (pay (z == slice_index at 2) 1)) _ (
    rows at (λ x. x ∷ y ∷ z ∷ []) (slice_index at 0) (pay (y == slice_index at 1) (pay (z == slice_index at 2) 1)) 0 (slice_index grid 0) (λ x.
    both (3 == length at) (x == slice_index at 0) (y == slice_index at 1) (z == slice_index at 2)))))))

pub distinct_born : (shape : Shape) (n : ℕ) (ss : List Sent) → EachDistinct (flat_map kept (born shape n ss))
distinct_born shape n [] = tt
distinct_born shape n (s ∷ ss) = go (groups_of (grid_of (kind_at shape s.unit) s.words)) (λ at. times_grid at (grid_of (kind_at shape s.unit) s.words)) (distinct_born shape (n + 1) ss)
  where
    go : (gs : List (List ℕ)) → ((at : List ℕ) → times at gs ≤ 1) → EachDistinct (flat_map kept (born shape (n + 1) ss)) → EachDistinct (kept (live_with n s.unit s.words (grid_of (kind_at shape s.unit) s.words) gs) ++ flat_map kept (born shape (n + 1) ss))
    go [] t d = d
    go (g ∷ gs) t d = (t, d)

each_append : {X : Type 0} → (P : X → Type 0) (xs ys : List X) → Each P xs → Each P ys → Each P (xs ++ ys)
each_append P [] ys a b = b
each_append P (x ∷ xs) ys a b = (a.0, each_append P xs ys a.1 b)

each_mapped : (P : List ℕ → Type 0) (g : ℕ → List ℕ) (s n : ℕ) → ((x : ℕ) → s ≤ x → x < s + n → P (g x)) → Each P (map g (range_with_len s n))
each_mapped P g s zero h = tt
each_mapped P g s (suc n) h = (h s (omega arith) (omega arith), each_mapped P g (s + 1) n (λ x low high. h x (omega arith) (omega arith)))

each_flat : (P : List ℕ → Type 0) (f : ℕ → List (List ℕ)) (s n : ℕ) → ((y : ℕ) → s ≤ y → y < s + n → Each P (f y)) → Each P (flat_map f (range_with_len s n))
each_flat P f s zero h = tt
each_flat P f s (suc n) h = each_append P (f s) (flat_map f (range_with_len (s + 1) n)) (h s (omega arith) (omega arith)) (each_flat P f (s + 1) n (λ y low high. h y (omega arith) (omega arith)))

-- each group of a grid is within it
pub within_grid : (grid : List ℕ) → Each (IsWithin grid) (groups_of grid)
within_grid grid =
    each_flat (IsWithin grid) _ 0 (slice_index grid 2) (λ z low_z high_z.
    each_flat (IsWithin grid) _ 0 (slice_index grid 1) (λ y low_y high_y.
    each_mapped (IsWithin grid) (λ x. x ∷ y ∷ z ∷ []) 0 (slice_index grid 0) (λ x low_x high_x.
    record { x = omega arith; y = omega arith; z = omega arith })))
