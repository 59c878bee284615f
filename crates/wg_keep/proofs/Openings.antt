-- What is left of lists: of the groups of a record, and of the entries.
use Rattle.std.proofs.Common.{◌≡◌, ℕ, zero, suc, ◌+◌, ◌≤◌, true, false, List, [], ◌∷◌, ◌++◌, length, refl, ap, sym, ◌∙◌, subst, arith, drop, take, Option, Some, None}
use Rattle.std.specs.Prelude.{◌==◌, nat_lt, slice_get, IfSome}
use Rattle.std.specs.List.{flat_map}
use Rattle.std.proofs.lemmas.Bool.Decides.{nat_tests}
use Rattle.wg_machine.specs.declared.launch.Live.{Live}
use Rattle.wg_machine.specs.declared.launch.Sent.{Sent}
use Rattle.wg_machine.specs.declared.shape.Shape.{Shape}
use Rattle.wg_machine.specs.Grids.{grid_of, groups_in, groups_of}
use Rattle.wg_machine.specs.State.{born, kept, live_of}
use Rattle.wg_machine.specs.Units.{kind_at}
use Rattle.wg_keep.specs.declared.opening.Opening.{Opening}
use Rattle.wg_keep.specs.Entries.{IsAtGroup, has_groups, left_from}
use Rattle.wg_keep.specs.Opening.{IsOpening, unopened_groups}
use Rattle.wg_keep.proofs.Places.{length_groups}

pub drop_cons : {X : Type 0} (xs : List X) (i : ℕ) (x : X) → slice_get xs i ≡ Some x → drop i xs ≡ x ∷ drop (i + 1) xs
drop_cons [] i x e = absurd (cc)
drop_cons {X = X} (y ∷ xs) zero x e = same y x e
  where
    same : (y x : X) → Some y ≡ Some x → y ∷ xs ≡ x ∷ xs
    same y x e = cc
drop_cons (y ∷ xs) (suc i) x e =
    let z : suc i + 1 ≡ suc (i + 1) = omega arith in
    drop_cons xs i x e ∙ ap (λ (k : ℕ). x ∷ drop k (y ∷ xs)) (sym z)

drop_all : {X : Type 0} (xs : List X) (n : ℕ) → length xs ≤ n → drop n xs ≡ []
drop_all [] zero h = refl
drop_all [] (suc n) h = refl
drop_all (x ∷ xs) zero h = absurd (omega arith)
drop_all (x ∷ xs) (suc n) h = drop_all xs n (omega arith)

drop_some : {X : Type 0} (xs : List X) (n : ℕ) → drop n xs ≡ [] → length xs ≤ n
drop_some [] n e = omega arith
drop_some (x ∷ xs) zero e = absurd (cc)
drop_some (x ∷ xs) (suc n) e = let k = drop_some xs n e in omega arith

pub opened_is : (o : Opening) (a b : ℕ) → IsOpening o → a ≡ o.opened → b ≡ groups_in o.grid → ((a == b) ≡ true → unopened_groups o ≡ []) × (unopened_groups o ≡ [] → (a == b) ≡ true)
opened_is o a b s ea eb =
    let many = length_groups o.grid in
    let low = s.opened in (
      λ e. (let q : a ≡ b = grind (arith, nat_tests) in drop_all (groups_of o.grid) o.opened (omega (arith, many, q, ea, eb))),
      λ e. (let k = drop_some (groups_of o.grid) o.opened e in let q : a ≡ b = omega (arith, many, k, ea, eb, low) in grind (arith, nat_tests)),
    )

no_groups : (grid : List ℕ) → nat_lt 0 (groups_in grid) ≡ false → groups_of grid ≡ []
no_groups grid e =
    let z : groups_in grid ≡ 0 = grind (arith, nat_tests) in
    let many = length_groups grid in
    empty (groups_of grid) (omega (arith, many, z))
  where
    empty : (gs : List (List ℕ)) → length gs ≡ 0 → gs ≡ []
    empty [] h = refl
    empty (g ∷ gs) h = absurd (omega (arith, h))

-- an entry without a group is passed by
pub passed_by : (shape : Shape) (place : ℕ) (xs : List Sent) (s : Sent) → slice_get xs place ≡ Some s → has_groups shape s ≡ false → left_from shape (place + 1) xs ≡ left_from shape place xs
passed_by shape place xs s there none =
    let grid = grid_of (kind_at shape s.unit) s.words in
    let bare : kept (live_of shape place s) ≡ [] = ap (λ (gs : List (List ℕ)). (let x : Live = record (live_of shape place s) { groups = gs } in kept x)) (no_groups grid none) in
    sym (ap (λ (ys : List Sent). flat_map kept (born shape place ys)) (drop_cons xs place s there) ∙ ap (λ (ys : List Live). ys ++ left_from shape (place + 1) xs) bare)

pub past_all : (shape : Shape) (n : ℕ) (xs : List Sent) → length xs ≤ n → IsAtGroup shape n xs
past_all shape n xs h = subst (λ (o : Option Sent). IfSome o (λ (s : Sent). has_groups shape s ≡ true)) (sym (past xs n h)) tt
  where
    past : (xs : List Sent) (n : ℕ) → length xs ≤ n → slice_get xs n ≡ None
    past [] n h = refl
    past (x ∷ xs) zero h = absurd (omega arith)
    past (x ∷ xs) (suc n) h = past xs n (omega arith)

-- one more of a list is taken
pub take_more : {X : Type 0} (xs : List X) (i : ℕ) (x : X) → slice_get xs i ≡ Some x → take (i + 1) xs ≡ take i xs ++ x ∷ []
take_more [] i x e = absurd (cc)
take_more {X = X} (y ∷ xs) zero x e = same y x e
  where
    same : (y x : X) → Some y ≡ Some x → y ∷ [] ≡ x ∷ []
    same y x e = cc
take_more {X = X} (y ∷ xs) (suc i) x e =
    let z : suc i + 1 ≡ suc (i + 1) = omega arith in
    ap (λ (k : ℕ). take k (y ∷ xs)) z ∙ ap (λ (ys : List X). y ∷ ys) (take_more xs i x e)
