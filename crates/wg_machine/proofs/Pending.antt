-- What is to run: a count of each group of each live record, and how a launch and new records change its sum.
use Rattle.std.proofs.Common.{Option, None, Some, sym, subst, ◌≡◌, ℕ, ◌+◌, Bool, true, false, ◌||◌, List, [], ◌∷◌, ◌++◌, refl, arith}
use Rattle.std.specs.Prelude.{IsTrue, if◌then◌else◌, sum_by}
use Rattle.std.specs.List.{flat_map}
use Rattle.std.proofs.lemmas.List.Sums.{sum_by-cons}
use Rattle.wg_words.specs.Each.{Each}
use Rattle.wg_machine.specs.declared.shape.Shape.{Shape}
use Rattle.wg_machine.specs.declared.launch.Live.{Live}
use Rattle.wg_machine.specs.declared.launch.Sent.{Sent}
use Rattle.wg_machine.specs.Grids.{grid_of, groups_of, has_group, same_group, without_group}
use Rattle.wg_machine.specs.LaunchMeaning.{HasNewWords}
use Rattle.wg_machine.specs.State.{kept, born}
use Rattle.wg_machine.specs.Step.{IsReady, after_group, left_after, has_number, taken}
use Rattle.wg_machine.specs.Units.{kind_at}

-- what a unit's group of a record with these words counts
abbrev pub Count : Type 0
Count = ℕ → List ℕ → List ℕ → ℕ

abbrev pub pending : Count → List Live → ℕ
pending f [] = 0
pending f (r ∷ bag) = sum_by (f r.unit r.words) r.groups + pending f bag

abbrev pub running : Count → List ℕ → List Live → ℕ
running f at [] = 0
running f at (r ∷ rs) = f r.unit r.words at + running f at rs

pub pending_append : (f : Count) (a b : List Live) → pending f (a ++ b) ≡ pending f a + pending f b
pending_append f [] b = omega arith
pending_append f (x ∷ a) b = rw (pending_append f a b) (omega arith)

pending_kept_one : (f : Count) (number unit : ℕ) (words grid : List ℕ) (gs : List (List ℕ)) → pending f (kept (record { number = number; unit = unit; words = words; grid = grid; groups = gs })) ≡ sum_by (f unit words) gs
pending_kept_one f number unit words grid [] = refl
pending_kept_one f number unit words grid (g ∷ gs) = omega arith

pub pending_kept : (f : Count) (xs : List Live) → pending f (flat_map kept xs) ≡ pending f xs
pending_kept f [] = refl
pending_kept f (x ∷ xs) =
    let a = pending_append f (kept x) (flat_map kept xs) in
    let b = pending_kept_one f x.number x.unit x.words x.grid x.groups in
    let c = pending_kept f xs in
    omega (arith, a, b, c)

-- a count that does not tell apart groups that are the same
abbrev pub Even : (List ℕ → ℕ) → Type 0
Even f = (a b : List ℕ) → same_group a b ≡ true → f a ≡ f b

sum_without : (f : List ℕ → ℕ) (e : List ℕ) (gs : List (List ℕ)) → Even f → IsTrue (has_group gs e) → sum_by f gs ≡ f e + sum_by f (without_group e gs)
sum_without f e [] even h = absurd (cc)
sum_without f e (g ∷ gs) even h = choice (λ c. sum_without f e gs even c) (same_group g e) refl h
  where
    choice : (IsTrue (has_group gs e) → sum_by f gs ≡ f e + sum_by f (without_group e gs)) → (b : Bool) → same_group g e ≡ b → IsTrue (b || has_group gs e) → sum_by f (g ∷ gs) ≡ f e + sum_by f (if b then gs else g ∷ without_group e gs)
    choice ih true n h =
        let a = sum_by-cons f g gs in
        let b = even g e n in
        omega (arith, a, b)
    choice ih false n h =
        let a = sum_by-cons f g gs in
        let b = sum_by-cons f g (without_group e gs) in
        let c = ih h in
        omega (arith, a, b, c)

-- what was to run before a launch of an unshared unit is what it runs, and what is to run after it
pending_unshared : (f : Count) (at : List ℕ) (unit : ℕ) (nums : List ℕ) (bag : List Live) → ((u : ℕ) (ws : List ℕ) → Even (f u ws)) → Each (IsReady unit at) (taken nums bag) → pending f bag ≡ running f at (taken nums bag) + pending f (left_after nums at None bag)
pending_unshared f at unit nums [] even ready = refl
pending_unshared f at unit nums (x ∷ bag) even ready = choice (λ h. pending_unshared f at unit nums bag even h) (has_number nums x.number) ready
  where
    choice : (Each (IsReady unit at) (taken nums bag) → pending f bag ≡ running f at (taken nums bag) + pending f (left_after nums at None bag)) → (b : Bool) → Each (IsReady unit at) (if b then x ∷ taken nums bag else taken nums bag) → pending f (x ∷ bag) ≡ running f at (if b then x ∷ taken nums bag else taken nums bag) + pending f ((if b then kept (after_group at None x) else x ∷ []) ++ left_after nums at None bag)
    choice ih true ready =
        let a = ih ready.1 in
        let b = sum_without (f x.unit x.words) at x.groups (even x.unit x.words) ready.0.group_is in
        let c = pending_append f (kept (after_group at None x)) (left_after nums at None bag) in
        let d = pending_kept_one f x.number x.unit x.words x.grid (without_group at x.groups) in
        omega (arith, a, b, c, d)
    choice ih false ready = let a = ih ready in omega (arith, a)

-- at an unshared unit there are no new words
pub none_new : (words : ℕ) (shared : Bool) (new : Option (List ℕ)) → shared ≡ false → HasNewWords shared words new → new ≡ None
none_new words true new e laws = absurd (cc)
none_new words false None e laws = refl
none_new words false (Some ws) e laws = absurd laws

pub pending_left : (f : Count) (at : List ℕ) (unit : ℕ) (nums : List ℕ) (new : Option (List ℕ)) (bag : List Live) → new ≡ None → ((u : ℕ) (ws : List ℕ) → Even (f u ws)) → Each (IsReady unit at) (taken nums bag)
    → pending f bag ≡ running f at (taken nums bag) + pending f (left_after nums at new bag)
pending_left f at unit nums new bag none even ready =
    subst (λ (ws : Option (List ℕ)). pending f bag ≡ running f at (taken nums bag) + pending f (left_after nums at ws bag)) (sym none) (pending_unshared f at unit nums bag even ready)

pub pending_born : (f : Count) (shape : Shape) (n : ℕ) (ss : List Sent) → pending f (born shape n ss) ≡ sum_by (λ (s : Sent). sum_by (f s.unit s.words) (groups_of (grid_of (kind_at shape s.unit) s.words))) ss
pending_born f shape n [] = refl
pending_born f shape n (s ∷ ss) =
    let a = sum_by-cons (λ (s : Sent). sum_by (f s.unit s.words) (groups_of (grid_of (kind_at shape s.unit) s.words))) s ss in
    let b = pending_born f shape (n + 1) ss in
    omega (arith, a, b)
