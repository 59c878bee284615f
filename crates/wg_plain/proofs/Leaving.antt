-- What a launch leaves in the bag.
use Rattle.std.proofs.Common.{◌≡◌, ℕ, suc, ◌+◌, ◌<◌, ◌≤◌, Bool, true, false, cond, not, List, [], ◌∷◌, ◌++◌, length, refl, ap, sym, ◌∙◌, subst, arith, append_assoc, append-nil}
use Rattle.std.specs.Prelude.{if◌then◌else◌, nat_lt, Option, Some, None}
use Rattle.std.specs.List.{remove, position, position_or_len}
use Rattle.std.proofs.lemmas.Bool.Decides.{nat_tests}
use Rattle.wg_machine.specs.declared.launch.Live.{Live}
use Rattle.wg_machine.specs.Grids.{without_group, same_group}
use Rattle.wg_machine.specs.State.{kept}
use Rattle.wg_machine.specs.Step.{after_group, left_after, has_number}

pub left_more : (numbers at : List ℕ) (words : Option (List ℕ)) (done : List Live) (r : Live) (left new : List Live) → left ≡ left_after numbers at words done → new ≡ left ++ (if has_number numbers r.number then kept (after_group at words r) else r ∷ []) → new ≡ left_after numbers at words (done ++ r ∷ [])
left_more numbers at words done r left new e n = n ∙ (ap (λ (l : List Live). l ++ (if has_number numbers r.number then kept (after_group at words r) else r ∷ [])) e ∙ sym (left_append done))
  where
    part : Live → List Live
    part x = if has_number numbers x.number then kept (after_group at words x) else x ∷ []

    left_append : (done : List Live) → left_after numbers at words (done ++ r ∷ []) ≡ left_after numbers at words done ++ (if has_number numbers r.number then kept (after_group at words r) else r ∷ [])
    left_append [] = append-nil _
    left_append (x ∷ done) = ap (λ (l : List Live). (if has_number numbers x.number then kept (after_group at words x) else x ∷ []) ++ l) (left_append done) ∙ sym (append_assoc (if has_number numbers x.number then kept (after_group at words x) else x ∷ []) (left_after numbers at words done) (if has_number numbers r.number then kept (after_group at words r) else r ∷ []))

-- the first of the same groups is taken out
pub without_is : (at : List ℕ) (gs : List (List ℕ)) → remove gs (position_or_len (λ (g : List ℕ). same_group g at) gs) ≡ without_group at gs
without_is at [] = refl
without_is at (g ∷ gs) = choice (without_is at gs) (same_group g at)
  where
    choice : remove gs (position_or_len (λ (h : List ℕ). same_group h at) gs) ≡ without_group at gs → (b : Bool) → remove (g ∷ gs) (cond (not b) (1 + position_or_len (λ (h : List ℕ). same_group h at) gs) 0) ≡ (if b then gs else g ∷ without_group at gs)
    choice ih true = refl
    choice ih false =
        let n = position_or_len (λ (h : List ℕ). same_group h at) gs in
        let e : 1 + n ≡ suc n = omega arith in
        ap (remove (g ∷ gs)) e ∙ ap (λ (l : List (List ℕ)). g ∷ l) ih

pub without_none : (at : List ℕ) (gs : List (List ℕ)) → length gs ≤ position_or_len (λ (g : List ℕ). same_group g at) gs → without_group at gs ≡ gs
without_none at [] h = refl
without_none at (g ∷ gs) h = choice (λ k. without_none at gs k) (same_group g at) h
  where
    choice : (length gs ≤ position_or_len (λ (h : List ℕ). same_group h at) gs → without_group at gs ≡ gs) → (b : Bool) → length (g ∷ gs) ≤ cond (not b) (1 + position_or_len (λ (h : List ℕ). same_group h at) gs) 0 → (if b then gs else g ∷ without_group at gs) ≡ g ∷ gs
    choice ih true h = absurd (omega (arith, h))
    choice ih false h = ap (λ (l : List (List ℕ)). g ∷ l) (ih (omega arith))

pub place_found : (at : List ℕ) (gs : List (List ℕ)) (i : ℕ) → position (λ (g : List ℕ). same_group g at) gs ≡ Some i → (i < length gs) × (remove gs i ≡ without_group at gs)
place_found at gs i h = choice (nat_lt (position_or_len (λ (g : List ℕ). same_group g at) gs) (length gs)) refl h
  where
    choice : (b : Bool) → nat_lt (position_or_len (λ (g : List ℕ). same_group g at) gs) (length gs) ≡ b → cond b (Some (position_or_len (λ (g : List ℕ). same_group g at) gs)) None ≡ Some i → (i < length gs) × (remove gs i ≡ without_group at gs)
    choice true t h =
        let e : position_or_len (λ (g : List ℕ). same_group g at) gs ≡ i = cc in
        let less : position_or_len (λ (g : List ℕ). same_group g at) gs < length gs = grind (arith, nat_tests) in
        (subst (λ (n : ℕ). n < length gs) e less, ap (remove gs) (sym e) ∙ without_is at gs)
    choice false t h = absurd (cc)

pub place_missing : (at : List ℕ) (gs : List (List ℕ)) → position (λ (g : List ℕ). same_group g at) gs ≡ None → gs ≡ without_group at gs
place_missing at gs h = choice (nat_lt (position_or_len (λ (g : List ℕ). same_group g at) gs) (length gs)) refl h
  where
    choice : (b : Bool) → nat_lt (position_or_len (λ (g : List ℕ). same_group g at) gs) (length gs) ≡ b → cond b (Some (position_or_len (λ (g : List ℕ). same_group g at) gs)) None ≡ None → gs ≡ without_group at gs
    choice true t h = absurd (cc)
    choice false t h =
        let most : length gs ≤ position_or_len (λ (g : List ℕ). same_group g at) gs = grind (arith, nat_tests) in
        sym (without_none at gs most)
