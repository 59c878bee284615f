-- Launches take their groups in any order.
use Rattle.std.proofs.Common.{None, ◌≡◌, ℕ, Bool, true, false, List, [], ◌∷◌, ◌++◌, refl, ap, sym, ◌∙◌, arith, append_assoc}
use Rattle.std.specs.Prelude.{if◌then◌else◌}
use Rattle.std.proofs.lemmas.Bool.Decides.{nat_tests}
use Rattle.wg_standing.specs.declared.pending.Pending.{Pending}
use Rattle.wg_machine.specs.declared.launch.Live.{Live}
use Rattle.wg_machine.specs.State.{kept}
use Rattle.wg_machine.specs.Step.{left_after, has_number}
use Rattle.wg_machine.specs.Grids.{without_group, same_group}
use Rattle.wg_standing.specs.Outs.{after_one, unopened}

pub append_nil : {X : Type 0} → (xs : List X) → xs ++ [] ≡ xs
append_nil [] = refl
append_nil (x ∷ xs) = ap (λ (ys : List _). x ∷ ys) (append_nil xs)

pub same_as : (g a b : List ℕ) → same_group a b ≡ true → same_group g a ≡ same_group g b
same_as g a b e = grind (arith, nat_tests)

pub same_both : (g a b : List ℕ) → same_group g a ≡ true → same_group g b ≡ true → same_group a b ≡ true
same_both g a b e f = grind (arith, nat_tests)

without_same : (a b : List ℕ) (gs : List (List ℕ)) → same_group a b ≡ true → without_group a gs ≡ without_group b gs
without_same a b [] e = refl
without_same a b (g ∷ gs) e =
    ap (λ (t : Bool). if t then gs else g ∷ without_group a gs) (same_as g a b e)
    ∙ ap (λ (rest : List (List ℕ)). if same_group g b then gs else g ∷ rest) (without_same a b gs e)

-- two groups are taken out in any order
without_comm : (a b : List ℕ) (gs : List (List ℕ)) → without_group a (without_group b gs) ≡ without_group b (without_group a gs)
without_comm a b [] = refl
without_comm a b (g ∷ gs) = choice (without_comm a b gs) (same_group g a) (same_group g b) refl refl
  where
    choice : without_group a (without_group b gs) ≡ without_group b (without_group a gs) → (s t : Bool) → same_group g a ≡ s → same_group g b ≡ t → without_group a (if t then gs else g ∷ without_group b gs) ≡ without_group b (if s then gs else g ∷ without_group a gs)
    choice ih true true e f = without_same a b gs (same_both g a b e f)
    choice ih true false e f = rw e refl
    choice ih false true e f = rw f refl
    choice ih false false e f = rw (e, f) (ap (λ (rest : List (List ℕ)). g ∷ rest) ih)

pub left_append : (nums at : List ℕ) (xs ys : List Live) → left_after nums at None (xs ++ ys) ≡ left_after nums at None xs ++ left_after nums at None ys
left_append nums at [] ys = refl
left_append nums at (x ∷ xs) ys =
    ap (λ (rest : List Live). (if has_number nums x.number then kept (record x { groups = without_group at x.groups }) else x ∷ []) ++ rest) (left_append nums at xs ys)
    ∙ sym (append_assoc (if has_number nums x.number then kept (record x { groups = without_group at x.groups }) else x ∷ []) (left_after nums at None xs) (left_after nums at None ys))

abbrev pub live_with : ℕ → ℕ → List ℕ → List ℕ → List (List ℕ) → Live
live_with number unit words grid groups = record { number = number; unit = unit; words = words; grid = grid; groups = groups }

pub left_kept : (nums at : List ℕ) (number unit : ℕ) (words grid : List ℕ) (gs : List (List ℕ)) → has_number nums number ≡ true → left_after nums at None (kept (live_with number unit words grid gs)) ≡ kept (live_with number unit words grid (without_group at gs))
left_kept nums at number unit words grid [] e = refl
left_kept nums at number unit words grid (g ∷ gs) e = rw e (append_nil (kept (live_with number unit words grid (without_group at (g ∷ gs)))))

pub left_kept_not : (nums at : List ℕ) (number unit : ℕ) (words grid : List ℕ) (gs : List (List ℕ)) → has_number nums number ≡ false → left_after nums at None (kept (live_with number unit words grid gs)) ≡ kept (live_with number unit words grid gs)
left_kept_not nums at number unit words grid [] e = refl
left_kept_not nums at number unit words grid (g ∷ gs) e = rw e refl

abbrev pub ran : Bool → List ℕ → Live → List Live
ran b at x = if b then kept (record x { groups = without_group at x.groups }) else x ∷ []

left_ran : (n g m h : List ℕ) (x : Live) (s t : Bool) → has_number n x.number ≡ s → has_number m x.number ≡ t → left_after n g None (ran t h x) ≡ left_after m h None (ran s g x)
left_ran n g m h x true true e f =
    left_kept n g x.number x.unit x.words x.grid (without_group h x.groups) e
    ∙ ap (λ (gs : List (List ℕ)). kept (live_with x.number x.unit x.words x.grid gs)) (without_comm g h x.groups)
    ∙ sym (left_kept m h x.number x.unit x.words x.grid (without_group g x.groups) f)
left_ran n g m h x true false e f =
    rw e (append_nil (kept (live_with x.number x.unit x.words x.grid (without_group g x.groups))) ∙ sym (left_kept_not m h x.number x.unit x.words x.grid (without_group g x.groups) f))
left_ran n g m h x false true e f =
    rw f (left_kept_not n g x.number x.unit x.words x.grid (without_group h x.groups) e ∙ sym (append_nil (kept (live_with x.number x.unit x.words x.grid (without_group h x.groups)))))
left_ran n g m h x false false e f = rw (e, f) refl

pub left_comm : (n g m h : List ℕ) (bag : List Live) → left_after n g None (left_after m h None bag) ≡ left_after m h None (left_after n g None bag)
left_comm n g m h [] = refl
left_comm n g m h (x ∷ bag) =
    left_append n g (ran (has_number m x.number) h x) (left_after m h None bag)
    ∙ ap (λ (first : List Live). first ++ left_after n g None (left_after m h None bag)) (left_ran n g m h x (has_number n x.number) (has_number m x.number) refl refl)
    ∙ ap (λ (rest : List Live). left_after m h None (ran (has_number n x.number) g x) ++ rest) (left_comm n g m h bag)
    ∙ sym (left_append m h (ran (has_number n x.number) g x) (left_after n g None bag))

pub unopened_append : (xs ys : List Pending) (bag : List Live) → unopened (xs ++ ys) bag ≡ unopened ys (unopened xs bag)
unopened_append [] ys bag = refl
unopened_append (x ∷ xs) ys bag = unopened_append xs ys (after_one x bag)

pub unopened_after : (o : Pending) (outs : List Pending) (bag : List Live) → unopened outs (after_one o bag) ≡ after_one o (unopened outs bag)
unopened_after o [] bag = refl
unopened_after o (p ∷ outs) bag =
    ap (unopened outs) (left_comm p.inputs p.at o.inputs o.at bag) ∙ unopened_after o outs (after_one p bag)

-- what is unopened is the same where one in the middle has made its step
pub unopened_settled : (xs : List Pending) (o : Pending) (ys : List Pending) (bag : List Live) → unopened (xs ++ o ∷ ys) bag ≡ unopened (xs ++ ys) (after_one o bag)
unopened_settled xs o ys bag =
    unopened_append xs (o ∷ ys) bag
    ∙ ap (unopened ys) (sym (unopened_after o xs bag))
    ∙ sym (unopened_append xs ys (after_one o bag))

pub unopened_both : (outs : List Pending) (a b : List Live) → unopened outs (a ++ b) ≡ unopened outs a ++ unopened outs b
unopened_both [] a b = refl
unopened_both (o ∷ outs) a b =
    ap (unopened outs) (left_append o.inputs o.at a b) ∙ unopened_both outs (after_one o a) (after_one o b)
