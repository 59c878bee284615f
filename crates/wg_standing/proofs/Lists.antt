-- Lists by unit.
use Rattle.std.proofs.Common.{None, ◌≡◌, ℕ, zero, suc, ◌+◌, Bool, true, false, List, [], ◌∷◌, ◌++◌, map, refl, ap, sym, ◌∙◌}
use Rattle.std.specs.Prelude.{if◌then◌else◌, ◌==◌, ◌&&◌, filter, nat_le}
use Rattle.wg_machine.specs.declared.launch.Live.{Live}
use Rattle.wg_machine.specs.State.{kept}
use Rattle.wg_machine.specs.Step.{left_after, has_number}
use Rattle.wg_machine.specs.Grids.{without_group}
use Rattle.wg_standing.specs.Standing.{by_unit, in_slot}
use Rattle.wg_standing.specs.Moves.{all_more}
use Rattle.wg_standing.proofs.Commute.{live_with, ran}

-- a test of unit and number alone
abbrev pub Test : Type 0
Test = ℕ → ℕ → Bool

abbrev pub those : Test → List Live → List Live
those p bag = filter (λ (x : Live). p x.unit x.number) bag

pub those_append : (p : Test) (xs ys : List Live) → those p (xs ++ ys) ≡ those p xs ++ those p ys
those_append p [] ys = refl
those_append p (x ∷ xs) ys = choice (those_append p xs ys) (p x.unit x.number)
  where
    choice : those p (xs ++ ys) ≡ those p xs ++ those p ys → (b : Bool) → (if b then x ∷ those p (xs ++ ys) else those p (xs ++ ys)) ≡ (if b then x ∷ those p xs else those p xs) ++ those p ys
    choice ih true = ap (λ (rest : List Live). x ∷ rest) ih
    choice ih false = ih

those_kept : (p : Test) (number unit : ℕ) (words grid : List ℕ) (gs : List (List ℕ)) (b : Bool) → p unit number ≡ b → those p (kept (live_with number unit words grid gs)) ≡ (if b then kept (live_with number unit words grid gs) else [])
those_kept p number unit words grid [] true e = refl
those_kept p number unit words grid [] false e = refl
those_kept p number unit words grid (g ∷ gs) true e = rw e refl
those_kept p number unit words grid (g ∷ gs) false e = rw e refl

those_ran : (p : Test) (other : List ℕ) (x : Live) (t b : Bool) → p x.unit x.number ≡ b → those p (ran t other x) ≡ (if b then ran t other x else [])
those_ran p other x true b e = those_kept p x.number x.unit x.words x.grid (without_group other x.groups) b e
those_ran p other x false true e = rw e refl
those_ran p other x false false e = rw e refl

-- a launch takes its group from those that pass as from all
pub those_left : (p : Test) (nums other : List ℕ) (bag : List Live) → left_after nums other None (those p bag) ≡ those p (left_after nums other None bag)
those_left p nums other [] = refl
those_left p nums other (x ∷ bag) = choice (those_left p nums other bag) (p x.unit x.number) refl
  where
    choice : left_after nums other None (those p bag) ≡ those p (left_after nums other None bag) → (b : Bool) → p x.unit x.number ≡ b → left_after nums other None (if b then x ∷ those p bag else those p bag) ≡ those p (ran (has_number nums x.number) other x ++ left_after nums other None bag)
    choice ih true e =
        ap (λ (rest : List Live). ran (has_number nums x.number) other x ++ rest) ih
        ∙ ap (λ (first : List Live). first ++ those p (left_after nums other None bag)) (sym (those_ran p other x (has_number nums x.number) true e))
        ∙ sym (those_append p (ran (has_number nums x.number) other x) (left_after nums other None bag))
    choice ih false e =
        ih
        ∙ ap (λ (first : List Live). first ++ those p (left_after nums other None bag)) (sym (those_ran p other x (has_number nums x.number) false e))
        ∙ sym (those_append p (ran (has_number nums x.number) other x) (left_after nums other None bag))

pub by_unit_left : (handed v n : ℕ) (nums other : List ℕ) (bag : List Live) → map (left_after nums other None) (by_unit handed v n bag) ≡ by_unit handed v n (left_after nums other None bag)
by_unit_left handed v zero nums other bag = refl
by_unit_left handed v (suc n) nums other bag =
    ap (λ (first : List Live). first ∷ map (left_after nums other None) (by_unit handed (v + 1) n bag)) (those_left (λ u m. (u == v) && nat_le handed m) nums other bag)
    ∙ ap (λ (rest : List (List Live)). filter (in_slot handed v) (left_after nums other None bag) ∷ rest) (by_unit_left handed (v + 1) n nums other bag)

pub by_unit_append : (handed v n : ℕ) (bag fresh : List Live) → all_more handed v fresh (by_unit handed v n bag) ≡ by_unit handed v n (bag ++ fresh)
by_unit_append handed v zero bag fresh = refl
by_unit_append handed v (suc n) bag fresh =
    ap (λ (first : List Live). first ∷ all_more handed (v + 1) fresh (by_unit handed (v + 1) n bag)) (sym (those_append (λ u m. (u == v) && nat_le handed m) bag fresh))
    ∙ ap (λ (rest : List (List Live)). filter (in_slot handed v) (bag ++ fresh) ∷ rest) (by_unit_append handed (v + 1) n bag fresh)
