-- Numbers that rise.
use Rattle.std.proofs.Common.{None, ◌≡◌, ℕ, suc, ◌+◌, ◌<◌, ◌≤◌, Bool, true, false, ◌||◌, List, [], ◌∷◌, ◌++◌, length, map, refl, subst, arith, inl, inr, ◌⊎◌}
use Rattle.std.specs.Prelude.{◌==◌}
use Rattle.std.specs.List.{flat_map}
use Rattle.std.proofs.lemmas.Bool.Decides.{nat_tests, Decides-eqb}
use Rattle.wg_standing.specs.declared.pending.Pending.{Pending}
use Rattle.wg_machine.specs.declared.launch.Live.{Live}
use Rattle.wg_machine.specs.declared.launch.Sent.{Sent}
use Rattle.wg_machine.specs.declared.shape.Shape.{Shape}
use Rattle.wg_machine.specs.State.{kept, born}
use Rattle.wg_machine.specs.Step.{left_after, has_number}
use Rattle.wg_machine.specs.Grids.{without_group}
use Rattle.wg_standing.specs.Standing.{Rises}
use Rattle.wg_standing.specs.Outs.{unopened, after_one}
use Rattle.wg_standing.proofs.Commute.{live_with, ran}

pub rises_weaker : (m n end : ℕ) (xs : List Live) → m ≤ n → Rises n xs end → Rises m xs end
rises_weaker m n end [] h r = omega arith
rises_weaker m n end (x ∷ xs) h r = let f = r.0 in (omega arith, r.1)

pub rises_append : (n mid end : ℕ) (xs ys : List Live) → Rises n xs mid → Rises mid ys end → Rises n (xs ++ ys) end
rises_append n mid end [] ys r s = rises_weaker n mid end ys r s
rises_append n mid end (x ∷ xs) ys r s = (r.0, rises_append (x.number + 1) mid end xs ys r.1 s)

pub rises_kept_one : (n end number unit : ℕ) (words grid : List ℕ) (gs : List (List ℕ)) (rest : List Live) → n ≤ number → Rises (number + 1) rest end → Rises n (kept (live_with number unit words grid gs) ++ rest) end
rises_kept_one n end number unit words grid [] rest h r = rises_weaker n (number + 1) end rest (omega arith) r
rises_kept_one n end number unit words grid (g ∷ gs) rest h r = (h, r)

pub rises_kept : (n end : ℕ) (xs : List Live) → Rises n xs end → Rises n (flat_map kept xs) end
rises_kept n end [] r = r
rises_kept n end (x ∷ xs) r = rises_kept_one n end x.number x.unit x.words x.grid x.groups (flat_map kept xs) r.0 (rises_kept (x.number + 1) end xs r.1)

pub rises_ran : (n end : ℕ) (other : List ℕ) (x : Live) (rest : List Live) (b : Bool) → n ≤ x.number → Rises (x.number + 1) rest end → Rises n (ran b other x ++ rest) end
rises_ran n end other x rest true h r = rises_kept_one n end x.number x.unit x.words x.grid (without_group other x.groups) rest h r
rises_ran n end other x rest false h r = (h, r)

pub rises_left : (n end : ℕ) (nums e : List ℕ) (bag : List Live) → Rises n bag end → Rises n (left_after nums e None bag) end
rises_left n end nums e [] r = r
rises_left n end nums e (x ∷ bag) r = rises_ran n end e x (left_after nums e None bag) (has_number nums x.number) r.0 (rises_left (x.number + 1) end nums e bag r.1)

pub rises_born : (shape : Shape) (n : ℕ) (ss : List Sent) → Rises n (born shape n ss) (n + length ss)
rises_born shape n [] = omega arith
rises_born shape n (s ∷ ss) =
    (omega arith, let e : n + 1 + length ss ≡ n + suc (length ss) = omega arith in subst (λ (k : ℕ). Rises (n + 1) (born shape (n + 1) ss) k) e (rises_born shape (n + 1) ss))

pub rises_unopened : (n end : ℕ) (outs : List Pending) (bag : List Live) → Rises n bag end → Rises n (unopened outs bag) end
rises_unopened n end [] bag r = r
rises_unopened n end (o ∷ outs) bag r = rises_unopened n end outs (after_one o bag) (rises_left n end o.inputs o.at bag r)

abbrev pub numbers : List Live → List ℕ
numbers bag = map (λ (x : Live). x.number) bag

-- numbers below all are not among them
pub among_none : (n m end : ℕ) (xs : List Live) → Rises m xs end → n < m → has_number (numbers xs) n ≡ false
among_none n m end [] r h = refl
among_none n m end (x ∷ xs) r h =
    let f = r.0 in
    let e : (x.number == n) ≡ false = grind (arith, nat_tests) in
    rw (e, among_none n (x.number + 1) end xs r.1 (omega arith)) refl

or_cases : (a b : Bool) → (a || b) ≡ true → (a ≡ true) ⊎ (b ≡ true)
or_cases true b e = inl refl
or_cases false b e = inr e

pub among_first : (m n : ℕ) (ns : List ℕ) → has_number (m ∷ ns) n ≡ true → (m ≡ n) ⊎ (has_number ns n ≡ true)
among_first m n ns e = elim (or_cases (m == n) (has_number ns n) e) [ inl a ↦ inl ((Decides-eqb m n).0 a) | inr b ↦ inr b ]

pub among_kept : (number unit : ℕ) (words grid : List ℕ) (gs : List (List ℕ)) (rest : List Live) (n : ℕ) → has_number (numbers (kept (live_with number unit words grid gs) ++ rest)) n ≡ true → (number ≡ n) ⊎ (has_number (numbers rest) n ≡ true)
among_kept number unit words grid [] rest n e = inr e
among_kept number unit words grid (g ∷ gs) rest n e = among_first number n (numbers rest) e

pub among_ran : (other : List ℕ) (x : Live) (rest : List Live) (b : Bool) (n : ℕ) → has_number (numbers (ran b other x ++ rest)) n ≡ true → (x.number ≡ n) ⊎ (has_number (numbers rest) n ≡ true)
among_ran other x rest true n e = among_kept x.number x.unit x.words x.grid (without_group other x.groups) rest n e
among_ran other x rest false n e = among_first x.number n (numbers rest) e
