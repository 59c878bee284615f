-- Needs of a small unit.
use Rattle.std.proofs.Common.{◌≡◌, ℕ, suc, ◌+◌, ◌*◌, ◌<◌, ◌≤◌, ◌==◌, ◌&&◌, ◌||◌, Bool, true, false, if◌then◌else◌, List, [], ◌∷◌, length, All, get_or, refl, ap, arith, inl, inr}
use Rattle.std.proofs.lemmas.Bool.Decides.{eqb_tells}
use Rattle.std.specs.List.{list_any}
use Rattle.wg_machine.specs.declared.shape.Output.{Output}
use Rattle.wg_machine.specs.declared.shape.Shape.{Shape}
use Rattle.wg_machine.specs.declared.shape.Unit.{Unit}
use Rattle.wg_machine.specs.Need.{is_target, reaches, need_from, need_of}
use Rattle.wg_plan.specs.Limits.{IsSmallUnit, IsSmall}

all_tail : (P : ℕ → Type 0) (n : ℕ) (ns : List ℕ) → All P (n ∷ ns) → All P ns
all_tail P n ns all k d h = all (suc k) d (omega arith)

all_head : (P : ℕ → Type 0) (n : ℕ) (ns : List ℕ) → All P (n ∷ ns) → P n
all_head P n ns all = all 0 n (omega arith)

-- no output reaches nothing
need_none : (b : ℕ) (budgets : List ℕ) (v : ℕ) → need_from [] b budgets v ≡ 0
need_none b [] v = refl
need_none b (most ∷ budgets) v = omega (arith, need_none (b + 1) budgets v)

either : (x y : Bool) (n : ℕ) → (if x || y then n else 0) ≤ (if x || false then n else 0) + (if y then n else 0)
either true y n = omega arith
either false y n = omega arith

at_most : (x : Bool) (n : ℕ) → (if x then n else 0) ≤ n
at_most true n = omega arith
at_most false n = omega arith

-- an output and the others reach no more than both on their own
need_split : (o : Output) (os : List Output) (b : ℕ) (budgets : List ℕ) (v : ℕ) → need_from (o ∷ os) b budgets v ≤ need_from (o ∷ []) b budgets v + need_from os b budgets v
need_split o os b [] v = omega arith
need_split o os b (most ∷ budgets) v =
    omega (arith, either ((o.budget == b) && list_any (is_target v) o.elements) (reaches os b v) most, need_split o os (b + 1) budgets v)

-- one output reaches through one budget
need_past : (o : Output) (b : ℕ) (budgets : List ℕ) (v : ℕ) → o.budget < b → need_from (o ∷ []) b budgets v ≡ 0
need_past o b [] v h = refl
need_past o b (most ∷ budgets) v h =
    elim (eqb_tells o.budget b) [
      | inl same ↦ absurd (omega (arith, same.1))
      | inr other ↦ rw other.0 (omega (arith, need_past o (b + 1) budgets v (omega arith)))
    ]

need_one : (o : Output) (b : ℕ) (budgets : List ℕ) (v : ℕ) → All (λ n. n ≤ 256) budgets → need_from (o ∷ []) b budgets v ≤ 256
need_one o b [] v all = omega arith
need_one o b (most ∷ budgets) v all =
    elim (eqb_tells o.budget b) [
      | inl same ↦
          omega (
            arith,
            at_most ((o.budget == b) && list_any (is_target v) o.elements || false) most,
            need_past o (b + 1) budgets v (omega (arith, same.1)),
            all_head (λ n. n ≤ 256) most budgets all,
          )
      | inr other ↦
          rw other.0 (omega (arith, need_one o (b + 1) budgets v (all_tail (λ n. n ≤ 256) most budgets all)))
    ]

need_few : (os : List Output) (b : ℕ) (budgets : List ℕ) (v : ℕ) → All (λ n. n ≤ 256) budgets → need_from os b budgets v ≤ 256 * length os
need_few [] b budgets v all = omega (arith, need_none b budgets v)
need_few (o ∷ os) b budgets v all = omega (arith, need_split o os b budgets v, need_one o b budgets v all, need_few os b budgets v all)

-- a small unit needs little
pub need_small : (u : Unit) (v : ℕ) → IsSmallUnit u → need_of u v ≤ 16384
need_small u v small = omega (arith, need_few u.outputs 0 u.budgets v small.budgets)

-- a unit of a small shape is small
pub small_item : (shape : Shape) (units : List Unit) (k : ℕ) (u : Unit) → IsSmall shape → units ≡ shape.units → k < length units → u ≡ get_or units k u → IsSmallUnit u
small_item shape units k u small same h is =
    let at : IsSmallUnit (get_or units k u) = rw same (small.units k u (omega (arith, ap length same))) in
    rw is at
