-- The records of a placed bag fit the slots of the plan.
use Rattle.std.proofs.Common.{◌≡◌, ℕ, zero, suc, ◌+◌, ◌*◌, ◌<◌, ◌≤◌, Bool, false, List, [], ◌∷◌, ◌++◌, length, refl, ap, ◌∙◌, subst, arith, inl, inr}
use Rattle.std.specs.Prelude.{if◌then◌else◌, ◌==◌, ◌&&◌, nat_le, count_by, slice_index}
use Rattle.std.proofs.lemmas.Bool.Decides.{nat_tests}
use Rattle.wg_machine.specs.declared.launch.Live.{Live}
use Rattle.wg_machine.specs.Need.{most}
use Rattle.wg_machine.specs.Run.{EachState}
use Rattle.wg_machine.specs.State.{State}
use Rattle.wg_machine.specs.Step.{Passed}
use Rattle.wg_standing.specs.Core.{CoreView}
use Rattle.wg_standing.specs.Standing.{IsPlaced, EachKnown, counts, in_slot}
use Rattle.wg_standing.proofs.Blocks.{le_or}
use Rattle.wg_standing.proofs.Counting.{count_cons}

counts_within : (handed v n k : ℕ) (bag : List Live) → k < n → slice_index (counts handed v n bag) k ≡ count_by (in_slot handed (v + k)) bag
counts_within handed v zero k bag h = absurd (omega arith)
counts_within handed v (suc n) zero bag h = let z : v ≡ v + 0 = omega arith in ap (λ (w : ℕ). count_by (in_slot handed w) bag) z
counts_within handed v (suc n) (suc k) bag h = let z : v + 1 + k ≡ v + suc k = omega arith in counts_within handed (v + 1) n k bag (omega arith) ∙ ap (λ (w : ℕ). count_by (in_slot handed w) bag) z

none_past : (handed n v : ℕ) (bag : List Live) → EachKnown n bag → n ≤ v → count_by (in_slot handed v) bag ≡ 0
none_past handed n v [] known h = refl
none_past handed n v (x ∷ bag) known h =
    let c = count_cons (in_slot handed v) x bag in
    let low = known.0 in
    let e : (x.unit == v) ≡ false = grind (arith, nat_tests) in
    let c' = subst (λ (b : Bool). count_by (in_slot handed v) (x ∷ bag) ≡ (if b && nat_le handed x.number then 1 else 0) + count_by (in_slot handed v) bag) e c in
    omega (arith, c', none_past handed n v bag known.1 h)

-- the slots in use at a unit are the records there
pub used_at : (core : CoreView) (bag : List Live) → IsPlaced core bag → (v : ℕ) → v < length core.shape.units → slice_index core.used v ≡ count_by (in_slot core.handed v) bag
used_at core bag p v h =
    let z : 0 + v ≡ v = omega arith in
    ap (λ (us : List ℕ). slice_index us v) p.used
    ∙ counts_within core.handed 0 (length core.shape.units) v bag h
    ∙ ap (λ (w : ℕ). count_by (in_slot core.handed w) bag) z

pub slots_kept : (core : CoreView) (bag : List Live) → IsPlaced core bag → (v : ℕ) → count_by (in_slot core.handed v) bag ≤ core.width * most core.shape v
slots_kept core bag p v =
    elim (le_or (length core.shape.units) v) [
      | inl past ↦ (let z = none_past core.handed (length core.shape.units) v bag p.known past in omega (arith, z))
      | inr within ↦ (let u = used_at core bag p v within in let r = p.room v in omega (arith, u, r))
    ]

-- a fact of each state at every prefix, and of the state after one step more
pub states_more : (P : State → Type 0) (s : State) (trail : List Passed) (p : Passed) → EachState P s trail → P p.after → EachState P s (trail ++ p ∷ [])
states_more P s [] p all last = (all, last)
states_more P s (q ∷ trail) p all last = (all.0, states_more P q.after trail p all.1 last)
