-- The plan of a graph of the first form is small.
use Rattle.std.proofs.Common.{◌≡◌, ℕ, zero, suc, ◌+◌, ◌*◌, ◌≤◌, List, [], ◌∷◌, ◌++◌, length, Option, Some, None, refl, arith}
use Rattle.std.specs.Prelude.{map, slice_get, sum_by, unwrap_or, Bool, true, false, if◌then◌else◌}
use Rattle.std.specs.List.{range_with_len}
use Rattle.std.specs.Option.{option_map}
use Rattle.std.proofs.lemmas.List.Sums.{sum_by-cons}
use Rattle.wg_words.specs.Each.{Each}
use Rattle.wg_machine.specs.declared.shape.Unit.{Unit}
use Rattle.wg_machine.specs.Bytes.{least}
use Rattle.wg_machine.specs.Need.{greatest, most, need_of, reaches}
use Rattle.wg_machine.specs.Units.{stride_at}
use Rattle.wg_tool.specs.declared.pair.Pair.{Pair}
use Rattle.wg_tool.specs.FirstForm.{IsFirstForm}
use Rattle.wg_tool.specs.Wiring.{unit_of, outputs_of, later_units, shape_of, targets_of}
use Rattle.wg_machine.specs.Unrolling.{depth_of}
use Rattle.wg_tool.proofs.GoodShapes.{length_targets}
use Rattle.wg_tool.proofs.ShapeLemmas.{length_units}

-- a unit sends at most one record to each unit, and its records take four bytes
record IsLight (u : Unit) : Type 0 where
  pub need : (v : ℕ) → need_of u v ≤ 1
  pub stride : u.stride ≡ 4

light_unit : (all : List (Option ℕ)) (k d : ℕ) (t : Option ℕ) → IsLight (unit_of all k d t)
light_unit all k d None = record { need = λ v. omega arith; stride = refl }
light_unit all k d (Some t) = record { need = λ v. few (reaches (outputs_of (Some t)) 0 v); stride = refl }
  where
    few : (b : Bool) → (if b then 1 else 0) + 0 ≤ 1
    few true = omega arith
    few false = omega arith

light_units : (all : List (Option ℕ)) (built : List Unit) (k : ℕ) (ts : List (Option ℕ)) → Each IsLight (later_units all built k ts)
light_units all built k [] = tt
light_units all built k (t ∷ ts) =
    let u = unit_of all k (depth_of built k) t in
    (light_unit all k (depth_of built k) t, light_units all (built ++ u ∷ []) (k + 1) ts)

most_few : (us : List Unit) (v : ℕ) → Each IsLight us → greatest (map (λ (u : Unit). need_of u v) us) ≤ 1
most_few [] v e = omega arith
most_few (u ∷ us) v e = let h = e.0.need v in let t = most_few us v e.1 in omega (arith, h, t)

stride_few : (us : List Unit) (v : ℕ) → Each IsLight us → unwrap_or (option_map (λ (n : Unit). n.stride) (slice_get us v)) 0 ≤ 4
stride_few [] v e = omega arith
stride_few (u ∷ us) zero e = let h = e.0.stride in omega arith
stride_few (u ∷ us) (suc v) e = stride_few us v e.1

product_few : (m s : ℕ) → m ≤ 1 → s ≤ 4 → m * s ≤ 4
product_few zero s h k = omega arith
product_few (suc zero) s h k = omega arith
product_few (suc (suc m)) s h k = omega arith

sum_few : (f : ℕ → ℕ) (v n : ℕ) → ((w : ℕ) → f w ≤ 4) → sum_by f (range_with_len v n) ≤ 4 * n
sum_few f v zero h = omega arith
sum_few f v (suc n) h =
    let c = sum_by-cons f v (range_with_len (v + 1) n) in
    let x = h v in
    let t = sum_few f (v + 1) n h in
    omega (arith, c, x, t)

-- its bytes for one launch out are few
pub least_few : (pairs : List Pair) → IsFirstForm pairs → least (shape_of pairs) ≤ 128
least_few pairs form =
    let shape = shape_of pairs in
    let ts = targets_of pairs in
    let each = light_units ts [] 0 ts in
    let sum = sum_few (λ v. most shape v * stride_at shape v) 0 (length shape.units) (λ v. product_few (most shape v) (stride_at shape v) (most_few shape.units v each) (stride_few shape.units v each)) in
    let n = length_units ts [] 0 ts in
    let m = length_targets 0 pairs in
    let few = form.few in
    omega (arith, sum, n, m, few)
