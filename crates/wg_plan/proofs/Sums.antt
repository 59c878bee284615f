-- A sum over the numbers below one that grows by one.
use Rattle.std.proofs.Common.{◌≡◌, ℕ, zero, suc, ◌+◌, ◌*◌, ◌<◌, ◌≤◌, List, length, slice_index, slice_get, get_or, Some, refl, ap, ◌∙◌, arith, add-one}
use Rattle.std.proofs.Math.Nat.{mul-le-mul_left}
use Rattle.std.proofs.lemmas.Option.{slice_get_read}
use Rattle.std.proofs.lemmas.List.Sums.{sum_by-cons}
use Rattle.std.specs.Prelude.{sum_by}
use Rattle.std.specs.List.{range_with_len}
use Rattle.wg_machine.specs.declared.shape.Shape.{Shape}
use Rattle.wg_machine.specs.declared.shape.Unit.{Unit}
use Rattle.wg_machine.specs.Need.{most}
use Rattle.wg_machine.specs.Units.{stride_at}
use Rattle.wg_plan.specs.Limits.{IsSmallUnit}

sum_from : (f : ℕ → ℕ) (a n : ℕ) → sum_by f (range_with_len a (suc n)) ≡ sum_by f (range_with_len a n) + f (a + n)
sum_from f a zero = let e : a + 0 ≡ a = omega arith in rw e refl
sum_from f a (suc n) =
    let e : a + 1 + n ≡ a + suc n = omega arith in
    let rest = sum_from f (a + 1) n in
    rw (sum_by-cons f a (range_with_len (a + 1) (suc n)), sum_by-cons f a (range_with_len (a + 1) n), rest, e) (omega arith)

pub sum_more : (f : ℕ → ℕ) (n : ℕ) → sum_by f (range_with_len 0 (n + 1)) ≡ sum_by f (range_with_len 0 n) + f n
sum_more f n = let e : 0 + n ≡ n = omega arith in rw (add-one, sum_from f 0 n, e) refl

-- the bytes of the first units
pub record IsLeast (shape : Shape) (place sum : ℕ) : Type 0 where
  pub sum_is : sum ≡ sum_by (λ v. most shape v * stride_at shape v) (range_with_len 0 place)
  pub small : sum ≤ 134217728 * place

pub least_more : (shape : Shape) (units : List Unit) (mosts : List ℕ) (place sum m s : ℕ) (u : Unit)
    → units ≡ shape.units
    → length mosts ≡ length shape.units
    → ((v : ℕ) → v < length mosts → slice_index mosts v ≡ most shape v)
    → ((v : ℕ) → slice_index mosts v ≤ 16384)
    → place < length units → u ≡ get_or units place u → IsSmallUnit u
    → m ≡ get_or mosts place 0 → s ≡ u.stride
    → IsLeast shape place sum → IsLeast shape (place + 1) (sum + m * s)
least_more shape units mosts place sum m s u same count are few h is small e f least =
    let within : place < length shape.units = omega (arith, ap length same) in
    let there : slice_get shape.units place ≡ Some u = rw same at (slice_get_read units (length units) place u refl h is) in
    let stride : stride_at shape place ≡ u.stride = rw there refl in
    let m_is : m ≡ most shape place = e ∙ are place (omega arith) in
    let m_few : m ≤ 16384 = rw e (few place) in
    let s_few : s ≤ 8192 = rw f small.stride in
    record {
      sum_is = rw (sum_more (λ v. most shape v * stride_at shape v) place, stride, ← f, ← m_is, ← least.sum_is) refl;
      small = omega (arith, least.small, mul-le-mul_left s m_few, mul-le-mul_left 16384 s_few);
    }
