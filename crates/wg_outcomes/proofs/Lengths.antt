-- Start words that are as long as their buffers.
use Rattle.std.proofs.Common.{ℕ, zero, suc, ◌≤◌, List, [], ◌∷◌, length, arith}
use Rattle.std.specs.Prelude.{slice_index}
use Rattle.wg_machine.specs.Buffers.{buffer_at}

pub two_fit : (x y : List ℕ) (k l : ℕ) → length x ≤ k → length y ≤ l → (b : ℕ) → length (buffer_at (x ∷ y ∷ []) b) ≤ slice_index (k ∷ l ∷ []) b
two_fit x y k l hx hy zero = hx
two_fit x y k l hx hy (suc zero) = hy
two_fit x y k l hx hy (suc (suc b)) = omega arith
