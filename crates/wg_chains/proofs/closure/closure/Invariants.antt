use Rattle.std.proofs.Common.{◌≡◌, ℕ, length}
use Rattle.wg_chains.specs.Rows.{leads, IsSquare}
use Rattle.wg_chains.proofs.Closures.{through_below}
use Rattle.wg_chains.proofs.closure.closure.Given as goal

abbrev pub invariant-loop-k : goal.invariant-loop-k
invariant-loop-k l = record {
  square : IsSquare (length l.initial.closed) l.closed;
  steps : (i j : ℕ) → leads l.closed i j ≡ through_below (leads l.initial.closed) l.k i j;
}
