use Rattle.std.proofs.Common.{ℕ, ◌<◌, IsTrue}
use Rattle.wg_chains.specs.Rows.{leads}
use Rattle.wg_chains.proofs.cycles.first_back.Given as goal

abbrev pub invariant-loop-n : goal.invariant-loop-n
invariant-loop-n l = (m : ℕ) → m < l.n → IsTrue (leads l.rows m m) → ⊥
