use Rattle.std.proofs.Common.{ℕ, ◌<◌, ◌≤◌}
use Rattle.wg_chains.specs.Arrived.{last_in}
use Rattle.wg_chains.proofs.depths.first_too_long.Given as goal

abbrev pub invariant-loop-n : goal.invariant-loop-n
invariant-loop-n l = (m : ℕ) → m < l.n → last_in l.nodes l.rows l.depths m ≤ 32
