-- Whether a list makes so many components, by what is left after each.
use Rattle.std.proofs.Common.{◌≡◌, ℕ, ◌+◌, ◌-◌, ◌<◌, ◌≤◌, false, arith}
use Rattle.std.specs.Prelude.{◌==◌}
use Rattle.std.proofs.lemmas.Bool.Decides.{nat_tests}

pub counts_on : (next rest left : ℕ) → next ≤ left → (next + rest == left) ≡ (rest == left - next)
counts_on next rest left h = grind (arith, nat_tests)

pub counts_over : (next rest left : ℕ) → left < next → (next + rest == left) ≡ false
counts_over next rest left h = grind (arith, nat_tests)

pub counts_done : (left : ℕ) → (0 == left) ≡ (left == 0)
counts_done left = grind (arith, nat_tests)
