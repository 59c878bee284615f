use Rattle.std.proofs.Common.{◌≡◌, ◌+◌, ◌<◌, ℕ, false}
use Rattle.std.specs.Prelude.{is_none}
use Rattle.wg_directories.specs.Listed.{listed_at}
use Rattle.wg_directories.proofs.of_output.has_absent.Given as goal

abbrev pub invariant-loop-e : goal.invariant-loop-e
invariant-loop-e l = (i : ℕ) → i < l.e → is_none (listed_at l.directory l.o.name (l.o.index + i)) ≡ false
