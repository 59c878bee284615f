use Rattle.std.proofs.Common.{◌≡◌}
use Rattle.wg_counters.specs.Counting.{copies}
use Rattle.wg_counters.proofs.counters.copies_of.Given as goal

-- so many records were made
abbrev pub invariant-loop : goal.invariant-loop
invariant-loop l = l.sent ≡ copies l.shape l.unit l.counter l.word
