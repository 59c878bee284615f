use Rattle.wg_entries.specs.Stands.{IsPast}
use Rattle.wg_entries.proofs.waiting.next_waiting.Given as goal

abbrev pub invariant-loop-place : goal.invariant-loop-place
invariant-loop-place l = IsPast l.items l.place
