use Rattle.std.proofs.Common.{length}
use Rattle.wg_journal.specs.Names.{unit_in}
use Rattle.wg_journal.proofs.RunLemmas.{Goes}
use Rattle.wg_journal.proofs.reading.read.Given as goal

-- what was read so far is a report, and reading its lines one by one comes here
abbrev pub invariant-loop-rest : goal.invariant-loop-rest
invariant-loop-rest l = Goes l.shape (unit_in l.names) l.text l.journal l.rest l.number

abbrev pub decreases-loop-rest : goal.decreases-loop-rest
decreases-loop-rest l = length l.rest
