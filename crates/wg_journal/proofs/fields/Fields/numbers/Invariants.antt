use Rattle.std.proofs.Common.{◌≡◌, ◌++◌, length}
use Rattle.wg_journal.specs.Reading.{number_fields}
use Rattle.wg_journal.proofs.fields.Fields.numbers.Given as goal

-- the numbers so far, and those that stand in front of what is left
abbrev pub invariant-loop-n : goal.invariant-loop-n
invariant-loop-n l = (l.numbers ++ (number_fields l.self).0, (number_fields l.self).1) ≡ number_fields l.fn.self

abbrev pub decreases-loop-n : goal.decreases-loop-n
decreases-loop-n l = length l.self
