use Rattle.std.proofs.Common.{◌≡◌, ◌<◌, ◌^◌, length}
use Rattle.wg_journal.specs.Reading.{outs_from}
use Rattle.wg_journal.proofs.fields.Fields.outs_after.Given as goal

-- what is left goes on from the numbers so far
abbrev pub invariant-loop-self : goal.invariant-loop-self
invariant-loop-self l = record { fits : l.count < 2 ^ 32; same : outs_from l.first l.count l.self ≡ outs_from l.first 1 l.fn.self }

abbrev pub decreases-loop-self : goal.decreases-loop-self
decreases-loop-self l = length l.self
