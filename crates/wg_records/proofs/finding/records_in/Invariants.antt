use Rattle.std.proofs.Common.{◌≡◌, ◌++◌, map, drop}
use Rattle.wg_records.specs.Named.{record_at}
use Rattle.wg_records.proofs.finding.records_in.Given as goal

abbrev pub invariant-loop-number : goal.invariant-loop-number
invariant-loop-number l = l.found ++ map (record_at l.records) (drop l.number-index l.numbers) ≡ map (record_at l.records) l.numbers
