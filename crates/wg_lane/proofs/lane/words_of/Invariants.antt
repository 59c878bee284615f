use Rattle.std.proofs.Common.{◌≡◌, map, take}
use Rattle.wg_machine.specs.declared.launch.Record.{Record}
use Rattle.wg_lane.proofs.lane.words_of.Given as goal

abbrev pub invariant-loop-record : goal.invariant-loop-record
invariant-loop-record l = l.list ≡ map (λ (r : Record). r.words) (take l.record-index l.records)
