use Rattle.std.proofs.Common.{◌≡◌, ◌++◌, map, drop}
use Rattle.wg_machine.specs.Step.{record_of, taken}
use Rattle.wg_plain.proofs.bag.records_taken.Given as goal

abbrev pub invariant-loop-live : goal.invariant-loop-live
invariant-loop-live l = l.records ++ map record_of (taken l.numbers (drop l.live-index l.bag)) ≡ map record_of (taken l.numbers l.bag)
