use Rattle.std.proofs.Common.{◌≡◌, ◌++◌, take, map}
use Rattle.wg_store.specs.Items.{record_in}
use Rattle.wg_store.proofs.launch.records_of.Given as goal

abbrev pub invariant-loop-number : goal.invariant-loop-number
invariant-loop-number l = l.records ≡ map (record_in (l.entries ++ l.slots)) (take l.number-index l.inputs)
