use Rattle.std.proofs.Common.{◌≡◌, ◌++◌, take, map}
use Rattle.wg_store.specs.Items.{record_in}
use Rattle.wg_store.proofs.launch.are_records.Given as goal

abbrev pub invariant-loop-place : goal.invariant-loop-place
invariant-loop-place l = take l.place l.records ≡ map (record_in (l.entries ++ l.slots)) (take l.place l.inputs)
