use Rattle.std.proofs.Common.{◌≡◌, map, take}
use Rattle.wg_store.specs.Items.{record_in}
use Rattle.wg_kept.specs.Stores.{records_in}
use Rattle.wg_kept.proofs.store.Store.are_records.Given as goal

abbrev pub invariant-loop-place : goal.invariant-loop-place
invariant-loop-place l = take l.place l.records ≡ map (record_in (records_in l.self)) (take l.place l.inputs)
