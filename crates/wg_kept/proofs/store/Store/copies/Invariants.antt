use Rattle.std.proofs.Common.{◌≡◌, map, take}
use Rattle.wg_store.specs.Items.{record_in}
use Rattle.wg_kept.specs.Stores.{records_in}
use Rattle.wg_kept.proofs.store.Store.copies.Given as goal

abbrev pub invariant-loop-number : goal.invariant-loop-number
invariant-loop-number l = l.records ≡ map (record_in (records_in l.self)) (take l.number-index l.inputs)
