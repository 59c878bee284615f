use Rattle.std.proofs.Common.{◌≡◌, drop}
use Rattle.std.specs.Prelude.{filter}
use Rattle.wg_store.specs.Items.{waits_item}
use Rattle.wg_store.proofs.pendings.first_item.Given as goal

-- the rest has what all have
abbrev pub invariant-loop-item : goal.invariant-loop-item
invariant-loop-item l = filter waits_item (drop l.item-index l.entries) ≡ filter waits_item l.entries
