use Rattle.std.proofs.Common.{◌≡◌, drop}
use Rattle.wg_store.specs.Items.{fits_unit}
use Rattle.wg_store.proofs.pendings.front_at.Given as goal

-- the rest has what all have
abbrev pub invariant-loop-item : goal.invariant-loop-item
invariant-loop-item l = fits_unit l.unit (drop l.item-index l.items) ≡ fits_unit l.unit l.items
