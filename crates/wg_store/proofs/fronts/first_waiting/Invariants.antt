use Rattle.std.proofs.Common.{drop}
use Rattle.wg_store.specs.Items.{fits_unit}
use Rattle.wg_store.proofs.Found.{Goes}
use Rattle.wg_store.proofs.fronts.first_waiting.Given as goal

abbrev pub invariant-loop-item : goal.invariant-loop-item
invariant-loop-item l = Goes (fits_unit l.unit) l.most l.items (drop l.item-index l.items) l.numbers
