use Rattle.std.proofs.Common.{◌≤◌, drop}
use Rattle.wg_store.specs.declared.item.Item.{Item}
use Rattle.wg_store.specs.Items.{with_counted}
use Rattle.wg_entries.proofs.Placed.{Changes}
use Rattle.wg_entries.proofs.changes.count_all.Given as goal

abbrev pub invariant-loop-number : goal.invariant-loop-number
invariant-loop-number l = Changes (λ (x : Item). 1 ≤ x.opening.left) with_counted l.numbers (drop l.number-index l.numbers) l.initial.items l.items
