use Rattle.std.proofs.Common.{◌+◌, ◌<◌, drop}
use Rattle.std.specs.Prelude.{◌^◌}
use Rattle.wg_store.specs.declared.item.Item.{Item}
use Rattle.wg_store.specs.Items.{with_opened}
use Rattle.wg_entries.proofs.Placed.{Changes}
use Rattle.wg_entries.proofs.changes.open_all.Given as goal

abbrev pub invariant-loop-number : goal.invariant-loop-number
invariant-loop-number l = Changes (λ (x : Item). x.opening.opened + 1 < 2 ^ 32) with_opened l.numbers (drop l.number-index l.numbers) l.initial.items l.items
