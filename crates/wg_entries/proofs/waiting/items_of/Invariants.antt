use Rattle.std.proofs.Common.{◌≡◌}
use Rattle.wg_store.specs.Items.{entry_items}
use Rattle.wg_entries.proofs.waiting.items_of.Given as goal

abbrev pub invariant-loop-sent : goal.invariant-loop-sent
invariant-loop-sent l = l.items.items ≡ entry_items l.shape 0 l.yielded
