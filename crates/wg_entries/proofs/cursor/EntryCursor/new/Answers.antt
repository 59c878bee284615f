use Rattle.wg_store.specs.Items.{entry_items}
use Rattle.wg_entries.proofs.Taking.{stands_before, stands_moved}
use Rattle.wg_entries.proofs.cursor.EntryCursor.new.Goals as goal

pub invariant_of-result : goal.invariant_of-result
invariant_of-result c =
    stands_moved (entry_items c.args.shape.now 0 c.args.entries) c.in_ok-items.items.items c.as_slice.result.now 0 c.next_waiting-place.result
    (stands_before c.args.shape.now c.args.entries c.requires.good) c.in_ok-items.ensures c.as_slice.ensures.value c.next_waiting-place.ensures.within c.next_waiting-place.ensures.past c.next_waiting-place.ensures.waits
