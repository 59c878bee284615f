use Rattle.std.proofs.Common.{◌<◌, ◌≢◌, List, None, length, subst, sym}
use Rattle.std.specs.Prelude.{filter, slice_get}
use Rattle.wg_store.specs.declared.item.Item.{Item}
use Rattle.wg_store.specs.Items.{waits_item}
use Rattle.wg_entries.proofs.Taking.{first_within}
use Rattle.wg_entries.proofs.cursor.EntryCursor.front.Goals as goal

pub front_at-requires-clause-there : goal.front_at-requires-clause-there
front_at-requires-clause-there c =
    subst (λ (xs : List Item). c.self.inside.place < length xs) (sym c.as_slice.ensures.value)
    (first_within c.self.inside.items.items c.self.inside.place c.self.invariant.past c.self.invariant.waits
    (subst (λ (xs : List Item). slice_get (filter waits_item xs) 0 ≢ None) (sym c.self.view_is) c.requires.some))
