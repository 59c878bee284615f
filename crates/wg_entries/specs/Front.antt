-- The launch that takes from the front of the entries that wait. This project's own.
use Rattle.std.specs.Prelude.{◌≡◌, List, filter, slice_get, Some}
use Rattle.wg_machine.specs.declared.shape.Shape.{Shape}
use Rattle.wg_standing.specs.declared.pending.Pending.{Pending}
use Rattle.wg_store.specs.declared.item.Item.{Item}
use Rattle.wg_store.specs.Items.{fits_next, pending_of, waits_item}

pub record IsFront (shape : Shape) (items : List Item) (o : Pending) : Type 0 where
  pub first : Item
  pub waits : slice_get (filter waits_item items) 0 ≡ Some first
  pub is : o ≡ pending_of o.ticket shape first.unit (fits_next first.unit items)
