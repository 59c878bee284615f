-- The records of a keep: its entries, and those in slots. This project's own.
use Rattle.std.specs.Prelude.{◌≡◌, ◌≢◌, ◌⊎◌, ◌≤◌, List, [], ◌++◌, length}
use Rattle.wg_words.specs.Each.{Each}
use Rattle.wg_machine.specs.declared.shape.Shape.{Shape}
use Rattle.wg_standing.specs.declared.pending.Pending.{Pending}
use Rattle.wg_store.specs.declared.item.Item.{Item}
use Rattle.wg_store.specs.Items.{fits_unit, pending_of}
use Rattle.wg_entries.specs.Front.{IsFront}
use Rattle.wg_kept.specs.declared.store.Store.{Store}

abbrev pub records_in : Store → List Item
records_in s = s.entries ++ s.hold.items

-- the records in slots are numbered behind the entries
abbrev pub AreBehind : Store → Type 0
AreBehind s = Each (λ (x : Item). length s.entries ≤ x.number) s.hold.items

-- the launch takes from the front of its unit's records that wait in slots
abbrev pub IsSlotsFront : Shape → List Item → Pending → Type 0
IsSlotsFront shape slots o = (fits_unit o.unit slots ≢ []) × (o ≡ pending_of o.ticket shape o.unit (fits_unit o.unit slots))

-- it takes from there, or from the front of the entries that wait
abbrev pub IsFrontOf : Shape → List Item → List Item → Pending → Type 0
IsFrontOf shape entries slots o = IsSlotsFront shape slots o ⊎ IsFront shape entries o
