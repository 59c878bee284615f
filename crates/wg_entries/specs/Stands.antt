-- Where a cursor over entries stands. This project's own.
use Rattle.std.specs.Prelude.{◌≡◌, ℕ, ◌≤◌, false, true, List, IfSome, length, slice_get, take}
use Rattle.wg_words.specs.Each.{Each}
use Rattle.wg_keep.specs.Opening.{IsOpening}
use Rattle.wg_store.specs.declared.item.Item.{Item}
use Rattle.wg_store.specs.Items.{AreAtPlaces, waits_item}

-- no item before the place waits
abbrev pub IsPast : List Item → ℕ → Type 0
IsPast items place = Each (λ (x : Item). waits_item x ≡ false) (take place items)

-- the item at the place waits, or the place is behind the last
abbrev pub WaitsAt : List Item → ℕ → Type 0
WaitsAt items place = IfSome (slice_get items place) (λ x. waits_item x ≡ true)

-- what every cursor keeps: it stands at the first item that waits, or behind the last
pub record Stands (items : List Item) (place : ℕ) : Type 0 where
  pub places : AreAtPlaces 0 items
  pub openings : Each (λ (x : Item). IsOpening x.opening) items
  pub within : place ≤ length items
  pub past : IsPast items place
  pub waits : WaitsAt items place
