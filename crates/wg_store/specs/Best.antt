-- The unit of the launch to open next, of the records that wait in slots. This project's own rule.
use Rattle.std.specs.Prelude.{◌≡◌, ◌⊎◌, ℕ, ◌<◌, ◌≤◌, ◌==◌, ◌&&◌, true, List, Option, None, Some}
use Rattle.std.specs.List.{list_any}
use Rattle.wg_words.specs.Each.{Each}
use Rattle.wg_machine.specs.declared.shape.Shape.{Shape}
use Rattle.wg_machine.specs.Units.{depth_at}
use Rattle.wg_room.specs.Counts.{Counts, HasSlotsLeft}
use Rattle.wg_store.specs.declared.item.Item.{Item}
use Rattle.wg_store.specs.Items.{waits_item}

-- a unit is deeper than another, or as deep with the lesser number
abbrev pub ComesBefore : Shape → ℕ → ℕ → Type 0
ComesBefore shape u v = (depth_at shape v < depth_at shape u) ⊎ ((depth_at shape u ≡ depth_at shape v) × (u < v))

-- a unit comes before another or is the same
abbrev pub IsNoLater : Shape → ℕ → ℕ → Type 0
IsNoLater shape u v = (depth_at shape v < depth_at shape u) ⊎ ((depth_at shape v ≡ depth_at shape u) × (u ≤ v))

-- a record waits and its unit has room
pub record CanTake (c : Counts) (x : Item) : Type 0 where
  pub waits : waits_item x ≡ true
  pub room : HasSlotsLeft c x.unit

-- a record of the unit waits, it has room, and none that waits and has room comes before it
pub record IsBest (shape : Shape) (c : Counts) (items : List Item) (u : ℕ) : Type 0 where
  pub waits : list_any (λ (x : Item). (x.unit == u) && waits_item x) items ≡ true
  pub room : HasSlotsLeft c u
  pub first : Each (λ (x : Item). CanTake c x → IsNoLater shape u x.unit) items

abbrev pub IsBestOf : Shape → Counts → List Item → Option ℕ → Type 0
IsBestOf shape c items None = Each (λ (x : Item). CanTake c x → ⊥) items
IsBestOf shape c items (Some u) = IsBest shape c items u

-- the one that comes first of a unit and another, if there is another
abbrev pub IsDeeperOf : Shape → ℕ → Option ℕ → ℕ → Type 0
IsDeeperOf shape u None r = r ≡ u
IsDeeperOf shape u (Some v) r = ((r ≡ u) × ComesBefore shape u v) ⊎ ((r ≡ v) × (ComesBefore shape u v → ⊥))
