-- Records in slots, as contracts see them. This project's own.
use Rattle.std.specs.Prelude.{◌≡◌, ⊤, ℕ, ◌<◌, ◌≤◌, ◌^◌, ◌==◌, true, false, List, [], ◌∷◌, length, slice_index, count_by}
use Rattle.wg_words.specs.Each.{Each}
use Rattle.wg_machine.specs.declared.shape.Shape.{Shape}
use Rattle.wg_machine.specs.GoodShape.{IsGoodShape}
use Rattle.wg_machine.specs.Need.{need}
use Rattle.wg_machine.specs.Step.{has_number}
use Rattle.wg_machine.specs.Units.{words_at}
use Rattle.wg_room.specs.Counts.{Counts, need_at}
use Rattle.wg_keep.specs.Opening.{IsOpening}
use Rattle.wg_store.specs.declared.item.Item.{Item}
use Rattle.wg_store.specs.Items.{ItemsRise, has_left}

-- the shape, the records in rising order of number, and the slots of each unit with those in use and those reserved
pub record Held : Type 0 where
  pub shape : Shape
  pub items : List Item
  pub room : Counts

-- no number stands twice
abbrev pub AreApart : List ℕ → Type 0
AreApart [] = ⊤
AreApart (n ∷ ns) = (has_number ns n ≡ false) × AreApart ns

-- how many of the records are of a unit
abbrev pub count_of : ℕ → List Item → ℕ
count_of v items = count_by (λ (x : Item). x.unit == v) items

-- what every hold keeps
pub record IsHeldSound (h : Held) : Type 0 where
  pub good : IsGoodShape h.shape
  pub rises : (end : ℕ) × ItemsRise 0 h.items end
  pub units : Each (λ (x : Item). x.unit < length h.shape.units) h.items
  pub openings : Each (λ (x : Item). IsOpening x.opening) h.items
  -- of each record a group has not settled
  pub left : Each (λ (x : Item). has_left x ≡ true) h.items
  pub words : Each (λ (x : Item). length x.words ≡ words_at h.shape x.unit) h.items
  -- each unit has its slots, those in use are those of its records, and the needs are the shape's
  pub many : length h.room.bounds ≡ length h.shape.units
  pub counted : length h.room.used ≡ length h.shape.units
  pub used : (v : ℕ) → slice_index h.room.used v ≡ count_of v h.items
  pub within : (v : ℕ) → slice_index h.room.used v ≤ slice_index h.room.bounds v
  pub small : (v : ℕ) → slice_index h.room.bounds v < 2 ^ 32
  pub needs : (u v : ℕ) → v < length h.shape.units → need_at h.room u v ≡ need h.shape u v
  pub reach : (u v : ℕ) → 0 < need_at h.room u v → v < length h.shape.units
