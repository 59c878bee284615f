-- What a hold keeps of its parts. This project's own.
use Rattle.std.specs.Prelude.{◌≡◌, ℕ, ◌+◌, ◌^◌, ◌<◌, ◌≤◌, List, [], ◌∷◌, length, slice_index}
use Rattle.wg_words.specs.Each.{Each}
use Rattle.wg_machine.specs.declared.shape.Shape.{Shape}
use Rattle.wg_machine.specs.GoodShape.{IsGoodShape}
use Rattle.wg_machine.specs.Need.{need}
use Rattle.wg_machine.specs.Units.{words_at}
use Rattle.wg_room.specs.Counts.{Counts, need_at}
use Rattle.wg_keep.specs.Opening.{IsOpening}
use Rattle.wg_standing.specs.Moves.{slot_bytes}
use Rattle.wg_store.specs.declared.item.Item.{Item}
use Rattle.wg_hold.specs.Held.{count_of}
use Rattle.wg_hold.specs.RowsOf.{RowsOf}

-- the slots of all units
abbrev pub slots_in : List ℕ → ℕ
slots_in [] = 0
slots_in (n ∷ ns) = n + slots_in ns

-- the records are those of the shape, the room counts them, and there is a place for a record of each slot
pub record IsHold (shape : Shape) (rows : RowsOf) (room : Counts) (bytes : ℕ) : Type 0 where
  pub good : IsGoodShape shape
  pub units : Each (λ (x : Item). x.unit < length shape.units) rows.items
  pub openings : Each (λ (x : Item). IsOpening x.opening) rows.items
  pub words : Each (λ (x : Item). length x.words ≡ words_at shape x.unit) rows.items
  pub many : length room.bounds ≡ length shape.units
  pub counted : length room.used ≡ length shape.units
  pub used : (v : ℕ) → slice_index room.used v ≡ count_of v rows.items
  pub within : (v : ℕ) → slice_index room.used v ≤ slice_index room.bounds v
  pub small : (v : ℕ) → slice_index room.bounds v < 2 ^ 32
  pub needs : (u v : ℕ) → v < length shape.units → need_at room u v ≡ need shape u v
  pub reach : (u v : ℕ) → 0 < need_at room u v → v < length shape.units
  pub sized : bytes ≡ slot_bytes shape 0 room.used
  pub places : slots_in room.bounds ≤ rows.most
  pub below : rows.units ≡ length shape.units
