-- The records in slots beside the room and the units that wait. This project's own.
use Rattle.std.specs.Prelude.{◌≡◌, ◌⊎◌, ℕ, ◌<◌, ◌≤◌, ◌^◌, ◌↔◌, List, length, map, replicate, slice_get, slice_index, slice_set, Some}
use Rattle.wg_machine.specs.declared.shape.Unit.{Unit as Node}
use Rattle.wg_machine.specs.GoodShape.{IsGoodShape}
use Rattle.wg_machine.specs.Need.{need}
use Rattle.wg_machine.specs.Units.{depth_at, words_at}
use Rattle.wg_pick.specs.Order.{IsWaiting}
use Rattle.wg_room.specs.Counts.{HasSlotsLeft, need_at}
use Rattle.wg_slots.specs.SlotsOf.{IsHeld, SlotsOf, all_free, slots_at, used_of, waiting_of}
use Rattle.wg_standing.specs.Moves.{slot_bytes}
use Rattle.wg_keep.specs.declared.stock.Stock.{Stock}

-- a record waits at the unit
abbrev pub Waits : Stock → ℕ → Type 0
Waits s u = 0 < length (waiting_of (slots_at s.slots u))

-- What every stock keeps: its parts are of one shape, the units that wait are those with a record that waits, and the
-- slots in use are those with a record.
pub record IsStock (s : Stock) : Type 0 where
  pub good : IsGoodShape s.shape
  pub units : length s.slots ≡ length s.shape.units
  pub bounds : length s.room.bounds ≡ length s.shape.units
  pub counted : length s.room.used ≡ length s.shape.units
  pub flags : length s.picker.waits ≡ length s.shape.units
  pub depths : s.picker.depths ≡ map (λ (u : Node). u.depth) s.shape.units
  pub waiting : (u : ℕ) → u < length s.shape.units → IsWaiting s.picker u ↔ Waits s u
  pub words : (u : ℕ) → u < length s.shape.units → (slots_at s.slots u).words ≡ words_at s.shape u
  pub used : (u : ℕ) → u < length s.shape.units → slice_index s.room.used u ≡ used_of (slots_at s.slots u)
  pub slots : (u : ℕ) → u < length s.shape.units → slice_index s.room.bounds u ≡ (slots_at s.slots u).slots
  pub within : (u : ℕ) → slice_index s.room.used u ≤ slice_index s.room.bounds u
  pub small : (u : ℕ) → slice_index s.room.bounds u < 2 ^ 32
  pub needs : (u v : ℕ) → v < length s.shape.units → need_at s.room u v ≡ need s.shape u v
  pub bytes : s.bytes ≡ slot_bytes s.shape 0 s.room.used

-- nothing is used or reserved
pub record IsEmptyStock (s : Stock) (counts : List ℕ) : Type 0 where
  pub slots : (u : ℕ) → u < length s.shape.units → slots_at s.slots u ≡ all_free (slice_index counts u) (words_at s.shape u)
  pub bounds : s.room.bounds ≡ counts
  pub used : s.room.used ≡ replicate (length counts) 0
  pub reserved : s.room.reserved ≡ replicate (length counts) 0

-- only the slots of one unit change, and the count of those in use
pub record KeepsOthers (old new : Stock) (u : ℕ) : Type 0 where
  pub shape : new.shape ≡ old.shape
  pub slots : new.slots ≡ slice_set old.slots u (slots_at new.slots u)
  pub room : new.room ≡ record old.room { used = new.room.used }
  pub used : (v : ℕ) → v < length old.shape.units → slice_index new.room.used v ≡ used_of (slots_at new.slots v)

-- the deepest unit that waits and has room, then the least
pub record IsPickOf (s : Stock) (u : ℕ) : Type 0 where
  pub within : u < length s.shape.units
  pub waits : Waits s u
  pub room : HasSlotsLeft s.room u
  pub best : (v : ℕ) → v < length s.shape.units → Waits s v → HasSlotsLeft s.room v → (depth_at s.shape v < depth_at s.shape u) ⊎ ((depth_at s.shape v ≡ depth_at s.shape u) × (u ≤ v))

-- no unit that waits has room
abbrev pub NoPickOf : Stock → Type 0
NoPickOf s = (v : ℕ) → v < length s.shape.units → Waits s v → HasSlotsLeft s.room v → ⊥

-- the slot is that of the first record that waits, or is held
abbrev pub IsFrontOrHeld : SlotsOf → ℕ → Type 0
IsFrontOrHeld k slot = ((0 < length (waiting_of k)) × (slice_get k.places 0 ≡ Some slot)) ⊎ (IsHeld k slot)
