-- What the records of a keep become when a launch settles. This project's own.
use Rattle.std.specs.Prelude.{◌≡◌, ℕ, ◌+◌, ◌<◌, ◌≤◌, ◌^◌, ◌==◌, true, false, List, [], ◌∷◌, ◌++◌, length, filter, slice_index, count_by, if◌then◌else◌, Option, Some}
use Rattle.wg_words.specs.Each.{Each}
use Rattle.wg_words.specs.declared.limits.TheConstants.{GRID_BOUND}
use Rattle.wg_machine.specs.declared.launch.Entry.{Entry}
use Rattle.wg_machine.specs.declared.launch.Sent.{Sent}
use Rattle.wg_machine.specs.declared.shape.Shape.{Shape}
use Rattle.wg_machine.specs.Grids.{grid_of, groups_in}
use Rattle.wg_machine.specs.LaunchMeaning.{Arrives}
use Rattle.wg_machine.specs.Step.{has_number}
use Rattle.wg_machine.specs.Units.{kind_at, words_at}
use Rattle.wg_room.specs.Counts.{need_at}
use Rattle.wg_standing.specs.declared.pending.Pending.{Pending}
use Rattle.wg_store.specs.declared.item.Item.{Item}
use Rattle.wg_store.specs.Items.{AreAtPlaces, AreIn, CanCount, all_counted, all_worded, born_items, has_left, waits_item}
use Rattle.wg_hold.specs.Held.{AreApart, Held, count_of}
use Rattle.wg_kept.specs.declared.store.Store.{Store}
use Rattle.wg_kept.specs.Stores.{AreBehind, records_in}

abbrev pub HasFewGroups : Shape → Sent → Type 0
HasFewGroups shape s = groups_in (grid_of (kind_at shape s.unit) s.words) < GRID_BOUND

-- records may be put into slots, numbered on from a number: they are of the shape, and each unit has slots for all of its
pub record CanPut (h : Held) (next : ℕ) (sent : List Sent) : Type 0 where
  pub above : Each (λ (x : Item). x.number < next) h.items
  pub arrive : Each (Arrives h.shape) sent
  pub few : Each (HasFewGroups h.shape) sent
  pub free : (v : ℕ) → count_of v h.items + count_by (λ (s : Sent). s.unit == v) sent ≤ slice_index h.room.bounds v
  pub fits : next + length sent < 2 ^ 64

-- the records of a hold and the slots in use change, and nothing else
pub record ItemsBecome (old new : Held) (all : List Item) : Type 0 where
  pub items : new.items ≡ all
  pub shape : new.shape ≡ old.shape
  pub room : new.room ≡ record old.room { used = new.room.used }

-- new words are for one record, and as many as its unit has
abbrev pub FitsWords : Store → List ℕ → Option (List ℕ) → Type 0
FitsWords s inputs shared =
    (new : List ℕ) → shared ≡ Some new → (n : ℕ) × (inputs ≡ n ∷ []) × Each (λ (x : Item). x.number ≡ n → length new ≡ words_at s.hold.shape x.unit) (records_in s)

-- A launch of these records may settle with these new words, and send these records.
pub record CanSettle (s : Store) (unit : ℕ) (inputs : List ℕ) (shared : Option (List ℕ)) (next : ℕ) (sent : List Sent) : Type 0 where
  pub places : AreAtPlaces 0 s.entries
  pub behind : AreBehind s
  pub there : AreIn inputs (records_in s)
  pub apart : AreApart inputs
  pub words : FitsWords s inputs shared
  -- each of its records has a group to settle, and waits for none where that is its last
  pub can : Each (CanCount inputs) (records_in s)
  pub ends : Each (λ (x : Item). has_number inputs x.number ≡ true → x.opening.left ≡ 1 → waits_item x ≡ false) s.hold.items
  pub puts : CanPut s.hold next sent
  -- what it may send is reserved
  pub known : unit < length s.hold.shape.units
  pub reserved : (v : ℕ) → need_at s.hold.room unit v ≤ slice_index s.hold.room.reserved v

-- the records after it
abbrev pub slots_settled : Store → List ℕ → Option (List ℕ) → ℕ → List Sent → List Item
slots_settled s inputs shared next sent =
    filter has_left (all_counted inputs (all_worded inputs shared s.hold.items)) ++ born_items s.hold.shape next sent

pub record SettlesTo (old new : Store) (unit : ℕ) (inputs : List ℕ) (shared : Option (List ℕ)) (next : ℕ) (sent : List Sent) : Type 0 where
  pub entries : new.entries ≡ all_counted inputs (all_worded inputs shared old.entries)
  pub items : new.hold.items ≡ slots_settled old inputs shared next sent
  pub shape : new.hold.shape ≡ old.hold.shape
  pub bounds : new.hold.room.bounds ≡ old.hold.room.bounds
  pub needs : new.hold.room.needs ≡ old.hold.room.needs
  pub reserved : (v : ℕ) → slice_index old.hold.room.reserved v ≡ slice_index new.hold.room.reserved v + need_at old.hold.room unit v

-- the entry that a launch leaves in the journal, which sent so many records
abbrev pub line_of : Pending → ℕ → ℕ → Entry
line_of o next outs = record { unit = o.unit; at = o.at; inputs = o.inputs; first_out = if outs == 0 then 0 else next; outs = outs }
