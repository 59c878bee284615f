-- What contracts see of a keep: a core without its buffers and counts, by its records and launches out. This project's own.
use Rattle.std.specs.Prelude.{◌≡◌, ℕ, ◌+◌, ◌*◌, ◌^◌, ◌<◌, ◌≤◌, List, [], ◌∷◌, ◌++◌, length, filter, slice_index, None}
use Rattle.wg_words.specs.Each.{Each}
use Rattle.wg_machine.specs.declared.launch.Entry.{Entry}
use Rattle.wg_machine.specs.declared.launch.Limits.{Limits}
use Rattle.wg_machine.specs.declared.launch.Sent.{Sent}
use Rattle.wg_machine.specs.declared.shape.Shape.{Shape}
use Rattle.wg_machine.specs.GoodShape.{IsGoodShape}
use Rattle.wg_machine.specs.Grids.{place_of}
use Rattle.wg_machine.specs.LaunchMeaning.{Outcome}
use Rattle.wg_machine.specs.Need.{most, need}
use Rattle.wg_room.specs.Counts.{Counts, need_at}
use Rattle.wg_keep.specs.Opening.{IsOpening}
use Rattle.wg_standing.specs.declared.pending.Pending.{Pending}
use Rattle.wg_standing.specs.Core.{CoreView}
use Rattle.wg_standing.specs.Moves.{settled_of}
use Rattle.wg_standing.specs.Outs.{launch_now}
use Rattle.wg_standing.specs.Standing.{IsPlaced, by_unit, counts, is_entry_record, opened_of, reserved}
use Rattle.wg_store.specs.declared.item.Item.{Item}
use Rattle.wg_store.specs.Items.{AreAtPlaces, AreIn, ItemsRise, LeftIsCounted, all_counted, all_opened, all_worded, born_items, entry_items, first_of, grid_in, has_left, launch_by, lives}

-- a core by its records, of which the first so many are entries, and its launches out
abbrev pub seen : Shape → ℕ → Limits → ℕ → List Entry → ℕ → List Item → List Pending → ℕ → CoreView
seen shape width limits handed journal next items outs tickets =
    let bag = lives outs items in
    let waiting = lives [] items in
    let opened = opened_of waiting bag in
    record {
      shape = shape;
      width = width;
      limits = limits;
      handed = handed;
      journal = journal;
      next = next;
      buffers = [];
      bag = bag;
      waits = by_unit handed 0 (length shape.units) waiting;
      entries = filter (is_entry_record handed) waiting;
      held = by_unit handed 0 (length shape.units) opened;
      taken = filter (is_entry_record handed) opened;
      used = counts handed 0 (length shape.units) bag;
      outs = outs;
      spare = length outs;
      tickets = tickets;
      denied = 0;
      peak = 0;
      kept = 0;
      stopped = None;
    }

-- The part of a core that its keep has: all but the buffers, the denied requests, the peak, the guesses kept and the stop.
abbrev pub kept_part : CoreView → CoreView
kept_part core = record core { buffers = []; denied = 0; peak = 0; kept = 0; stopped = None }

-- What a keep is made of: its entries, each at the place of its number, the records in slots, the launches out, and what
-- has run.
pub record Kept : Type 0 where
  pub shape : Shape
  pub width : ℕ
  pub limits : Limits
  pub entries : List Item
  pub slots : List Item
  pub outs : List Pending
  pub journal : List Entry
  pub next : ℕ
  pub tickets : ℕ

abbrev pub items_of : Kept → List Item
items_of k = k.entries ++ k.slots

abbrev pub view_of : Kept → CoreView
view_of k = seen k.shape k.width k.limits (length k.entries) k.journal k.next (items_of k) k.outs k.tickets

-- the room counts the slots in use and those reserved, for the slots of the plan
pub record IsRoomOf (k : Kept) (c : Counts) : Type 0 where
  pub many : length c.bounds ≡ length k.shape.units
  pub bounds : (v : ℕ) → v < length k.shape.units → slice_index c.bounds v ≡ k.width * most k.shape v
  pub used : (v : ℕ) → slice_index c.used v ≡ slice_index (view_of k).used v
  pub reserved : (v : ℕ) → slice_index c.reserved v ≡ reserved k.shape k.outs v
  pub needs : (u v : ℕ) → v < length k.shape.units → need_at c u v ≡ need k.shape u v
  pub within : (u v : ℕ) → 0 < need_at c u v → v < length k.shape.units

-- What every keep keeps.
pub record IsKept (k : Kept) : Type 0 where
  pub good : IsGoodShape k.shape
  -- its records are in their places, each group that has not settled is counted, and none is opened that there is not
  pub placed : IsPlaced (view_of k) (view_of k).bag
  pub counted : Each (LeftIsCounted k.outs) (items_of k)
  pub openings : Each (λ (x : Item). IsOpening x.opening) (items_of k)
  -- entries have their places as numbers, and those in slots rise behind them
  pub places : AreAtPlaces 0 k.entries
  pub rises : ItemsRise (length k.entries) k.slots k.next
  pub units : Each (λ (x : Item). x.unit < length k.shape.units) (items_of k)

-- a keep with one more launch out
abbrev pub kept_with_out : Kept → Pending → Kept
kept_with_out k o =
    record k { entries = all_opened o.inputs k.entries; slots = all_opened o.inputs k.slots; outs = k.outs ++ o ∷ []; tickets = k.tickets + 1 }

-- What is told of a launch that the bag of a keep allows: there is a record of each of its numbers, its group's place fits
-- a word, and its launch of now is what these records say.
pub record IsTold (k : Kept) (o : Pending) : Type 0 where
  pub there : AreIn o.inputs (items_of k)
  pub some : 1 ≤ length o.inputs
  pub group : place_of (grid_in (items_of k) (first_of o.inputs)) o.at < 2 ^ 32
  pub is : launch_now k.shape (view_of k).bag o ≡ launch_by k.shape (items_of k) o

-- a keep after a launch out made its step: `before` and `later` stay out
abbrev pub kept_settled : Kept → List Pending → Pending → List Pending → Outcome → Kept
kept_settled k before o later outcome =
    let core = settled_of (view_of k) before o later outcome in
    record k {
      entries = all_counted o.inputs (all_worded o.inputs outcome.shared k.entries);
      slots = filter has_left (all_counted o.inputs (all_worded o.inputs outcome.shared k.slots)) ++ born_items k.shape k.next outcome.sent;
      outs = before ++ later;
      journal = core.journal;
      next = core.next;
    }

-- a keep at the start of a script
abbrev pub kept_begun : Shape → ℕ → Limits → List Sent → Kept
kept_begun shape width limits script =
    record { shape = shape; width = width; limits = limits; entries = entry_items shape 0 script; slots = []; outs = []; journal = []; next = length script; tickets = 0 }
