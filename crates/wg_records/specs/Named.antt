-- The launch that an entry of a journal names, and what is kept of its records.
use Rattle.std.specs.Prelude.{◌≡◌, ⊤, ℕ, ◌+◌, ◌≤◌, ◌==◌, Bool, false, List, [], ◌∷◌, Option, Some, None}
use Rattle.wg_machine.specs.declared.launch.Entry.{Entry}
use Rattle.wg_machine.specs.declared.launch.Launch.{Launch}
use Rattle.wg_machine.specs.declared.launch.Live.{Live}
use Rattle.wg_machine.specs.declared.launch.Record.{Record}
use Rattle.wg_machine.specs.declared.shape.Shape.{Shape}
use Rattle.wg_machine.specs.Step.{Allows, numbers_of}
use Rattle.wg_records.specs.declared.live.LiveRecords.{LiveRecords}
use Rattle.wg_records.specs.declared.slot.Slot.{Slot}
use Rattle.wg_records.specs.Bags.{slot_at}
use Rattle.wg_records.specs.Slots.{is_ready_slot}

-- The launch is one that the bag allows, of the entry's unit, group and records.
pub record IsNamed (shape : Shape) (bag : List Live) (e : Entry) (l : Launch) : Type 0 where
  pub unit : l.unit ≡ e.unit
  pub inputs : numbers_of l.records ≡ e.inputs
  pub allowed : Allows shape bag l e.at

-- the launch that an entry names, or that there is none
abbrev pub FoundIs : Shape → List Live → Entry → Option Launch → Type 0
FoundIs shape bag e None = (l : Launch) → IsNamed shape bag e l → ⊥
FoundIs shape bag e (Some l) = IsNamed shape bag e l

-- numbers rise, from n on
abbrev pub NumbersRise : ℕ → List ℕ → Type 0
NumbersRise n [] = ⊤
NumbersRise n (m ∷ ms) = (n ≤ m) × NumbersRise (m + 1) ms

abbrev pub is_ready_at : ℕ → List ℕ → Option Slot → Bool
is_ready_at unit at None = false
is_ready_at unit at (Some s) = is_ready_slot unit at s

abbrev pub has_one_left : Option Slot → Bool
has_one_left None = false
has_one_left (Some s) = s.left == 1

abbrev pub words_in : Option Slot → List ℕ
words_in None = []
words_in (Some s) = s.words

abbrev pub grid_in : Option Slot → List ℕ
grid_in None = 1 ∷ 1 ∷ 1 ∷ []
grid_in (Some s) = s.grid

-- the record of a number as a launch sees it
abbrev pub record_at : LiveRecords → ℕ → Record
record_at k n = record { number = n; words = words_in (slot_at k n) }
