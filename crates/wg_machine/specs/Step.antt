-- A step of the machine: a launch takes what the bag allows, and leaves what it made (Work Graphs, "Node types").
use Rattle.std.specs.Prelude.{◌≡◌, ℕ, ◌+◌, ◌≤◌, ◌==◌, ◌&&◌, Bool, if◌then◌else◌, List, [], ◌∷◌, ◌++◌, length, map, Option, Some, unwrap_or, IsTrue, filter}
use Rattle.std.specs.List.{list_all, list_any, flat_map}
use Rattle.wg_words.specs.Each.{Each}
use Rattle.wg_machine.specs.declared.shape.Shape.{Shape}
use Rattle.wg_machine.specs.declared.launch.Record.{Record}
use Rattle.wg_machine.specs.declared.launch.Launch.{Launch}
use Rattle.wg_machine.specs.declared.launch.Live.{Live}
use Rattle.wg_machine.specs.declared.launch.Entry.{Entry}
use Rattle.wg_machine.specs.Grids.{place_of, has_group, without_group}
use Rattle.wg_machine.specs.LaunchMeaning.{Meaning, Outcome}
use Rattle.wg_machine.specs.State.{State, born, kept}
use Rattle.wg_machine.specs.Units.{kind_at, most_inputs, shared_at}

abbrev pub has_number : List ℕ → ℕ → Bool
has_number numbers n = list_any (λ m. m == n) numbers

abbrev pub numbers_of : List Record → List ℕ
numbers_of records = map (λ (r : Record). r.number) records

-- a live record as a launch sees it
abbrev pub record_of : Live → Record
record_of r = record { number = r.number; words = r.words }

-- the live records with these numbers
abbrev pub taken : List ℕ → List Live → List Live
taken numbers bag = filter (λ (r : Live). has_number numbers r.number) bag

-- the record is of the unit, and the group has not run
pub record IsReady (unit : ℕ) (at : List ℕ) (r : Live) : Type 0 where
  pub unit_is : r.unit ≡ unit
  pub group_is : IsTrue (has_group r.groups at)

-- the unit is shared, and these records have no group left but one
abbrev pub is_last : Shape → ℕ → List Live → Bool
is_last shape unit records = shared_at shape unit && list_all (λ (r : Live). length r.groups == 1) records

-- The bag allows a launch of a group: it takes live records of its unit, in rising order of number, as many as the
-- unit's kind lets it take, and none of them has run the group. It has their words, and the grid of their birth.
pub record Allows (shape : Shape) (bag : List Live) (launch : Launch) (at : List ℕ) : Type 0 where
  pub records : launch.records ≡ map record_of (taken (numbers_of launch.records) bag)
  pub some : 1 ≤ length launch.records
  pub few : length launch.records ≤ most_inputs (kind_at shape launch.unit)
  pub ready : Each (IsReady launch.unit at) (taken (numbers_of launch.records) bag)
  pub grid : Each (λ (r : Live). launch.grid ≡ r.grid) (taken (numbers_of launch.records) bag)
  pub group : launch.group ≡ place_of launch.grid at
  pub last : launch.last ≡ is_last shape launch.unit (taken (numbers_of launch.records) bag)

-- the grid of the first record
abbrev pub first_grid : List Live → List ℕ
first_grid [] = 1 ∷ 1 ∷ 1 ∷ []
first_grid (r ∷ records) = r.grid

-- the launch of a group of the records with these numbers, as a bag has them
abbrev pub launch_in : Shape → List Live → ℕ → List ℕ → List ℕ → Launch
launch_in shape bag unit at numbers =
    record {
      unit = unit;
      records = map record_of (taken numbers bag);
      group = place_of (first_grid (taken numbers bag)) at;
      grid = first_grid (taken numbers bag);
      last = is_last shape unit (taken numbers bag);
    }

-- a record after one of its groups has run, with the new words if there are some
abbrev pub after_group : List ℕ → Option (List ℕ) → Live → Live
after_group at new r = record r { words = unwrap_or new r.words; groups = without_group at r.groups }

-- the bag after the records with these numbers have run a group
abbrev pub left_after : List ℕ → List ℕ → Option (List ℕ) → List Live → List Live
left_after numbers at new [] = []
left_after numbers at new (r ∷ bag) =
    (if has_number numbers r.number then kept (after_group at new r) else r ∷ []) ++ left_after numbers at new bag

-- the entry that a launch leaves in the journal
abbrev pub entry_of : Launch → List ℕ → ℕ → Outcome → Entry
entry_of launch at next o =
    record {
      unit = launch.unit;
      at = at;
      inputs = numbers_of launch.records;
      first_out = if length o.sent == 0 then 0 else next;
      outs = length o.sent;
    }

-- the state after a launch: its group has run, a shared record that stays has its new words, what it sent is live with
-- the next numbers
abbrev pub state_after : Shape → State → Launch → List ℕ → Outcome → State
state_after shape s launch at o =
    record {
      bag = left_after (numbers_of launch.records) at o.shared s.bag ++ flat_map kept (born shape s.next o.sent);
      next = s.next + length o.sent;
      buffers = o.buffers;
    }

-- a launch that was settled: what it took, what it did, and the state after it
pub record Passed : Type 0 where
  pub launch : Launch
  pub outcome : Outcome
  pub after : State

-- One step from a state: by a launch that the bag allows and that is not spent, with this entry.
pub record Step (shape : Shape) (made : Meaning) (turns : ℕ) (s : State) (entry : Entry) (p : Passed) : Type 0 where
  pub allowed : Allows shape s.bag p.launch entry.at
  pub runs : made p.launch s.buffers turns ≡ Some p.outcome
  pub names : entry ≡ entry_of p.launch entry.at s.next p.outcome
  pub becomes : p.after ≡ state_after shape s p.launch entry.at p.outcome
