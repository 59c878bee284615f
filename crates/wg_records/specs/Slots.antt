-- What is kept of a live record, and of its groups that have run. This project's own.
use Rattle.std.specs.Prelude.{◌≡◌, ℕ, ◌+◌, ◌==◌, ◌&&◌, ◌||◌, not, nat_lt, Bool, List, [], slice_index, Option, is_some, unwrap_or}
use Rattle.std.specs.Map.{lookup}
use Rattle.wg_machine.specs.declared.launch.Sent.{Sent}
use Rattle.wg_machine.specs.declared.shape.Shape.{Shape}
use Rattle.wg_machine.specs.Grids.{grid_of, groups_in}
use Rattle.wg_machine.specs.Units.{kind_at}
use Rattle.wg_records.specs.declared.slot.GroupPlace.{GroupPlace}
use Rattle.wg_records.specs.declared.slot.Slot.{Slot}

-- the group of these coordinates
abbrev pub group_place : List ℕ → GroupPlace
group_place at = record { x = slice_index at 0; y = slice_index at 1; z = slice_index at 2 }

abbrev pub is_place : GroupPlace → GroupPlace → Bool
is_place p q = (p.x == q.x) && ((p.y == q.y) && (p.z == q.z))

-- the group is among those that have run
abbrev pub has_ran : List (GroupPlace × Unit {0}) → GroupPlace → Bool
has_ran ran p = is_some (lookup (is_place p) ran)

-- the coordinates are those of a group of the grid
abbrev pub is_inside : List ℕ → List ℕ → Bool
is_inside grid at =
    nat_lt (slice_index at 0) (slice_index grid 0) && nat_lt (slice_index at 1) (slice_index grid 1)
    && nat_lt (slice_index at 2) (slice_index grid 2)

-- the group is one of the grid, and has not run
abbrev pub has_left : Slot → List ℕ → Bool
has_left s at = is_inside s.grid at && not (has_ran s.ran.entries (group_place at))

abbrev pub is_ready_slot : ℕ → List ℕ → Slot → Bool
is_ready_slot unit at s = (s.unit == unit) && has_left s at

-- the slot of a record that comes to be: all groups of its grid are left
pub record IsBorn (shape : Shape) (sent : Sent) (s : Slot) : Type 0 where
  pub unit : s.unit ≡ sent.unit
  pub words : s.words ≡ sent.words
  pub grid : s.grid ≡ grid_of (kind_at shape sent.unit) sent.words
  pub left : s.left ≡ groups_in s.grid
  pub ran : s.ran.entries ≡ []

-- one more group has run, and left new words if there are some
pub record RunsGroup (at : List ℕ) (new : Option (List ℕ)) (old s : Slot) : Type 0 where
  pub unit : s.unit ≡ old.unit
  pub words : s.words ≡ unwrap_or new old.words
  pub grid : s.grid ≡ old.grid
  pub left : s.left + 1 ≡ old.left
  pub ran : (p : GroupPlace) → has_ran s.ran.entries p ≡ (is_place (group_place at) p || has_ran old.ran.entries p)
