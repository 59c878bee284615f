-- The launch to open next: of the deepest waiting unit that has room, then of the next entry. This project's own.
use Rattle.std.specs.Prelude.{◌≡◌, ◌⊎◌, ℕ, ◌<◌, ◌≤◌, ◌==◌, List, [], ◌∷◌, length, map, take, take_while, slice_get, slice_index, unwrap_or}
use Rattle.wg_machine.specs.declared.shape.Shape.{Shape}
use Rattle.wg_machine.specs.declared.launch.Live.{Live}
use Rattle.wg_machine.specs.Choice.{HasRoom}
use Rattle.wg_machine.specs.Step.{numbers_of, record_of}
use Rattle.wg_machine.specs.Units.{kind_at, depth_at, most_inputs}
use Rattle.wg_standing.specs.declared.pending.Pending.{Pending}
use Rattle.wg_standing.specs.Core.{CoreView}
use Rattle.wg_standing.specs.Outs.{IsAllowed, unopened}
use Rattle.wg_standing.specs.Standing.{reserved}

-- a unit has room beside the slots in use and those reserved for the launches out
abbrev pub UnitHasRoom : CoreView → ℕ → Type 0
UnitHasRoom core u = HasRoom core.shape core.width (slice_index core.used) (reserved core.shape core.outs) u

abbrev pub waiting_at : CoreView → ℕ → List Live
waiting_at core u = unwrap_or (slice_get core.waits u) []

-- the deepest unit that waits and has room, then the least
pub record IsPick (core : CoreView) (u : ℕ) : Type 0 where
  pub within : u < length core.waits
  pub waits : 0 < length (waiting_at core u)
  pub room : UnitHasRoom core u
  pub best : (v : ℕ) → 0 < length (waiting_at core v) → UnitHasRoom core v → (depth_at core.shape v < depth_at core.shape u) ⊎ ((depth_at core.shape v ≡ depth_at core.shape u) × (u ≤ v))

-- no unit that waits has room
abbrev pub NoPick : CoreView → Type 0
NoPick core = (v : ℕ) → 0 < length (waiting_at core v) → UnitHasRoom core v → ⊥

-- the records that a launch of the unit takes, of a list
abbrev pub front_for : Shape → ℕ → List Live → List Live
front_for shape u xs = take (most_inputs (kind_at shape u)) xs

abbrev pub first_group : List Live → List ℕ
first_group [] = []
first_group (x ∷ xs) = unwrap_or (slice_get x.groups 0) []

abbrev pub first_unit : List Live → ℕ
first_unit [] = 0
first_unit (x ∷ xs) = x.unit

-- the launch that takes from the front of a list
abbrev pub pending_from : ℕ → Shape → ℕ → List Live → Pending
pending_from ticket shape u xs =
    record {
      ticket = ticket;
      unit = u;
      at = first_group xs;
      inputs = numbers_of (map record_of (front_for shape u xs));
    }

-- the next entries as long as they are of the first one's unit
abbrev pub next_entries : CoreView → List Live
next_entries core = take_while (λ (x : Live). x.unit == first_unit core.entries) core.entries

-- the next entry can be opened
pub record CanEnter (core : CoreView) : Type 0 where
  pub some : 0 < length core.entries
  pub room : UnitHasRoom core (first_unit core.entries)

-- The launch to open next takes from the slots of the pick alone, or, where there is none, from the entry list alone.
pub data IsChoice (core : CoreView) : Pending → Type 0 where
  from_slots : (u : ℕ) → IsPick core u → IsChoice core (pending_from core.tickets core.shape u (waiting_at core u))
  from_entries : NoPick core → CanEnter core → IsChoice core (pending_from core.tickets core.shape (first_unit core.entries) (next_entries core))

-- neither a unit that waits has room, nor the unit of a next entry
pub record NoChoice (core : CoreView) : Type 0 where
  pub unpicked : NoPick core
  pub unentered : CanEnter core → ⊥

-- what the opening of a launch asks for: what is unopened allows it, its unit has room, and its ticket is the next
pub record CanOpen (core : CoreView) (o : Pending) : Type 0 where
  pub allowed : IsAllowed core.shape (unopened core.outs core.bag) o
  pub room : UnitHasRoom core o.unit
  pub ticket : o.ticket ≡ core.tickets
