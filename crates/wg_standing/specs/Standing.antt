-- What a core stands for: a run of the machine from a script. This project's own.
use Rattle.std.specs.Prelude.{◌≡◌, ◌≢◌, ⊤, ℕ, zero, suc, ◌+◌, ◌*◌, ◌<◌, ◌≤◌, ◌==◌, ◌&&◌, Bool, true, false, nat_le, Contains, if◌then◌else◌, List, [], ◌∷◌, length, filter, map, slice_index, None, IfSome, sum_by, count_by}
use Rattle.std.specs.List.{flat_map}
use Rattle.wg_words.specs.Each.{Each}
use Rattle.wg_machine.specs.declared.shape.Kind.{Kind}
use Rattle.wg_machine.specs.declared.shape.Kind.TheVariants.{Thread, Coalescing, Grid, GridField}
use Rattle.wg_machine.specs.declared.shape.Shape.{Shape}
use Rattle.wg_machine.specs.declared.launch.Live.{Live}
use Rattle.wg_machine.specs.declared.launch.Sent.{Sent}
use Rattle.wg_machine.specs.Buffers.{Buffers}
use Rattle.wg_machine.specs.Bytes.{KeepsSlots, peak as peak_of}
use Rattle.wg_machine.specs.Grids.{grid_of}
use Rattle.wg_machine.specs.LaunchMeaning.{Meaning}
use Rattle.wg_machine.specs.Need.{need, most}
use Rattle.wg_machine.specs.Run.{IsRun, EachState, denied_of, times}
use Rattle.wg_machine.specs.State.{State, born, kept, start as start_of}
use Rattle.wg_machine.specs.Step.{Passed, has_number}
use Rattle.wg_machine.specs.Units.{kind_at, words_at}
use Rattle.wg_standing.specs.declared.pending.Pending.{Pending}
use Rattle.wg_standing.specs.Core.{CoreView}
use Rattle.wg_standing.specs.Left.{IsLeftOf}
use Rattle.wg_standing.specs.Outs.{AllAllowed, AllApart, launch_now, unopened}

-- a record in a slot of the unit: no entry record
abbrev pub in_slot : ℕ → ℕ → Live → Bool
in_slot handed v x = (x.unit == v) && nat_le handed x.number

abbrev pub is_entry_record : ℕ → Live → Bool
is_entry_record handed x = nat_le (x.number + 1) handed

-- by unit, from v on, the records in slots
abbrev pub by_unit : ℕ → ℕ → ℕ → List Live → List (List Live)
by_unit handed v zero bag = []
by_unit handed v (suc n) bag = filter (in_slot handed v) bag ∷ by_unit handed (v + 1) n bag

-- everything of a record is opened: it is not among those of which something is not
abbrev pub is_opened : List Live → Live → Bool
is_opened ready x = if has_number (map (λ (y : Live). y.number) ready) x.number then false else true

-- the records of a bag of which everything is opened
abbrev pub opened_of : List Live → List Live → List Live
opened_of ready bag = filter (is_opened ready) bag

-- by unit, from v on, how many records are in slots
abbrev pub counts : ℕ → ℕ → ℕ → List Live → List ℕ
counts handed v zero bag = []
counts handed v (suc n) bag = count_by (in_slot handed v) bag ∷ counts handed (v + 1) n bag

-- what the launches out may send to a unit
abbrev pub reserved : Shape → List Pending → ℕ → ℕ
reserved shape outs v = sum_by (λ (o : Pending). need shape o.unit v) outs

-- no launch out has the ticket
abbrev pub IsNotOut : ℕ → List Pending → Type 0
IsNotOut ticket outs = Each (λ (o : Pending). o.ticket ≢ ticket) outs

abbrev pub TicketsDiffer : List Pending → Type 0
TicketsDiffer [] = ⊤
TicketsDiffer (o ∷ outs) = IsNotOut o.ticket outs × TicketsDiffer outs

abbrev pub TicketsBelow : ℕ → List Pending → Type 0
TicketsBelow n outs = Each (λ (o : Pending). o.ticket < n) outs

-- numbers rise, from n on, and stay below the end
abbrev pub Rises : ℕ → List Live → ℕ → Type 0
Rises n [] end = n ≤ end
Rises n (x ∷ xs) end = (n ≤ x.number) × Rises (x.number + 1) xs end

-- no group stands twice in a record
abbrev pub EachDistinct : List Live → Type 0
EachDistinct bag = Each (λ (x : Live). (at : List ℕ) → times at x.groups ≤ 1) bag

-- the one group of a record of a thread or coalescing unit
abbrev pub origin : List ℕ
origin = 0 ∷ 0 ∷ 0 ∷ []

abbrev pub has_one_group : Kind → Bool
has_one_group Thread = true
has_one_group (Coalescing most) = true
has_one_group (Grid x y z) = false
has_one_group (GridField first parts x y z) = false

-- a group of a grid, by its coordinates
pub record IsWithin (grid at : List ℕ) : Type 0 where
  pub x : slice_index at 0 < slice_index grid 0
  pub y : slice_index at 1 < slice_index grid 1
  pub z : slice_index at 2 < slice_index grid 2

-- the grid of some record of the unit
abbrev pub IsGridAt : Shape → ℕ → List ℕ → Type 0
IsGridAt shape unit grid = (words : List ℕ) × (grid ≡ grid_of (kind_at shape unit) words)

-- a live record has a group to run, each within its grid, and all of one where it has but one
pub record IsFull (shape : Shape) (x : Live) : Type 0 where
  pub some : 0 < length x.groups
  pub whole : has_one_group (kind_at shape x.unit) ≡ true → x.groups ≡ origin ∷ []
  pub within : Each (IsWithin x.grid) x.groups
  pub grid : IsGridAt shape x.unit x.grid

abbrev pub EachFull : Shape → List Live → Type 0
EachFull shape bag = Each (IsFull shape) bag

-- each record is of a unit, of so many
abbrev pub EachKnown : ℕ → List Live → Type 0
EachKnown n bag = Each (λ (x : Live). x.unit < n) bag

-- each record has its unit's words
abbrev pub EachHasWords : Shape → List Live → Type 0
EachHasWords shape bag = Each (λ (x : Live). length x.words ≡ words_at shape x.unit) bag

-- Where the records of a bag are.
pub record IsPlaced (core : CoreView) (bag : List Live) : Type 0 where
  -- what waits in slots and what is left of the entries is the bag but for what the launches out took
  pub waits : core.waits ≡ by_unit core.handed 0 (length core.shape.units) (unopened core.outs bag)
  pub entries : core.entries ≡ filter (is_entry_record core.handed) (unopened core.outs bag)
  -- what is held in slots and what was taken from the entries are the other records of the bag
  pub held : core.held ≡ by_unit core.handed 0 (length core.shape.units) (opened_of (unopened core.outs bag) bag)
  pub taken : core.taken ≡ filter (is_entry_record core.handed) (opened_of (unopened core.outs bag) bag)
  -- the bag allows the launch of now of each launch out, and no two take one group of one record
  pub allowed : AllAllowed core.shape bag core.outs
  pub apart : AllApart core.outs
  -- tickets differ, are below the next one, and are as many as the entries of the journal and the launches out
  pub tickets_differ : TicketsDiffer core.outs
  pub tickets_below : TicketsBelow core.tickets core.outs
  pub tickets : core.tickets ≡ length core.journal + length core.outs
  pub launches : length core.journal + length core.outs ≤ core.limits.launches
  -- the journal has a spare place for each launch out
  pub spare : core.spare ≡ length core.outs
  -- numbers rise, no group stands twice, and each record is whole
  pub rises : Rises 0 bag core.next
  pub handed : core.handed ≤ core.next
  pub distinct : EachDistinct bag
  pub full : EachFull core.shape bag
  pub known : EachKnown (length core.shape.units) bag
  pub words : EachHasWords core.shape bag
  -- the slots in use are the records in slots; what the launches out may send has room
  pub used : core.used ≡ counts core.handed 0 (length core.shape.units) bag
  pub room : (v : ℕ) → slice_index core.used v + reserved core.shape core.outs v ≤ core.width * most core.shape v

-- Each ticket below the next one is that of a launch out or was settled: as many were as the journal has entries.
pub record IsTicketed (core : CoreView) : Type 0 where
  pub settled : List ℕ
  pub one_each : length settled ≡ length core.journal
  pub below : Each (λ t. t < core.tickets) settled
  pub none_out : Each (λ t. IsNotOut t core.outs) settled
  pub all : (t : ℕ) → t < core.tickets → IsNotOut t core.outs → has_number settled t ≡ true

-- records in rising order of number below the next one, each of a unit, with its words and groups
pub record IsWhole (core : CoreView) (bag : List Live) : Type 0 where
  pub rises : Rises 0 bag core.next
  pub full : EachFull core.shape bag
  pub known : EachKnown (length core.shape.units) bag
  pub words : EachHasWords core.shape bag

-- the launch with this ticket is out, and its launch of now is spent on these buffers
pub record IsSpent (made : Meaning) (core : CoreView) (ticket : ℕ) : Type 0 where
  pub pending : Pending
  pub is_out : Contains core.outs pending
  pub named : pending.ticket ≡ ticket
  pub spent : made (launch_now core.shape core.bag pending) core.buffers core.limits.turns ≡ None

-- The core stands for bodies, by what they mean, and for a script.
pub record StandsFor (made : Meaning) (script : List Sent) (start_buffers : Buffers) (core : CoreView) : Type 0 where
  pub state : State
  pub trail : List Passed
  -- the journal is a run from the script
  pub run : IsRun core.shape made core.limits.turns (start_of core.shape script start_buffers) core.journal trail state
  pub handed : core.handed ≡ length script
  -- the records are those of the bag after it, each in one place, with their words
  pub bag : core.bag ≡ state.bag
  pub placed : IsPlaced core core.bag
  -- what is left of the entries is an end of those of the script that have a group, the first perhaps opened in part
  pub left : IsLeftOf (flat_map kept (born core.shape 0 script)) core.entries
  -- each ticket that was given and is not out was settled
  pub ticketed : IsTicketed core
  pub kept : core.kept ≤ length core.journal
  -- the next number, the buffers, the denied requests and the peak are the run's
  pub next : core.next ≡ state.next
  pub buffers : core.buffers ≡ state.buffers
  pub denied : core.denied ≡ denied_of trail
  pub peak : core.peak ≡ peak_of core.shape core.handed (start_of core.shape script start_buffers) trail
  -- at every prefix of the run the records fit the slots of the plan
  pub slots : EachState (KeepsSlots core.shape core.width core.handed) (start_of core.shape script start_buffers) trail
  -- a spent launch is still out
  pub spent : IfSome core.stopped (IsSpent made core)
