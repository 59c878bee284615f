-- What a launch does, and the laws that every implementation of bodies proves of it.
use Rattle.std.specs.Prelude.{◌≡◌, ⊤, ℕ, Bool, true, false, ◌^◌, ◌≤◌, ◌<◌, ◌==◌, None, Option, Some, List, [], ◌∷◌, length, Contains, slice_get, slice_index, count_by}
use Rattle.wg_machine.specs.declared.shape.Output.{Output}
use Rattle.wg_words.specs.Each.{Each}
use Rattle.wg_words.specs.declared.limits.TheConstants.{GRID_BOUND}
use Rattle.wg_machine.specs.declared.shape.Shape.{Shape}
use Rattle.wg_machine.specs.declared.shape.Unit.{Unit}
use Rattle.wg_machine.specs.declared.shape.Kind.{Kind}
use Rattle.wg_machine.specs.declared.shape.Kind.TheVariants.{Thread, Coalescing, Grid, GridField}
use Rattle.wg_machine.specs.declared.launch.Launch.{Launch}
use Rattle.wg_machine.specs.declared.launch.Record.{Record}
use Rattle.wg_machine.specs.declared.launch.Sent.{Sent}
use Rattle.wg_machine.specs.declared.launch.Made.{Made}
use Rattle.wg_machine.specs.Agreement.{Trace, AgreesWith, now_of}
use Rattle.wg_machine.specs.Buffers.{Buffers, lengths_of}
use Rattle.wg_machine.specs.Grids.{groups_in}
use Rattle.wg_machine.specs.Units.{kind_at, words_at, shared_at, most_inputs}

-- what a launch that is not spent did: what it sent, its denied requests, its turns, the buffers after it, and the new
-- words of a record that its groups share
pub record Outcome : Type 0 where
  pub sent : List Sent
  pub denied : ℕ
  pub turns : ℕ
  pub buffers : Buffers
  pub shared : Option (List ℕ)

-- What a launch does to buffers within a number of turns; none where it is spent: where it would make one turn more.
abbrev pub Meaning : Type 0
Meaning = Launch → Buffers → ℕ → Option Outcome

abbrev pub outcome_of : Made → Buffers → Outcome
outcome_of made buffers =
    record { sent = made.sent; denied = made.denied; turns = made.turns; buffers = buffers; shared = made.shared }

-- what a launch made over a memory is what it means, for each start that agrees with the memory afterwards
abbrev pub Makes : Meaning → Launch → ℕ → Trace → Trace → Made → Type 0
Makes made launch turns old new m =
    (start : Buffers) → AgreesWith new start → made launch (now_of old start) turns ≡ Some (outcome_of m (now_of new start))

abbrev pub Spends : Meaning → Launch → ℕ → Trace → Trace → Type 0
Spends made launch turns old new = (start : Buffers) → AgreesWith new start → made launch (now_of old start) turns ≡ None

-- thread and coalescing launches have one group
abbrev pub HasGridOf : Kind → List ℕ → Type 0
HasGridOf Thread grid = grid ≡ 1 ∷ 1 ∷ 1 ∷ []
HasGridOf (Coalescing most) grid = grid ≡ 1 ∷ 1 ∷ 1 ∷ []
HasGridOf (Grid x y z) grid = ⊤
HasGridOf (GridField first parts x y z) grid = ⊤

-- A launch fits a shape: it is one of a unit, as far as its numbers tell.
pub record FitsShape (shape : Shape) (launch : Launch) : Type 0 where
  pub unit : launch.unit < length shape.units
  pub some : 1 ≤ length launch.records
  pub few : length launch.records ≤ most_inputs (kind_at shape launch.unit)
  pub words : Each (λ (r : Record). length r.words ≡ words_at shape launch.unit) launch.records
  pub grid_some : 1 ≤ groups_in launch.grid
  pub grid_few : groups_in launch.grid < GRID_BOUND
  pub group : launch.group < groups_in launch.grid
  pub grid : HasGridOf (kind_at shape launch.unit) launch.grid

-- a record goes to a unit of the shape, with the unit's words
pub record Arrives (shape : Shape) (s : Sent) : Type 0 where
  pub unit : s.unit < length shape.units
  pub words : length s.words ≡ words_at shape s.unit

-- A record is sent through a budget of a unit: some element of an output on the budget has the record's unit as its
-- target.
pub record GoesThrough (unit : Unit) (budget : ℕ) (s : Sent) : Type 0 where
  pub output : Output
  pub has_output : Contains unit.outputs output
  pub on_budget : output.budget ≡ budget
  pub targets : Contains output.elements (Some s.unit)

-- each record through the budget beside it
abbrev pub AllGoThrough : Unit → List ℕ → List Sent → Type 0
AllGoThrough unit [] [] = ⊤
AllGoThrough unit (b ∷ budgets) (s ∷ sent) = GoesThrough unit b s × AllGoThrough unit budgets sent
AllGoThrough unit [] (s ∷ sent) = ⊥
AllGoThrough unit (b ∷ budgets) [] = ⊥

-- Records are sent within the budgets of a unit: each goes through one of them, and through each go at most as many
-- as its `MaxRecords` (Work Graphs, "MaxRecords").
pub record KeepsBudgets (unit : Unit) (sent : List Sent) : Type 0 where
  pub through : List ℕ
  pub each_goes : AllGoThrough unit through sent
  pub few : (b : ℕ) → count_by (λ c. c == b) through ≤ slice_index unit.budgets b

-- new words where the unit is shared, as many as the unit's, and none at another unit
abbrev pub HasNewWords : Bool → ℕ → Option (List ℕ) → Type 0
HasNewWords true words (Some new) = length new ≡ words
HasNewWords true words None = ⊥
HasNewWords false words (Some new) = ⊥
HasNewWords false words None = ⊤

-- What every launch that is not spent keeps to.
pub record KeepsLaws (shape : Shape) (launch : Launch) (buffers : Buffers) (turns : ℕ) (o : Outcome) : Type 0 where
  pub turns_few : o.turns ≤ turns
  pub denied_few : o.denied < 2 ^ 32
  pub lengths : lengths_of o.buffers ≡ lengths_of buffers
  pub arrive : Each (Arrives shape) o.sent
  pub budgets : (u : Unit) → slice_get shape.units launch.unit ≡ Some u → KeepsBudgets u o.sent
  pub shared : HasNewWords (shared_at shape launch.unit) (words_at shape launch.unit) o.shared
