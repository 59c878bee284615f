-- Runs in rounds of several workers: which launches are opened together, in which order they settle, and where the run
-- ends. This project's own.
use Rattle.std.specs.Prelude.{◌≡◌, ⊤, ℕ, ◌+◌, ◌<◌, ◌≤◌, List, [], ◌∷◌, ◌++◌, length, Some, None}
use Rattle.wg_machine.specs.LaunchMeaning.{Meaning, Outcome}
use Rattle.wg_standing.specs.declared.pending.Pending.{Pending}
use Rattle.wg_standing.specs.Choice.{IsChoice}
use Rattle.wg_standing.specs.Core.{CoreView}
use Rattle.wg_standing.specs.Moves.{settled_of, with_out}
use Rattle.wg_standing.specs.Outs.{launch_now}

-- a core but for its count of guesses kept and its stop, which no step looks at
abbrev pub bare : CoreView → CoreView
bare core = record core { kept = 0; stopped = None }

-- the launch to open next: the core's choice, where the limit of launches is not reached
pub record IsNext (core : CoreView) (o : Pending) : Type 0 where
  pub few : length core.journal + length core.outs < core.limits.launches
  pub choice : IsChoice core o

abbrev pub NoneIsNext : CoreView → Type 0
NoneIsNext core = (o : Pending) → IsNext core o → ⊥

-- each of the launches is next with the ones before it out
abbrev pub AreNext : CoreView → List Pending → Type 0
AreNext core [] = ⊤
AreNext core (o ∷ os) = IsNext core o × AreNext (with_out core o) os

-- the core with the launches out
abbrev pub with_outs : CoreView → List Pending → CoreView
with_outs core [] = core
with_outs core (o ∷ os) = with_outs (with_out core o) os

-- A round: one launch or more that are next, as many as there are workers, or fewer where none is next then.
pub record IsRound (workers : ℕ) (core : CoreView) (os : List Pending) : Type 0 where
  pub next : AreNext core os
  pub some : 0 < length os
  pub few : length os ≤ workers
  pub whole : length os < workers → NoneIsNext (with_outs core os)

-- the launches that are out first settle in their order, each as the launch of now
abbrev pub AllSettle : Meaning → CoreView → List Pending → CoreView → Type 0
AllSettle made core [] end = end ≡ core
AllSettle made core (o ∷ os) end =
    (later : List Pending) × (outcome : Outcome) × (core.outs ≡ o ∷ later)
    × (made (launch_now core.shape core.bag o) core.buffers core.limits.turns ≡ Some outcome)
    × AllSettle made (settled_of core [] o later outcome) os end

-- rounds one after another, each settled whole
abbrev pub AllRounds : Meaning → ℕ → CoreView → List (List Pending) → CoreView → Type 0
AllRounds made workers core [] end = end ≡ core
AllRounds made workers core (os ∷ rounds) end =
    (after : CoreView) × IsRound workers core os × AllSettle made (with_outs core os) os after × AllRounds made workers after rounds end

-- the run comes to where none is next
pub record RunsOut (made : Meaning) (workers : ℕ) (old new : CoreView) : Type 0 where
  pub rounds : List (List Pending)
  pub runs : AllRounds made workers old rounds new
  pub none : NoneIsNext new

-- the run stops before the first launch that is spent when it is to settle
pub record StopsAt (made : Meaning) (workers : ℕ) (old new : CoreView) (o : Pending) : Type 0 where
  pub rounds : List (List Pending)
  pub before : CoreView
  pub runs : AllRounds made workers old rounds before
  pub front : List Pending
  pub later : List Pending
  pub round : IsRound workers before (front ++ o ∷ later)
  pub settles : AllSettle made (with_outs before (front ++ o ∷ later)) front new
  pub out : new.outs ≡ o ∷ later
  pub spent : made (launch_now new.shape new.bag o) new.buffers new.limits.turns ≡ None

-- the run is cut off in its last round, while that is opened
pub record IsCutWhileOpening (made : Meaning) (workers : ℕ) (old new : CoreView) : Type 0 where
  pub rounds : List (List Pending)
  pub before : CoreView
  pub runs : AllRounds made workers old rounds before
  pub os : List Pending
  pub next : AreNext before os
  pub few : length os ≤ workers
  pub opens : new ≡ with_outs before os

-- the run is cut off in its last round, while that settles
pub record IsCutWhileSettling (made : Meaning) (workers : ℕ) (old new : CoreView) : Type 0 where
  pub rounds : List (List Pending)
  pub before : CoreView
  pub runs : AllRounds made workers old rounds before
  pub front : List Pending
  pub later : List Pending
  pub round : IsRound workers before (front ++ later)
  pub settles : AllSettle made (with_outs before (front ++ later)) front new
