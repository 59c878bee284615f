-- How a run in rounds ends. This project's own.
use Rattle.std.specs.Prelude.{◌≡◌, ◌⊎◌, false, ℕ, ◌+◌, ◌*◌, ◌<◌, ◌≤◌, List, [], ◌∷◌, ◌++◌, length, Some, None}
use Rattle.wg_machine.specs.declared.shape.Shape.{Shape}
use Rattle.wg_machine.specs.LaunchMeaning.{Meaning}
use Rattle.wg_machine.specs.Units.{shared_at}
use Rattle.wg_standing.specs.declared.pending.Pending.{Pending}
use Rattle.wg_standing.specs.Core.{CoreView}
use Rattle.wg_standing.specs.Idle.{IsIdle}
use Rattle.wg_standing.specs.Outs.{launch_now}
use Rattle.wg_engine.specs.Tables.{IsLaunchesSpent}
use Rattle.wg_rounds.specs.declared.ahead.Why.{Why}
use Rattle.wg_rounds.specs.declared.ahead.Why.TheVariants as why
use Rattle.wg_rounds.specs.Rounds.{AllSettle, AreNext, IsCutWhileOpening, IsCutWhileSettling, IsRound, RunsOut, StopsAt, bare, with_outs}

-- Why the run ended is what the core says. After want of memory it stands in a round, while that is opened or settles.
abbrev pub EndsBy : Meaning → ℕ → CoreView → CoreView → Why → Type 0
EndsBy made workers old new why.Idle = RunsOut made workers (bare old) (bare new) × IsIdle new × (new.stopped ≡ None)
EndsBy made workers old new why.LaunchesSpent = RunsOut made workers (bare old) (bare new) × IsLaunchesSpent new
EndsBy made workers old new why.TurnsSpent =
    (o : Pending) × StopsAt made workers (bare old) (bare new) o × (new.stopped ≡ Some o.ticket)
EndsBy made workers old new why.Memory =
    (new.stopped ≡ None) × (IsCutWhileOpening made workers (bare old) (bare new) ⊎ IsCutWhileSettling made workers (bare old) (bare new))

-- of each round at least one guess is kept
abbrev pub KeepsOneEachRound : ℕ → CoreView → CoreView → Type 0
KeepsOneEachRound workers old new = length new.journal + workers * old.kept ≤ length old.journal + workers * new.kept

-- a guess is kept of each launch that ran
abbrev pub KeepsEachGuess : CoreView → CoreView → Type 0
KeepsEachGuess old new = length new.journal + old.kept ≡ length old.journal + new.kept

-- no record is shared between the groups that take it
abbrev pub NoneIsShared : Shape → Type 0
NoneIsShared shape = (u : ℕ) → shared_at shape u ≡ false

-- one round ran whole
pub record RunsRound (made : Meaning) (workers : ℕ) (old new : CoreView) : Type 0 where
  pub os : List Pending
  pub round : IsRound workers (bare old) os
  pub settles : AllSettle made (with_outs (bare old) os) os (bare new)
  pub outs : new.outs ≡ []
  pub free : new.stopped ≡ None
  pub grows : length old.journal < length new.journal
  pub limits : new.limits ≡ old.limits
  pub shape : new.shape ≡ old.shape
  pub few : length old.journal < old.limits.launches

-- the round stopped before a launch that is spent
pub record RoundStops (made : Meaning) (workers : ℕ) (old new : CoreView) : Type 0 where
  pub front : List Pending
  pub pending : Pending
  pub later : List Pending
  pub round : IsRound workers (bare old) (front ++ pending ∷ later)
  pub settles : AllSettle made (with_outs (bare old) (front ++ pending ∷ later)) front (bare new)
  pub out : new.outs ≡ pending ∷ later
  pub spent : made (launch_now new.shape new.bag pending) new.buffers new.limits.turns ≡ None
  pub stopped : new.stopped ≡ Some pending.ticket

-- the round was cut off while it was opened
pub record IsCutOpening (workers : ℕ) (old new : CoreView) : Type 0 where
  pub os : List Pending
  pub next : AreNext (bare old) os
  pub few : length os ≤ workers
  pub opens : bare new ≡ with_outs (bare old) os

-- the round was cut off while it settled
pub record IsCutSettling (made : Meaning) (workers : ℕ) (old new : CoreView) : Type 0 where
  pub front : List Pending
  pub later : List Pending
  pub round : IsRound workers (bare old) (front ++ later)
  pub settles : AllSettle made (with_outs (bare old) (front ++ later)) front (bare new)

-- why a round did not run whole
abbrev pub RoundEnds : Meaning → ℕ → CoreView → CoreView → Why → Type 0
RoundEnds made workers old new why.Idle = IsIdle new × (new.stopped ≡ None) × (new ≡ old)
RoundEnds made workers old new why.LaunchesSpent = IsLaunchesSpent new × (new ≡ old)
RoundEnds made workers old new why.TurnsSpent = RoundStops made workers old new
RoundEnds made workers old new why.Memory = (new.stopped ≡ None) × (IsCutOpening workers old new ⊎ IsCutSettling made workers old new)
