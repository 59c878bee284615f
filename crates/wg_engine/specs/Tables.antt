-- What the calls of a core answer, and what they leave. This project's own.
use Rattle.std.specs.Prelude.{◌≡◌, ◌≢◌, ◌⊎◌, ⊤, ℕ, ◌<◌, ◌+◌, List, [], length, Option, Some, None, IfSome}
use Rattle.wg_machine.specs.LaunchMeaning.{Meaning}
use Rattle.wg_standing.specs.declared.pending.Pending.{Pending}
use Rattle.wg_standing.specs.Choice.{IsChoice, NoChoice}
use Rattle.wg_standing.specs.Core.{CoreView}
use Rattle.wg_standing.specs.Idle.{IsIdle, IsOut, IsSpentUp}
use Rattle.wg_standing.specs.Moves.{with_kept, with_out, TakesStep}
use Rattle.wg_standing.specs.Outs.{launch_now}
use Rattle.wg_standing.specs.Standing.{IsNotOut}
use Rattle.wg_guess.specs.declared.guesses.Guess.{Guess}
use Rattle.wg_engine.specs.declared.engine.Opened.{Opened}
use Rattle.wg_engine.specs.declared.engine.Opened.TheVariants as opened
use Rattle.wg_engine.specs.declared.engine.Settled.{Settled}
use Rattle.wg_engine.specs.declared.engine.Settled.TheVariants as settled
use Rattle.wg_engine.specs.Calls.{told}
use Rattle.wg_engine.specs.Serving.{OnlyWithWrites, Serves}

abbrev pub IsLaunchesSpent : CoreView → Type 0
IsLaunchesSpent core = (core.stopped ≡ None) × (IsIdle core → ⊥) × (core.outs ≡ []) × IsSpentUp core

-- what `open` answers; `Memory` may come in place of `Launch`
abbrev pub Opens : CoreView → CoreView → Opened → Type 0
Opens old new opened.Stopped = (old.stopped ≢ None) × (new ≡ old)
Opens old new opened.Idle = (old.stopped ≡ None) × IsIdle old × (new ≡ old)
Opens old new opened.LaunchesSpent = IsLaunchesSpent old × (new ≡ old)
Opens old new opened.NotNow = (old.stopped ≡ None) × (0 < length old.outs) × (IsSpentUp old ⊎ NoChoice old) × (new ≡ old)
Opens old new (opened.Launch out) =
    (old.stopped ≡ None) × (length old.journal + length old.outs < old.limits.launches)
    × ((o : Pending) × IsChoice old o × (out ≡ told old o) × (new ≡ with_out old o))
Opens old new opened.Memory =
    (old.stopped ≡ None) × (length old.journal + length old.outs < old.limits.launches)
    × ((o : Pending) × IsChoice old o) × (new ≡ old)

-- the launch of the ticket is spent by what it means on the buffers now
pub record SpendsTurns (made : Meaning) (core : CoreView) (ticket : ℕ) : Type 0 where
  pub before : List Pending
  pub pending : Pending
  pub later : List Pending
  pub out : IsOut core ticket before pending later
  pub spent : made (launch_now core.shape core.bag pending) core.buffers core.limits.turns ≡ None

-- the launch of the ticket is out, and no guess without writes serves it
pub record WantsMemory (core : CoreView) (ticket : ℕ) (guess : Option Guess) : Type 0 where
  pub before : List Pending
  pub pending : Pending
  pub later : List Pending
  pub out : IsOut core ticket before pending later
  pub writes : OnlyWithWrites core pending guess

-- the launch of the ticket made its step by a guess that serves it
pub record KeepsGuess (made : Meaning) (old new : CoreView) (ticket : ℕ) (guess : Option Guess) : Type 0 where
  pub after : CoreView
  pub step : TakesStep made old after ticket
  pub serves : Serves old step.pending guess
  pub counted : new ≡ with_kept after

-- the launch of the ticket made its step, and no guess serves it
pub record RunsAnew (made : Meaning) (old new : CoreView) (ticket : ℕ) (guess : Option Guess) : Type 0 where
  pub step : TakesStep made old new ticket
  pub unserved : Serves old step.pending guess → ⊥

-- What `settle` answers. `Memory` may come in place of `Redone` and `TurnsSpent`, and of `Kept` where there are writes.
abbrev pub Settles : Meaning → CoreView → CoreView → ℕ → Option Guess → Settled → Type 0
Settles made old new ticket guess settled.Kept = (old.stopped ≡ None) × KeepsGuess made old new ticket guess
Settles made old new ticket guess settled.Redone = (old.stopped ≡ None) × RunsAnew made old new ticket guess
Settles made old new ticket guess (settled.TurnsSpent launch) =
    (old.stopped ≡ None)
    × ((s : SpendsTurns made old ticket) × (launch ≡ launch_now old.shape old.bag s.pending))
    × (new ≡ record old { stopped = Some ticket })
Settles made old new ticket guess settled.NotOut = (old.stopped ≡ None) × IsNotOut ticket old.outs × (new ≡ old)
Settles made old new ticket guess settled.Stopped = (old.stopped ≢ None) × (new ≡ old)
Settles made old new ticket guess settled.Memory = (old.stopped ≡ None) × WantsMemory old ticket guess × (new ≡ old)

-- where a guess serves it is kept, or memory is wanting for its writes
abbrev pub KeepsOrWants : Option Guess → Settled → Type 0
KeepsOrWants guess settled.Kept = ⊤
KeepsOrWants guess settled.Memory = IfSome guess (λ (g : Guess). g.writes ≢ [])
KeepsOrWants guess settled.Redone = ⊥
KeepsOrWants guess (settled.TurnsSpent launch) = ⊥
KeepsOrWants guess settled.NotOut = ⊥
KeepsOrWants guess settled.Stopped = ⊥
