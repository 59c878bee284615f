-- Launches out with the guesses that were made of them, and what the steps of a round do. This project's own.
use Rattle.std.specs.Prelude.{◌≡◌, ◌⊎◌, ⊤, ℕ, ◌+◌, ◌<◌, ◌≤◌, List, [], ◌∷◌, ◌++◌, length, Option, Some, None}
use Rattle.wg_words.specs.Each.{Each}
use Rattle.wg_machine.specs.LaunchMeaning.{KeepsLaws, Meaning, Outcome}
use Rattle.wg_guess.specs.Guesses.{IsFor, IsTrueOf}
use Rattle.wg_standing.specs.declared.pending.Pending.{Pending}
use Rattle.wg_standing.specs.Core.{CoreView}
use Rattle.wg_standing.specs.Idle.{IsIdle}
use Rattle.wg_standing.specs.Moves.{settled_of, with_out}
use Rattle.wg_standing.specs.Outs.{launch_now}
use Rattle.wg_engine.specs.Tables.{IsLaunchesSpent}
use Rattle.wg_rounds.specs.declared.ahead.Ahead.{Ahead}
use Rattle.wg_rounds.specs.declared.ahead.Why.{Why}
use Rattle.wg_rounds.specs.declared.ahead.Why.TheVariants as why
use Rattle.wg_rounds.specs.Rounds.{AllSettle, AreNext, IsNext, IsRound, NoneIsNext, bare, with_outs}

-- the guess was made of a launch out, over the buffers of the core
pub record IsAhead (made : Meaning) (core : CoreView) (o : Pending) (a : Ahead) : Type 0 where
  pub ticket : a.ticket ≡ o.ticket
  pub launch : a.guess.launch ≡ launch_now core.shape core.bag o
  pub fits : IsFor a.guess core.buffers
  pub truth : IsTrueOf core.shape made core.limits.turns a.guess

-- one of each launch out, in their order
abbrev pub AreAhead : Meaning → CoreView → List Pending → List Ahead → Type 0
AreAhead made core [] [] = ⊤
AreAhead made core (o ∷ os) (a ∷ rest) = IsAhead made core o a × AreAhead made core os rest
AreAhead made core [] (a ∷ rest) = ⊥
AreAhead made core (o ∷ os) [] = ⊥

-- no word of a buffer was read for the guesses
abbrev pub NothingRead : List Ahead → Type 0
NothingRead ahead = Each (λ (a : Ahead). a.guess.log ≡ []) ahead

-- the launch that is next was opened and guessed, or others are out and none is next
abbrev pub OpensAhead : Meaning → CoreView → CoreView → Option Ahead → Type 0
OpensAhead made old new None = NoneIsNext old × (0 < length old.outs) × (new ≡ old)
OpensAhead made old new (Some a) = (o : Pending) × IsNext old o × (new ≡ with_out old o) × IsAhead made new o a

-- why no launch was opened and guessed
abbrev pub FailsToOpen : CoreView → CoreView → Why → Type 0
FailsToOpen old new why.Idle = IsIdle old × (new ≡ old)
FailsToOpen old new why.LaunchesSpent = IsLaunchesSpent old × (new ≡ old)
FailsToOpen old new why.TurnsSpent = ⊥
FailsToOpen old new why.Memory = (new ≡ old) ⊎ ((o : Pending) × IsNext old o × (new ≡ with_out old o))

-- the round was opened and guessed
pub record OpensRound (made : Meaning) (workers : ℕ) (old new : CoreView) (ahead : List Ahead) : Type 0 where
  pub os : List Pending
  pub round : IsRound workers old os
  pub opens : new ≡ with_outs old os
  pub guessed : AreAhead made new os ahead

-- launches that are next were opened, no more than there are workers
pub record OpensSome (workers : ℕ) (old new : CoreView) : Type 0 where
  pub os : List Pending
  pub next : AreNext old os
  pub few : length os ≤ workers
  pub opens : new ≡ with_outs old os

-- why no round was opened
abbrev pub FailsToOpenRound : ℕ → CoreView → CoreView → Why → Type 0
FailsToOpenRound workers old new why.Idle = IsIdle old × (new ≡ old)
FailsToOpenRound workers old new why.LaunchesSpent = IsLaunchesSpent old × (new ≡ old)
FailsToOpenRound workers old new why.TurnsSpent = ⊥
FailsToOpenRound workers old new why.Memory = OpensSome workers old new

-- the launch that is out first made its step
pub record SettlesFirst (made : Meaning) (old new : CoreView) : Type 0 where
  pub pending : Pending
  pub later : List Pending
  pub outcome : Outcome
  pub was_out : old.outs ≡ pending ∷ later
  pub runs : made (launch_now old.shape old.bag pending) old.buffers old.limits.turns ≡ Some outcome
  pub after : bare new ≡ settled_of (bare old) [] pending later outcome
  pub laws : KeepsLaws old.shape (launch_now old.shape old.bag pending) old.buffers old.limits.turns outcome
  pub free : new.stopped ≡ None
  pub kept : old.kept ≤ new.kept
  pub once : new.kept ≤ old.kept + 1

-- the guess is of the launch that is out first, as it is now
pub record IsOfFirst (core : CoreView) (a : Ahead) : Type 0 where
  pub pending : Pending
  pub later : List Pending
  pub out : core.outs ≡ pending ∷ later
  pub launch : a.guess.launch ≡ launch_now core.shape core.bag pending
  pub fits : IsFor a.guess core.buffers

-- a launch is out first that has the ticket
pub record IsFirst (core : CoreView) (ticket : ℕ) : Type 0 where
  pub pending : Pending
  pub later : List Pending
  pub out : core.outs ≡ pending ∷ later
  pub named : pending.ticket ≡ ticket

-- the launch that is out first is spent, and stopped the core
pub record SpendsFirst (made : Meaning) (old new : CoreView) : Type 0 where
  pub pending : Pending
  pub later : List Pending
  pub out : old.outs ≡ pending ∷ later
  pub spent : made (launch_now old.shape old.bag pending) old.buffers old.limits.turns ≡ None
  pub stopped : new ≡ record old { stopped = Some pending.ticket }

-- why the first did not settle
abbrev pub FailsToSettle : Meaning → CoreView → CoreView → Why → Type 0
FailsToSettle made old new why.Idle = ⊥
FailsToSettle made old new why.LaunchesSpent = ⊥
FailsToSettle made old new why.TurnsSpent = SpendsFirst made old new
FailsToSettle made old new why.Memory = new ≡ old

-- some of the launches out settled in their order, and the others are still out
pub record Settling (made : Meaning) (old new : CoreView) (front later : List Pending) : Type 0 where
  pub place : old.outs ≡ front ++ later
  pub outs : new.outs ≡ later
  pub settles : AllSettle made (bare old) front (bare new)
  pub kept : 0 < length front → old.kept < new.kept
  pub no_fewer : old.kept ≤ new.kept
  pub grows : length new.journal ≡ length old.journal + length front
  pub limits : new.limits ≡ old.limits
  pub shape : new.shape ≡ old.shape

-- all launches out settled
pub record SettlesAll (made : Meaning) (old new : CoreView) : Type 0 where
  pub settles : Settling made old new old.outs []
  pub free : new.stopped ≡ None

-- some settled, and the next is spent
pub record SettlesToSpent (made : Meaning) (old new : CoreView) : Type 0 where
  pub front : List Pending
  pub pending : Pending
  pub later : List Pending
  pub settles : Settling made old new front (pending ∷ later)
  pub spent : made (launch_now new.shape new.bag pending) new.buffers new.limits.turns ≡ None
  pub stopped : new.stopped ≡ Some pending.ticket

-- some settled
pub record SettlesSome (made : Meaning) (old new : CoreView) : Type 0 where
  pub front : List Pending
  pub later : List Pending
  pub settles : Settling made old new front later
  pub free : new.stopped ≡ None

-- why not all settled
abbrev pub FailsToSettleAll : Meaning → CoreView → CoreView → Why → Type 0
FailsToSettleAll made old new why.Idle = ⊥
FailsToSettleAll made old new why.LaunchesSpent = ⊥
FailsToSettleAll made old new why.TurnsSpent = SettlesToSpent made old new
FailsToSettleAll made old new why.Memory = SettlesSome made old new
