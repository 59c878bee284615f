-- What the calls of a core's keep tell and do. This project's own.
use Rattle.std.specs.Prelude.{◌≡◌, ◌≢◌, ℕ, ◌≤◌, List, [], Option, Some, None}
use Rattle.wg_words.specs.Each.{Each}
use Rattle.wg_machine.specs.declared.launch.Made.{Made}
use Rattle.wg_machine.specs.Buffers.{Buffers}
use Rattle.wg_machine.specs.LaunchMeaning.{KeepsLaws, outcome_of}
use Rattle.wg_standing.specs.declared.pending.Pending.{Pending}
use Rattle.wg_standing.specs.Choice.{IsChoice, NoChoice}
use Rattle.wg_standing.specs.Core.{CoreView}
use Rattle.wg_standing.specs.Idle.{IsOut}
use Rattle.wg_standing.specs.Moves.{settled_of, with_out}
use Rattle.wg_standing.specs.Outs.{launch_now}
use Rattle.wg_engine.specs.declared.keeping.Out.{Out}

-- The part of a core that its keep has: all but the buffers, the denied requests, the peak, the guesses kept and the
-- stop.
abbrev pub kept_part : CoreView → CoreView
kept_part core = record core { buffers = []; denied = 0; peak = 0; kept = 0; stopped = None }

-- a launch out as it is told: its ticket, with the words and the `last` of now
abbrev pub told : CoreView → Pending → Out
told core o = record { ticket = o.ticket; launch = launch_now core.shape core.bag o }

-- the launch that comes next was opened, or there is none
abbrev pub OpensNext : CoreView → CoreView → Option Out → Type 0
OpensNext old new None = NoChoice old × (new ≡ old)
OpensNext old new (Some out) = (o : Pending) × IsChoice old o × (out ≡ told old o) × (new ≡ with_out old o)

-- some launch comes next
abbrev pub SomeChoice : CoreView → Type 0
SomeChoice core = (o : Pending) × IsChoice core o

-- the launch with the ticket is out, and by the laws of launches it may make this on some buffers
pub record CanMake (core : CoreView) (ticket : ℕ) (made : Made) : Type 0 where
  pub before : List Pending
  pub pending : Pending
  pub later : List Pending
  pub out : IsOut core ticket before pending later
  pub buffers : Buffers
  pub after : Buffers
  pub laws : KeepsLaws core.shape (launch_now core.shape core.bag pending) buffers core.limits.turns (outcome_of made after)

-- the launch with the ticket made its step, as far as the keep knows
pub record MakesStep (old new : CoreView) (ticket : ℕ) (made : Made) : Type 0 where
  pub before : List Pending
  pub pending : Pending
  pub later : List Pending
  pub out : IsOut old ticket before pending later
  pub after : new ≡ kept_part (settled_of old before pending later (outcome_of made []))

-- the least ticket that is out
pub record IsFirstOut (outs : List Pending) (ticket : ℕ) : Type 0 where
  pub least : Each (λ (o : Pending). ticket ≤ o.ticket) outs
  pub some : Each (λ (o : Pending). o.ticket ≢ ticket) outs → ⊥
