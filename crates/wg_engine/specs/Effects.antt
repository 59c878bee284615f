-- What a launch out does when it settles. This project's own.
use Rattle.std.specs.Prelude.{◌≡◌, ◌≢◌, ◌↔◌, ⊤, ℕ, IsTrue, List, [], Option, Result, Ok, Err, Some, None, true, false}
use Rattle.wg_machine.specs.declared.launch.Made.{Made}
use Rattle.wg_machine.specs.declared.memory.Write.{Write}
use Rattle.wg_machine.specs.Buffers.{all_written}
use Rattle.wg_machine.specs.LaunchMeaning.{KeepsLaws, Meaning, outcome_of}
use Rattle.wg_standing.specs.declared.pending.Pending.{Pending}
use Rattle.wg_standing.specs.Core.{CoreView}
use Rattle.wg_standing.specs.Idle.{IsOut}
use Rattle.wg_standing.specs.Moves.{settled_of, with_kept}
use Rattle.wg_standing.specs.Outs.{launch_now}
use Rattle.wg_guess.specs.declared.guesses.Guess.{Guess}
use Rattle.wg_engine.specs.declared.engine.Settled.{Settled}
use Rattle.wg_engine.specs.declared.engine.Settled.TheVariants as settled
use Rattle.wg_engine.specs.declared.stepping.Effect.{Effect}
use Rattle.wg_engine.specs.declared.stepping.Halted.{Halted}
use Rattle.wg_engine.specs.declared.stepping.Halted.TheVariants.{Turns, Memory}
use Rattle.wg_engine.specs.Serving.{IsServing, Serves}

-- where a guess serves, these are its writes
abbrev pub HasWritesOf : CoreView → Pending → Option Guess → List Write → Type 0
HasWritesOf core o None writes = ⊤
HasWritesOf core o (Some guess) writes = IsServing core o guess → writes ≡ guess.writes

-- what a launch out makes of the buffers now, and whether a guess served
abbrev pub Finds : Meaning → CoreView → Pending → Option Guess → Result Effect Halted → Type 0
Finds made core o guess (Ok e) =
    (made (launch_now core.shape core.bag o) core.buffers core.limits.turns ≡ Some (outcome_of e.made (all_written core.buffers e.writes)))
    × (IsTrue e.kept ↔ Serves core o guess) × HasWritesOf core o guess e.writes
Finds made core o guess (Err (Turns launch)) =
    (launch ≡ launch_now core.shape core.bag o) × (made (launch_now core.shape core.bag o) core.buffers core.limits.turns ≡ None)
    × (Serves core o guess → ⊥)
Finds made core o guess (Err Memory) = Serves core o guess → ⊥

-- the launch of the ticket is out, and by the laws of launches it may make this with these writes
pub record CanStep (core : CoreView) (ticket : ℕ) (made : Made) (writes : List Write) : Type 0 where
  pub before : List Pending
  pub pending : Pending
  pub later : List Pending
  pub out : IsOut core ticket before pending later
  pub laws : KeepsLaws core.shape (launch_now core.shape core.bag pending) core.buffers core.limits.turns (outcome_of made (all_written core.buffers writes))

-- the launch of the ticket made its step by what it made and its writes
pub record StepsTo (old new : CoreView) (ticket : ℕ) (made : Made) (writes : List Write) : Type 0 where
  pub before : List Pending
  pub pending : Pending
  pub later : List Pending
  pub out : IsOut old ticket before pending later
  pub after : new ≡ settled_of old before pending later (outcome_of made (all_written old.buffers writes))

-- what a launch out that is run makes of the buffers now
abbrev pub Runs : Meaning → CoreView → Pending → Result Effect Halted → Type 0
Runs made core o (Ok e) =
    (made (launch_now core.shape core.bag o) core.buffers core.limits.turns ≡ Some (outcome_of e.made (all_written core.buffers e.writes)))
    × (e.kept ≡ false)
Runs made core o (Err (Turns launch)) =
    (launch ≡ launch_now core.shape core.bag o) × (made (launch_now core.shape core.bag o) core.buffers core.limits.turns ≡ None)
Runs made core o (Err Memory) = ⊤

-- what taking an effect answers: a step, with a guess counted or not, or want of memory where there are writes
abbrev pub Takes : CoreView → CoreView → ℕ → Effect → Settled → Type 0
Takes old new ticket e settled.Kept = (e.kept ≡ true) × ((after : CoreView) × StepsTo old after ticket e.made e.writes × (new ≡ with_kept after))
Takes old new ticket e settled.Redone = (e.kept ≡ false) × StepsTo old new ticket e.made e.writes
Takes old new ticket e settled.Memory = (e.writes ≢ []) × (new ≡ old)
Takes old new ticket e (settled.TurnsSpent launch) = ⊥
Takes old new ticket e settled.NotOut = ⊥
Takes old new ticket e settled.Stopped = ⊥
