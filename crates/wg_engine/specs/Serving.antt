-- Guesses that a settling may keep. This project's own.
use Rattle.std.specs.Prelude.{◌≡◌, ◌≢◌, ⊤, [], Option, Some, None}
use Rattle.wg_standing.specs.declared.pending.Pending.{Pending}
use Rattle.wg_standing.specs.Core.{CoreView}
use Rattle.wg_standing.specs.Outs.{launch_now}
use Rattle.wg_guess.specs.declared.guesses.Guess.{Guess}
use Rattle.wg_guess.specs.Guesses.{IsFor}

-- The guess is of the launch of now, is not spent, and agrees with the buffers now.
pub record IsServing (core : CoreView) (o : Pending) (guess : Guess) : Type 0 where
  pub launch : guess.launch ≡ launch_now core.shape core.bag o
  pub unspent : guess.answer ≢ None
  pub agrees : IsFor guess core.buffers

-- a guess is handed in that may be kept
abbrev pub Serves : CoreView → Pending → Option Guess → Type 0
Serves core o None = ⊥
Serves core o (Some guess) = IsServing core o guess

-- a guess that may be kept has writes
abbrev pub OnlyWithWrites : CoreView → Pending → Option Guess → Type 0
OnlyWithWrites core o None = ⊤
OnlyWithWrites core o (Some guess) = IsServing core o guess → guess.writes ≢ []
