-- How a replay goes on by an entry. This project's own.
use Rattle.std.specs.Prelude.{ℕ}
use Rattle.wg_machine.specs.declared.launch.Entry.{Entry}
use Rattle.wg_machine.specs.declared.shape.Shape.{Shape}
use Rattle.wg_machine.specs.LaunchMeaning.{Meaning}
use Rattle.wg_machine.specs.State.{State}
use Rattle.wg_machine.specs.Step.{Passed, Step}
use Rattle.wg_replay.specs.declared.replay.Replay.{Replay}
use Rattle.wg_replay.specs.Lines.{IsRightLine, Terms}
use Rattle.wg_replay.specs.States.{Follows}

-- it goes on by the step of the entry
pub record TakesStep (shape : Shape) (made : Meaning) (turns : ℕ) (s : State) (e : Entry) (old new : Replay) : Type 0 where
  pub passed : Passed
  pub step : Step shape made turns s e passed
  pub follows : Follows shape old new passed

-- the line is right, and it goes on by its step
pub record PassesLine (t : Terms) (before : ℕ) (s : State) (e : Entry) (old new : Replay) : Type 0 where
  pub passed : Passed
  pub right : IsRightLine t before s e passed
  pub follows : Follows t.shape old new passed
