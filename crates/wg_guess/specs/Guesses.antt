-- What a guess says, and when that is true. This project's own.
use Rattle.std.specs.Prelude.{◌≡◌, ℕ, List, length, Option, Some, None}
use Rattle.wg_machine.specs.declared.shape.Shape.{Shape}
use Rattle.wg_machine.specs.declared.launch.Made.{Made}
use Rattle.wg_machine.specs.declared.memory.Write.{Write}
use Rattle.wg_machine.specs.Agreement.{Agrees}
use Rattle.wg_machine.specs.Buffers.{Buffers, all_written}
use Rattle.wg_machine.specs.LaunchMeaning.{Meaning, Outcome, outcome_of}
use Rattle.wg_guess.specs.declared.guesses.Guess.{Guess}

-- buffers agree with a guess's log: it is one for them
abbrev pub IsFor : Guess → Buffers → Type 0
IsFor g buffers = Agrees g.lengths g.log buffers

-- what a guess's launch does to buffers, by its verdict and its writes
abbrev pub guessed : Option Made → List Write → Buffers → Option Outcome
guessed None writes buffers = None
guessed (Some made) writes buffers = Some (outcome_of made (all_written buffers writes))

-- A guess is true of bodies within a number of turns: its log has as many lengths as the shape has buffers, and over all
-- buffers that agree with the log the launch means what the guess says.
pub record IsTrueOf (shape : Shape) (made : Meaning) (turns : ℕ) (g : Guess) : Type 0 where
  pub many : length g.lengths ≡ length shape.buffers
  pub over : (buffers : Buffers) → IsFor g buffers → made g.launch buffers turns ≡ guessed g.answer g.writes buffers
