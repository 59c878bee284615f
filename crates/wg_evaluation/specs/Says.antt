-- What the program's answer says of an action.
use Rattle.std.specs.Prelude.{◌≡◌, ⊤, ℕ, List, Option, Some, None, Result, Ok, Err, take}
use Rattle.wg_machine.specs.declared.bodies.Halt.{Halt}
use Rattle.wg_machine.specs.declared.bodies.Halt.TheVariants as halt
use Rattle.wg_state.specs.Turns.{Ending, Spent, Done, Action}
use Rattle.wg_semantics.specs.declared.state.State.{State}
use Rattle.wg_semantics.specs.declared.state.Spot.{Spot}
use Rattle.wg_semantics.specs.declared.state.Spot.TheVariants as spot
use Rattle.wg_semantics.specs.Places.{Setting, written}
use Rattle.wg_semantics.specs.Calls.{Callee}
use Rattle.wg_semantics.specs.FunctionMeaning.{callees_of}
use Rattle.wg_values.specs.declared.place.Setting.{Setting as Given}
use Rattle.wg_values.specs.Pieces.{setting_of}
use Rattle.wg_evaluation.specs.declared.calls.Run.{Run}

-- turns are spent where the action spends them; want of memory says nothing
abbrev pub Stops : {S A : Type 0} → Ending S A → Halt → Type 0
Stops o halt.Turns = o ≡ Spent
Stops o halt.Memory = ⊤

-- the action's own answer, state and turns left
abbrev pub Says : {S A : Type 0} → Ending S A → Result A Halt → S → ℕ → Type 0
Says o (Ok a) s t = o ≡ Done a s t
Says o (Err h) s t = Stops o h

-- of an action on a lane that runs, before and after it
abbrev pub Runs : {A : Type 0} → Action State A → Run → Result A Halt → Run → Type 0
Runs m old result new = Says (m old.state old.turns) result new.state new.turns

-- the meanings of the functions that may be called where calls reach so many
abbrev pub callees_in : ℕ → Given → List Callee
callees_in reach s = callees_of (setting_of s) (take reach s.earlier.now)

-- a meaning in a setting where calls reach so many functions
abbrev pub within : {A : Type 0} → ℕ → Given → (Setting → List Callee → A) → A
within reach s meaning = meaning (setting_of s) (callees_in reach s)

-- the state after a copy back
abbrev pub back_in : Option Spot → List ℕ → State → State
back_in None words s = s
back_in (Some p) words s = written p words s

abbrev pub spot_result : Result (List ℕ) Halt → Result Spot Halt
spot_result (Ok words) = Ok (spot.Value words)
spot_result (Err h) = Err h
