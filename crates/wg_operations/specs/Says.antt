-- What an answer says of the code that was run. This project's own.
use Rattle.std.specs.Prelude.{◌≡◌, ⊤, ℕ, Bool, true, false, List, Result, Ok, Err}
use Rattle.wg_machine.specs.Agreement.{Trace, AgreesWith, now_of}
use Rattle.wg_machine.specs.Buffers.{Buffers}
use Rattle.wg_machine.specs.Effects.{Grows}
use Rattle.wg_machine.specs.declared.bodies.Halt.{Halt}
use Rattle.wg_machine.specs.declared.bodies.Halt.TheVariants as halt
use Rattle.wg_state.specs.Turns.{Action, Ending, Spent, Done}
use Rattle.wg_code.specs.Lane.{Site, Exit, Through, Out, Again}
use Rattle.wg_registers.specs.Given.{site_of}
use Rattle.wg_registers.specs.declared.outside.Outside.{Outside}
use Rattle.wg_operations.specs.declared.end.End.{End}
use Rattle.wg_operations.specs.declared.end.End.TheVariants as end

abbrev pub exit_of : End → Exit
exit_of end.Through = Through
exit_of end.Out = Out
exit_of end.Again = Again

-- turns are spent where the code spends them; want of memory says nothing
abbrev pub Stops : Ending Site Exit → Halt → Type 0
Stops o halt.Turns = o ≡ Spent
Stops o halt.Memory = ⊤

-- the code's own exit, registers, shared words and turns left
abbrev pub Says : Ending Site Exit → Result End Halt → List ℕ → Outside → Buffers → Type 0
Says o (Ok e) registers s buffers = o ≡ Done (exit_of e) (site_of registers s buffers) s.turns
Says o (Err h) registers s buffers = Stops o h

-- of code on registers and on what lanes share, before and after, for each start that agrees with the memory afterwards
abbrev pub Runs : Action Site Exit → List ℕ → Outside → Trace → Result End Halt → List ℕ → Outside → Trace → Type 0
Runs m registers s old result registers' s' new = (start : Buffers) → AgreesWith new start
    → Says (m (site_of registers s (now_of old start)) s.turns) result registers' s' (now_of new start)

-- a memory forgets nothing, but where it is only dropped
abbrev pub Keeps : {A : Type 0} → Result A Halt → Trace → Trace → Type 0
Keeps (Ok a) old new = Grows old new
Keeps (Err halt.Turns) old new = Grows old new
Keeps (Err halt.Memory) old new = ⊤

-- an operation that takes no turn and no word of a buffer, over any buffers
abbrev pub Makes : Action Site Exit → List ℕ → Outside → List ℕ → Outside → Type 0
Makes m registers s registers' s' = (buffers : Buffers) (t : ℕ)
    → m (site_of registers s buffers) t ≡ Done Through (site_of registers' s' buffers) t

-- whether the operations behind are run
abbrev pub passes : End → Bool
passes end.Through = true
passes end.Out = false
passes end.Again = false

-- whether a loop goes on after its test, its body or its step: a `Break` ends it
abbrev pub goes_round : End → Bool
goes_round end.Through = true
goes_round end.Out = false
goes_round end.Again = true
