-- What the program's answer says of a launch.
use Rattle.std.specs.Prelude.{◌≡◌, ⊤, Option, Some, None, Result, Ok, Err}
use Rattle.wg_machine.specs.declared.bodies.Halt.{Halt}
use Rattle.wg_machine.specs.declared.bodies.Halt.TheVariants as halt
use Rattle.wg_machine.specs.declared.launch.Made.{Made}
use Rattle.wg_machine.specs.Buffers.{Buffers}
use Rattle.wg_machine.specs.LaunchMeaning.{Outcome, outcome_of}

-- what it made and the buffers after it; `Turns` just where the launch is spent; want of memory says nothing
abbrev pub Launches : Option Outcome → Result (Made × Buffers) Halt → Type 0
Launches o (Ok done) = o ≡ Some (outcome_of done.0 done.1)
Launches o (Err halt.Turns) = o ≡ None
Launches o (Err halt.Memory) = ⊤
