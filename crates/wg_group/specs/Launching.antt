-- What an answer says of a launch of node code. Own.
use Rattle.std.specs.Prelude.{◌≡◌, ⊤, Result, Ok, Err}
use Rattle.wg_machine.specs.Agreement.{Trace, AgreesWith, now_of}
use Rattle.wg_machine.specs.Buffers.{Buffers}
use Rattle.wg_machine.specs.LaunchMeaning.{outcome_of}
use Rattle.wg_machine.specs.declared.bodies.Halt.{Halt}
use Rattle.wg_machine.specs.declared.bodies.Halt.TheVariants as halt
use Rattle.wg_machine.specs.declared.launch.Made.{Made}
use Rattle.wg_code.specs.CodeMeaning.{Verdict, SpendsTurns, Makes}

-- what the launch made and the buffers after it; turns are spent where the code spends them; want of memory says nothing
abbrev pub Answers : Verdict → Result Made Halt → Buffers → Type 0
Answers v (Ok made) buffers = v ≡ Makes (outcome_of made buffers)
Answers v (Err halt.Turns) buffers = v ≡ SpendsTurns
Answers v (Err halt.Memory) buffers = ⊤

-- of a launch by the buffers that it begins with, for each start that agrees with the memory afterwards
abbrev pub Launches : (Buffers → Verdict) → Trace → Result Made Halt → Trace → Type 0
Launches ends old result new = (start : Buffers) → AgreesWith new start → Answers (ends (now_of old start)) result (now_of new start)
