-- Which bodies read no shared buffer, and that a memory logs nothing for them. Own.
use Rattle.std.specs.Prelude.{◌≡◌, ⊤, Bool, ◌&&◌, List, Result, Ok, Err}
use Rattle.std.specs.List.{list_all}
use Rattle.wg_machine.specs.Agreement.{Trace}
use Rattle.wg_machine.specs.declared.bodies.Halt.{Halt}
use Rattle.wg_machine.specs.declared.bodies.Halt.TheVariants as halt
use Rattle.wg_code.specs.Quiet.{are_quiet}
use Rattle.wg_code.specs.declared.code.Function.{Function}
use Rattle.wg_code.specs.declared.op.Op.{Op}

-- whether neither operations nor the functions that they may call read a shared buffer
abbrev pub reads_nothing : List Function → List Op → Bool
reads_nothing functions ops = list_all (λ (f : Function). are_quiet f.body) functions && are_quiet ops

-- nothing new is logged, but where the memory is only dropped
abbrev pub LogsNothing : {A : Type 0} → Result A Halt → Trace → Trace → Type 0
LogsNothing (Ok a) old new = new.log ≡ old.log
LogsNothing (Err halt.Turns) old new = new.log ≡ old.log
LogsNothing (Err halt.Memory) old new = ⊤
