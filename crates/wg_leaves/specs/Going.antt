-- How turns and a memory go on while code runs. Own.
use Rattle.std.specs.Prelude.{◌≡◌, ⊤, ℕ, ◌≤◌, Bool, IsTrue, Result, Ok, Err}
use Rattle.wg_machine.specs.Agreement.{Trace}
use Rattle.wg_machine.specs.Effects.{Grows}
use Rattle.wg_machine.specs.declared.bodies.Halt.{Halt}
use Rattle.wg_machine.specs.declared.bodies.Halt.TheVariants as halt
use Rattle.wg_code.specs.Quiet.{quiet_step}
use Rattle.wg_code.specs.declared.op.Op.{Op, fold-Op}

-- no turn comes back, a memory forgets nothing, and where code reads no shared buffer it logs nothing
pub record GoesOn (quiet : Bool) (turns_before turns : ℕ) (old new : Trace) : Type 0 where
  pub turns_left : turns ≤ turns_before
  pub grows : Grows old new
  pub silent : IsTrue quiet → new.log ≡ old.log

-- but where the memory is only dropped
abbrev pub Kept : {A : Type 0} → Bool → ℕ → ℕ → Trace → Result A Halt → Trace → Type 0
Kept quiet before turns old (Ok a) new = GoesOn quiet before turns old new
Kept quiet before turns old (Err halt.Turns) new = GoesOn quiet before turns old new
Kept quiet before turns old (Err halt.Memory) new = ⊤

-- whether one operation, as far as its blocks go, reads no shared buffer
abbrev pub is_quiet_op : Op → Bool
is_quiet_op = fold-Op Bool quiet_step
