-- Operations whose whole effect is on the registers. Own.
use Rattle.std.specs.Prelude.{◌≡◌, ℕ, false, List, drop}
use Rattle.wg_machine.specs.Buffers.{Buffers}
use Rattle.wg_state.specs.Turns.{Done}
use Rattle.wg_code.specs.Flow.{Callees}
use Rattle.wg_code.specs.Lane.{Around, Through}
use Rattle.wg_code.specs.OpMeaning.{op_does, ops_do}
use Rattle.wg_code.specs.declared.op.Op.{Op}
use Rattle.wg_registers.specs.Given.{site_of}
use Rattle.wg_registers.specs.declared.outside.Outside.{Outside}

-- the operation goes through, and changes registers so
abbrev pub Sets : Op → List ℕ → List ℕ → Type 0
Sets op registers registers' = (A : Around) (C : Callees) (s : Outside) (b : Buffers) (t : ℕ)
    → op_does false A C op (site_of registers s b) t ≡ Done Through (site_of registers' s b) t

-- the first so many operations change registers so, and no more; the others are left
abbrev pub SetsFirst : ℕ → List Op → List ℕ → List ℕ → Type 0
SetsFirst n ops registers registers' = (A : Around) (C : Callees) (s : Outside) (b : Buffers) (t : ℕ)
    → ops_do false A C ops (site_of registers s b) t ≡ ops_do false A C (drop n ops) (site_of registers' s b) t
