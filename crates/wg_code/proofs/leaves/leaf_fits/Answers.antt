use Rattle.std.proofs.Common.{sym, ap, ◌∙◌}
use Rattle.wg_code.specs.Given.{scope_of}
use Rattle.wg_code.specs.Valid.{Judged}
use Rattle.wg_code.proofs.NotRegisters.{not_registers}
use Rattle.wg_code.proofs.leaves.leaf_fits.Goals as goal

pub returns-in_default : goal.returns-in_default
returns-in_default c =
    c.shared_fits.ensures ∙ sym (ap (λ (j : Judged). j c.args.in_loop) (not_registers (scope_of c.args.k.now) c.args.op.now (record { not_Set = c.in_default.not-Set; not_Copy = c.in_default.not-Copy; not_Unary = c.in_default.not-Unary; not_Binary = c.in_default.not-Binary; not_Half = c.in_default.not-Half; not_Wide = c.in_default.not-Wide; not_LocalGet = c.in_default.not-LocalGet; not_LocalPut = c.in_default.not-LocalPut; not_InputGet = c.in_default.not-InputGet; not_InputPut = c.in_default.not-InputPut; not_InputCount = c.in_default.not-InputCount; not_Level = c.in_default.not-Level; not_Last = c.in_default.not-Last; not_System = c.in_default.not-System })))
