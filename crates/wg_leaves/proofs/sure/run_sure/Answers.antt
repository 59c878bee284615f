use Rattle.wg_registers.specs.Given.{around_of}
use Rattle.wg_leaves.specs.Leaves.{sure_does, outer_does}
use Rattle.wg_leaves.proofs.Leaf.{makes}
use Rattle.wg_leaves.proofs.NotRegisters.{not_registers}
use Rattle.wg_leaves.proofs.sure.run_sure.Goals as goal

pub returns-in_default-clause-makes : goal.returns-in_default-clause-makes
returns-in_default-clause-makes c =
    makes (sure_does (around_of c.args.around.now) c.args.op.now) (outer_does (around_of c.args.around.now) c.args.op.now) (not_registers (around_of c.args.around.now) c.args.op.now (record { not_Set = c.in_default.not-Set; not_Copy = c.in_default.not-Copy; not_Unary = c.in_default.not-Unary; not_Binary = c.in_default.not-Binary; not_Half = c.in_default.not-Half; not_Wide = c.in_default.not-Wide; not_LocalGet = c.in_default.not-LocalGet; not_LocalPut = c.in_default.not-LocalPut })) c.args.registers.now c.args.s.now c.run_outer.new.registers c.run_outer.new.s c.run_outer.ensures.makes
