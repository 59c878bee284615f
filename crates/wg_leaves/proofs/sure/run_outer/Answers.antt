use Rattle.std.proofs.Common.{false}
use Rattle.wg_code.specs.Functions.{missing}
use Rattle.wg_code.specs.OpMeaning.{does}
use Rattle.wg_code.specs.declared.op.Op.TheOpen.{Op-F}
use Rattle.wg_registers.specs.Given.{around_of}
use Rattle.wg_leaves.specs.Leaves.{outer_does, records_does}
use Rattle.wg_leaves.proofs.Leaf.{makes, outer_SharedAtomic, outer_InputPut}
use Rattle.wg_leaves.proofs.NotShared.{not_shared}
use Rattle.wg_leaves.proofs.sure.run_outer.Goals as goal

pub returns-in-SharedAtomic-clause-makes : goal.returns-in-SharedAtomic-clause-makes
returns-in-SharedAtomic-clause-makes c =
    makes (outer_does (around_of c.args.around.now) c.args.op.now) (does (around_of c.args.around.now) (λ f. missing false) (Op-F.SharedAtomic c.in-SharedAtomic.op c.in-SharedAtomic.d c.in-SharedAtomic.from c.in-SharedAtomic.to c.in-SharedAtomic.index c.in-SharedAtomic.compare c.in-SharedAtomic.value)) (outer_SharedAtomic (around_of c.args.around.now) c.args.op.now c.in-SharedAtomic.op c.in-SharedAtomic.d c.in-SharedAtomic.from c.in-SharedAtomic.to c.in-SharedAtomic.index c.in-SharedAtomic.compare c.in-SharedAtomic.value c.in-SharedAtomic.is) c.args.registers.now c.args.s.now c.shared_atomic.new.registers c.shared_atomic.new.s c.shared_atomic.ensures.makes

pub returns-in-InputPut-clause-makes : goal.returns-in-InputPut-clause-makes
returns-in-InputPut-clause-makes c =
    makes (outer_does (around_of c.args.around.now) c.args.op.now) (does (around_of c.args.around.now) (λ f. missing false) (Op-F.InputPut c.in-InputPut.input c.in-InputPut.word c.in-InputPut.a)) (outer_InputPut (around_of c.args.around.now) c.args.op.now c.in-InputPut.input c.in-InputPut.word c.in-InputPut.a c.in-InputPut.is) c.args.registers.now c.args.s.now c.args.registers.now c.set_input.new.s c.set_input.ensures.makes

pub returns-in_default-clause-makes : goal.returns-in_default-clause-makes
returns-in_default-clause-makes c =
    makes (outer_does (around_of c.args.around.now) c.args.op.now) (records_does (around_of c.args.around.now) c.args.op.now) (not_shared (around_of c.args.around.now) c.args.op.now (record { not_SharedGet = c.in_default.not-SharedGet; not_SharedPut = c.in_default.not-SharedPut; not_SharedAtomic = c.in_default.not-SharedAtomic; not_InputGet = c.in_default.not-InputGet; not_InputPut = c.in_default.not-InputPut })) c.args.registers.now c.args.s.now c.run_record.new.registers c.run_record.new.s c.run_record.ensures.makes
