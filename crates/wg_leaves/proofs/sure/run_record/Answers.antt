use Rattle.std.proofs.Common.{false}
use Rattle.wg_code.specs.Functions.{missing}
use Rattle.wg_code.specs.OpMeaning.{does}
use Rattle.wg_code.specs.declared.op.Op.TheOpen.{Op-F}
use Rattle.wg_registers.specs.Given.{around_of}
use Rattle.wg_leaves.specs.Leaves.{records_does, given_does}
use Rattle.wg_leaves.proofs.Leaf.{makes, records_RecordGet, records_RecordPut, records_Complete}
use Rattle.wg_leaves.proofs.NotRecords.{not_records}
use Rattle.wg_leaves.proofs.sure.run_record.Goals as goal

pub returns-in-RecordGet-clause-makes : goal.returns-in-RecordGet-clause-makes
returns-in-RecordGet-clause-makes c =
    makes (records_does (around_of c.args.around.now) c.args.op.now) (does (around_of c.args.around.now) (λ f. missing false) (Op-F.RecordGet c.in-RecordGet.d c.in-RecordGet.handle c.in-RecordGet.index c.in-RecordGet.from c.in-RecordGet.to c.in-RecordGet.word)) (records_RecordGet (around_of c.args.around.now) c.args.op.now c.in-RecordGet.d c.in-RecordGet.handle c.in-RecordGet.index c.in-RecordGet.from c.in-RecordGet.to c.in-RecordGet.word c.in-RecordGet.is) c.args.registers.now c.args.s.now c.get_record.new.registers c.args.s.now c.get_record.ensures.makes

pub returns-in-RecordPut-clause-makes : goal.returns-in-RecordPut-clause-makes
returns-in-RecordPut-clause-makes c =
    makes (records_does (around_of c.args.around.now) c.args.op.now) (does (around_of c.args.around.now) (λ f. missing false) (Op-F.RecordPut c.in-RecordPut.handle c.in-RecordPut.index c.in-RecordPut.from c.in-RecordPut.to c.in-RecordPut.word c.in-RecordPut.a)) (records_RecordPut (around_of c.args.around.now) c.args.op.now c.in-RecordPut.handle c.in-RecordPut.index c.in-RecordPut.from c.in-RecordPut.to c.in-RecordPut.word c.in-RecordPut.a c.in-RecordPut.is) c.args.registers.now c.args.s.now c.args.registers.now c.set_record.new.s c.set_record.ensures.makes

pub returns-in-Complete-clause-makes : goal.returns-in-Complete-clause-makes
returns-in-Complete-clause-makes c =
    makes (records_does (around_of c.args.around.now) c.args.op.now) (does (around_of c.args.around.now) (λ f. missing false) (Op-F.Complete c.in-Complete.handle)) (records_Complete (around_of c.args.around.now) c.args.op.now c.in-Complete.handle c.in-Complete.is) c.args.registers.now c.args.s.now c.args.registers.now c.complete.new.s c.complete.ensures.makes

pub returns-in_default-clause-makes : goal.returns-in_default-clause-makes
returns-in_default-clause-makes c =
    makes (records_does (around_of c.args.around.now) c.args.op.now) (given_does (around_of c.args.around.now) c.args.op.now) (not_records (around_of c.args.around.now) c.args.op.now (record { not_RecordGet = c.in_default.not-RecordGet; not_RecordPut = c.in_default.not-RecordPut; not_Complete = c.in_default.not-Complete })) c.args.registers.now c.args.s.now c.run_given.new.registers c.args.s.now (c.run_given.ensures c.args.s.now)
