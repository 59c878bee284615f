use Rattle.std.proofs.Common.{refl, sym, subst, ◌∙◌}
use Rattle.wg_io.specs.declared.files.FileFault.{FileFault}
use Rattle.wg_io.specs.declared.files.FileFault.TheVariants as fault
use Rattle.wg_tool.specs.declared.answer.Answer.TheVariants.{ReadFault, TooLong}
use Rattle.wg_tool.specs.Answers.{Concludes}
use Rattle.wg_tool.specs.Stages.{FaultSays}
use Rattle.wg_tool.proofs.AnswerLemmas.{told}
use Rattle.wg_tool.proofs.say.say_fault.Goals as goal

pub returns-in-Ok : goal.returns-in-Ok
returns-in-Ok g c =
    let says = told (FaultSays fault.Failed c.args.input c.args.name.now) (ReadFault c.args.input) c.as_slice.result.now (g.S.Sink.written c.args.out.now) (g.S.Sink.written c.say.new.out) (g.S.Sink.faults c.args.out.now) (g.S.Sink.faults c.say.new.out) c.say.result tt (refl, c.as_slice.ensures.value ∙ c.in-Ok.ensures) c.say.ensures in
    subst (λ (f : FileFault). Concludes (FaultSays f c.args.input c.args.name.now) (g.S.Sink.written c.args.out.now) (g.S.Sink.written c.say.new.out) (g.S.Sink.faults c.args.out.now) (g.S.Sink.faults c.say.new.out) c.say.result) (sym c.in-Failed.is) says

pub returns-in-Ok-too_long_text : goal.returns-in-Ok-too_long_text
returns-in-Ok-too_long_text g c =
    let says = told (FaultSays (fault.TooLong c.in-TooLong.limit) c.args.input c.args.name.now) (TooLong c.args.input) c.as_slice-in-Ok-too_long_text.result.now (g.S.Sink.written c.args.out.now) (g.S.Sink.written c.say-in-Ok-too_long_text.new.out) (g.S.Sink.faults c.args.out.now) (g.S.Sink.faults c.say-in-Ok-too_long_text.new.out) c.say-in-Ok-too_long_text.result tt (refl, c.as_slice-in-Ok-too_long_text.ensures.value ∙ c.in-Ok-too_long_text.ensures) c.say-in-Ok-too_long_text.ensures in
    subst (λ (f : FileFault). Concludes (FaultSays f c.args.input c.args.name.now) (g.S.Sink.written c.args.out.now) (g.S.Sink.written c.say-in-Ok-too_long_text.new.out) (g.S.Sink.faults c.args.out.now) (g.S.Sink.faults c.say-in-Ok-too_long_text.new.out) c.say-in-Ok-too_long_text.result) (sym c.in-TooLong.is) says
