use Rattle.std.proofs.Common.{refl}
use Rattle.wg_tool.specs.declared.answer.Answer.TheVariants.{BadScript}
use Rattle.wg_tool.specs.declared.answer.TheConstants.{BAD_SCRIPT}
use Rattle.wg_tool.specs.Sending.{sender}
use Rattle.wg_tool.specs.Stages.{RanSays, ScriptSays}
use Rattle.wg_tool.proofs.AnswerLemmas.{told, lifted}
use Rattle.wg_tool.proofs.StageLemmas.{ran_script}
use Rattle.wg_tool.proofs.stages.run_bytes.Goals as goal

pub returns-in-Ok-None : goal.returns-in-Ok-None
returns-in-Ok-None g c =
    let none = rw c.in-Ok-None.field-0-is at c.in-Ok-None.ensures.none in
    told (ScriptSays c.args.pairs.now c.args.script.now) BadScript BAD_SCRIPT.now (g.S.Sink.written c.args.out.now) (g.S.Sink.written c.say.new.out) (g.S.Sink.faults c.args.out.now) (g.S.Sink.faults c.say.new.out) c.say.result tt (none, refl) c.say.ensures

pub returns : goal.returns
returns g c =
    let f = rw c.in-Ok-Some.field-0-is at c.in-Ok-Some.ensures.found in
    let s = c.in-Ok-senders_of.senders in
    let k = c.in-Ok-senders_of.ensures in
    lifted (RanSays s.shape (sender s.targets s.adds) c.in-Ok-Some.entries) (ScriptSays c.args.pairs.now c.args.script.now) (g.S.Sink.written c.args.out.now) (g.S.Sink.written c.run_entries.new.out) (g.S.Sink.faults c.args.out.now) (g.S.Sink.faults c.run_entries.new.out) c.run_entries.result
    (ran_script c.args.pairs.now c.args.script.now s.shape s.targets s.adds c.in-Ok-Some.entries k.shape k.targets k.adds f.0 f.1)
    c.run_entries.ensures
