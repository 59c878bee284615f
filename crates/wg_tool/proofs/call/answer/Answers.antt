use Rattle.std.proofs.Common.{refl, inl, inr}
use Rattle.wg_tool.specs.declared.answer.Answer.TheVariants.{Usage}
use Rattle.wg_tool.specs.declared.answer.TheConstants.{USAGE}
use Rattle.wg_tool.specs.Headline.{FilesView, RunSays, CommandSays, texts_of}
use Rattle.wg_tool.proofs.AnswerLemmas.{told, lifted}
use Rattle.wg_tool.proofs.call.answer.Goals as goal

pub returns-in-Some : goal.returns-in-Some
returns-in-Some g c =
    let old : FilesView = record { told = g.F.Files.told c.args.files.now; faults = g.F.Files.faults c.args.files.now; taken = g.F.Files.taken c.args.files.now } in
    let new : FilesView = record { told = g.F.Files.told c.answer_run.new.files; faults = g.F.Files.faults c.answer_run.new.files; taken = g.F.Files.taken c.answer_run.new.files } in
    let graph = c.in-Some.graph.now in
    let script = c.in-Some.script.now in
    lifted (RunSays old new graph script) (CommandSays (texts_of c.args.words.now) old new) (g.S.Sink.written c.args.out.now) (g.S.Sink.written c.answer_run.new.out) (g.S.Sink.faults c.args.out.now) (g.S.Sink.faults c.answer_run.new.out) c.answer_run.result (λ a t h. inr (graph, script, c.in-Some.ensures.some, h)) c.answer_run.ensures

pub returns-in-None : goal.returns-in-None
returns-in-None g c =
    let old : FilesView = record { told = g.F.Files.told c.args.files.now; faults = g.F.Files.faults c.args.files.now; taken = g.F.Files.taken c.args.files.now } in
    told (CommandSays (texts_of c.args.words.now) old old) Usage USAGE.now (g.S.Sink.written c.args.out.now) (g.S.Sink.written c.say.new.out) (g.S.Sink.faults c.args.out.now) (g.S.Sink.faults c.say.new.out) c.say.result tt (inl (c.in-None.ensures.none, refl, refl)) c.say.ensures
