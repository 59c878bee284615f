use Rattle.wg_tool.specs.Headline.{FilesView, SinkView, texts_of}
use Rattle.wg_tool.proofs.CompleteLemmas.{complete}
use Rattle.wg_tool.proofs.call.steady.Goals as goal

pub returns-clause-complete : goal.returns-clause-complete
returns-clause-complete g c = λ pairs entries fine.
    let old : FilesView = record { told = g.F.Files.told c.args.files.now; faults = g.F.Files.faults c.args.files.now; taken = g.F.Files.taken c.args.files.now } in
    let new : FilesView = record { told = g.F.Files.told c.answer.new.files; faults = g.F.Files.faults c.answer.new.files; taken = g.F.Files.taken c.answer.new.files } in
    let before : SinkView = record { written = g.S.Sink.written c.args.out.now; faults = g.S.Sink.faults c.args.out.now } in
    let now : SinkView = record { written = g.S.Sink.written c.answer.new.out; faults = g.S.Sink.faults c.answer.new.out } in
    complete (texts_of c.args.words.now) old new before now c.number_of.result pairs entries (c.answer.result, c.number_of.ensures, c.answer.ensures) fine
