use Rattle.std.proofs.Common.{◌≡◌, ℕ, List, Err, ap, ◌∙◌}
use Rattle.wg_io.specs.declared.files.FileFault.{FileFault}
use Rattle.std.specs.Prelude.{IfSome}
use Rattle.wg_tool.specs.declared.answer.Input.TheVariants as input
use Rattle.wg_tool.specs.Headline.{FilesView}
use Rattle.wg_tool.specs.Stages.{ScriptSays, FileSays, FaultSays}
use Rattle.wg_tool.proofs.AnswerLemmas.{lifted}
use Rattle.wg_tool.proofs.FileLemmas.{file_read, file_fault, told_more, FaultShows}
use Rattle.wg_tool.proofs.stages.answer_script.Goals as goal

pub returns-in-Ok : goal.returns-in-Ok
returns-in-Ok g c =
    let old : FilesView = record { told = g.F.Files.told c.args.files.now; faults = g.F.Files.faults c.args.files.now; taken = g.F.Files.taken c.args.files.now } in
    let new : FilesView = record { told = g.F.Files.told c.read.new.self; faults = g.F.Files.faults c.read.new.self; taken = g.F.Files.taken c.read.new.self } in
    let same : IfSome (old.told c.args.name.now) (λ (b : List ℕ). c.as_slice.result.now ≡ b) = told_more (old.told c.args.name.now) (λ (b : List ℕ). c.in-Ok.bytes.items ≡ b) (λ (b : List ℕ). c.as_slice.result.now ≡ b) (λ b e. c.as_slice.ensures.value ∙ e) c.in-Ok.ensures.bytes in
    lifted (ScriptSays c.args.pairs.now c.as_slice.result.now) (FileSays old new c.args.pairs.now c.args.name.now) (g.S.Sink.written c.args.out.now) (g.S.Sink.written c.run_bytes.new.out) (g.S.Sink.faults c.args.out.now) (g.S.Sink.faults c.run_bytes.new.out) c.run_bytes.result (file_read old new c.args.pairs.now c.args.name.now c.as_slice.result.now same) c.run_bytes.ensures

pub returns-in-Err : goal.returns-in-Err
returns-in-Err g c =
    let old : FilesView = record { told = g.F.Files.told c.args.files.now; faults = g.F.Files.faults c.args.files.now; taken = g.F.Files.taken c.args.files.now } in
    let new : FilesView = record { told = g.F.Files.told c.read.new.self; faults = g.F.Files.faults c.read.new.self; taken = g.F.Files.taken c.read.new.self } in
    let k = c.read.ensures in
    let shows : FaultShows old new c.args.name.now c.in-Err.fault = record { failed = λ e. k.failed (c.in-Err.is ∙ ap (λ (x : FileFault). Err x) e); given = λ n e. k.given n (c.in-Err.is ∙ ap (λ (x : FileFault). Err x) e); beyond = λ e. k.beyond (c.in-Err.is ∙ ap (λ (x : FileFault). Err x) e); longer = λ e. k.longer (c.in-Err.is ∙ ap (λ (x : FileFault). Err x) e) } in
    lifted (FaultSays c.in-Err.fault input.Script c.args.name.now) (FileSays old new c.args.pairs.now c.args.name.now) (g.S.Sink.written c.args.out.now) (g.S.Sink.written c.say_fault.new.out) (g.S.Sink.faults c.args.out.now) (g.S.Sink.faults c.say_fault.new.out) c.say_fault.result (file_fault old new c.args.pairs.now c.args.name.now c.in-Err.fault shows) c.say_fault.ensures
