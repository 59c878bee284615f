use Rattle.std.proofs.Common.{◌≡◌, ℕ, List, Err, ap, refl, subst, sym, ◌∙◌}
use Rattle.std.specs.Prelude.{IfSome}
use Rattle.wg_io.specs.declared.files.FileFault.{FileFault}
use Rattle.wg_tool.specs.declared.answer.Answer.TheVariants.{Refused}
use Rattle.wg_tool.specs.declared.answer.Input.TheVariants as input
use Rattle.wg_tool.specs.declared.answer.TheConstants.{REFUSED}
use Rattle.wg_tool.specs.declared.pair.Pair.{Pair}
use Rattle.wg_tool.specs.Headline.{FilesView, RunSays, IsGraph}
use Rattle.wg_tool.specs.Stages.{FileSays, FaultSays}
use Rattle.wg_tool.proofs.AnswerLemmas.{told, lifted}
use Rattle.wg_tool.proofs.FileLemmas.{graph_read, graph_fault, told_more, FaultShows, ReadOnce}
use Rattle.wg_tool.proofs.stages.answer_run.Goals as goal

pub returns-in-Err : goal.returns-in-Err
returns-in-Err g c =
    let old : FilesView = record { told = g.F.Files.told c.args.files.now; faults = g.F.Files.faults c.args.files.now; taken = g.F.Files.taken c.args.files.now } in
    let new : FilesView = record { told = g.F.Files.told c.read.new.self; faults = g.F.Files.faults c.read.new.self; taken = g.F.Files.taken c.read.new.self } in
    let k = c.read.ensures in
    let shows : FaultShows old new c.args.graph.now c.in-Err.fault = record { failed = λ e. k.failed (c.in-Err.is ∙ ap (λ (x : FileFault). Err x) e); given = λ n e. k.given n (c.in-Err.is ∙ ap (λ (x : FileFault). Err x) e); beyond = λ e. k.beyond (c.in-Err.is ∙ ap (λ (x : FileFault). Err x) e); longer = λ e. k.longer (c.in-Err.is ∙ ap (λ (x : FileFault). Err x) e) } in
    lifted (FaultSays c.in-Err.fault input.Graph c.args.graph.now) (RunSays old new c.args.graph.now c.args.script.now) (g.S.Sink.written c.args.out.now) (g.S.Sink.written c.say_fault.new.out) (g.S.Sink.faults c.args.out.now) (g.S.Sink.faults c.say_fault.new.out) c.say_fault.result (graph_fault old new c.args.graph.now c.args.script.now c.in-Err.fault shows) c.say_fault.ensures

pub returns-in-Ok-None : goal.returns-in-Ok-None
returns-in-Ok-None g c =
    let old : FilesView = record { told = g.F.Files.told c.args.files.now; faults = g.F.Files.faults c.args.files.now; taken = g.F.Files.taken c.args.files.now } in
    let new : FilesView = record { told = g.F.Files.told c.read.new.self; faults = g.F.Files.faults c.read.new.self; taken = g.F.Files.taken c.read.new.self } in
    let same : IfSome (old.told c.args.graph.now) (λ (b : List ℕ). c.as_slice.result.now ≡ b) = told_more (old.told c.args.graph.now) (λ (b : List ℕ). c.in-Ok.bytes.items ≡ b) (λ (b : List ℕ). c.as_slice.result.now ≡ b) (λ b e. c.as_slice.ensures.value ∙ e) c.in-Ok.ensures.bytes in
    let none = rw c.in-Ok-None.field-0-is at c.in-Ok-None.ensures.none in
    told (RunSays old new c.args.graph.now c.args.script.now) Refused REFUSED.now (g.S.Sink.written c.args.out.now) (g.S.Sink.written c.say.new.out) (g.S.Sink.faults c.args.out.now) (g.S.Sink.faults c.say.new.out) c.say.result tt ((c.as_slice.result.now, same, none), refl) c.say.ensures

pub returns : goal.returns
returns g c =
    let old : FilesView = record { told = g.F.Files.told c.args.files.now; faults = g.F.Files.faults c.args.files.now; taken = g.F.Files.taken c.args.files.now } in
    let mid : FilesView = record { told = g.F.Files.told c.read.new.self; faults = g.F.Files.faults c.read.new.self; taken = g.F.Files.taken c.read.new.self } in
    let new : FilesView = record { told = g.F.Files.told c.answer_script.new.files; faults = g.F.Files.faults c.answer_script.new.files; taken = g.F.Files.taken c.answer_script.new.files } in
    let once : ReadOnce old mid = record { same = c.in-Ok.ensures.same; faults = c.in-Ok.ensures.no_fault_is_lost; taken = c.in-Ok.ensures.no_byte_is_lost } in
    let same : IfSome (old.told c.args.graph.now) (λ (b : List ℕ). c.as_slice.result.now ≡ b) = told_more (old.told c.args.graph.now) (λ (b : List ℕ). c.in-Ok.bytes.items ≡ b) (λ (b : List ℕ). c.as_slice.result.now ≡ b) (λ b e. c.as_slice.ensures.value ∙ e) c.in-Ok.ensures.bytes in
    let f = rw c.in-Ok-Some.field-0-is at c.in-Ok-Some.ensures.found in
    let pairs : c.as_slice-in-Ok-Some.result.now ≡ c.in-Ok-Some.pairs = c.as_slice-in-Ok-Some.ensures in
    let is : IsGraph c.as_slice.result.now c.as_slice-in-Ok-Some.result.now = subst (λ (l : List Pair). IsGraph c.as_slice.result.now l) (sym pairs) (record { form = f.0; text = f.1 }) in
    lifted (FileSays mid new c.as_slice-in-Ok-Some.result.now c.args.script.now) (RunSays old new c.args.graph.now c.args.script.now) (g.S.Sink.written c.args.out.now) (g.S.Sink.written c.answer_script.new.out) (g.S.Sink.faults c.args.out.now) (g.S.Sink.faults c.answer_script.new.out) c.answer_script.result (graph_read old mid new c.args.graph.now c.args.script.now c.as_slice.result.now c.as_slice-in-Ok-Some.result.now once same is) c.answer_script.ensures
