-- Where nothing fails, the whole report is written.
use Rattle.std.proofs.Common.{◌≡◌, ℕ, ◌<◌, List, [], ◌∷◌, length, Option, Some, refl, ap, sym, ◌∙◌, subst, arith, inl, inr, drop}
use Rattle.std.specs.Prelude.{IfSome, codes}
use Rattle.wg_io.specs.Causes.{Rose, RoseOnce}
use Rattle.wg_machine.specs.declared.launch.Sent.{Sent}
use Rattle.wg_tool.specs.declared.answer.Answer.{Answer}
use Rattle.wg_tool.specs.declared.answer.Answer.TheVariants.{Done, Refused, Usage, BadScript, ReadFault, WriteFault, OutOfMemory, TooLong}
use Rattle.wg_tool.specs.declared.answer.Input.TheVariants as input
use Rattle.wg_words.specs.declared.limits.TheConstants.{MOST_FILE_BYTES}
use Rattle.wg_tool.specs.declared.pair.Pair.{Pair}
use Rattle.wg_tool.specs.Answers.{Concludes, status_of}
use Rattle.wg_tool.specs.FirstForm.{graph_text, IsFirstForm, IsNoGraph}
use Rattle.wg_tool.specs.Headline.{FilesView, SinkView, AreRun, Reports, IsBadScript, OfFile, OfBoth, RunSays, CommandSays, Headline, IsFineRun, Completes}
use Rattle.wg_tool.specs.Report.{IsReportOfRun}
use Rattle.wg_tool.specs.Script.{script_text, IsFormScript}
use Rattle.wg_tool.specs.Sending.{made_of}
use Rattle.wg_tool.specs.Wiring.{shape_of}
use Rattle.wg_tool.proofs.FormLemmas.{graph_once}
use Rattle.wg_tool.proofs.ScriptLemmas.{script_once}

of_told : (o : Option (List ℕ)) (x : List ℕ) (P : List ℕ → Type 0) → o ≡ Some x → IfSome o P → P x
of_told o x P e h = rw e at h

-- the words name one graph and one script
names_once : (words : List (List ℕ)) (g s graph script : List ℕ) → AreRun words g s → AreRun words graph script → (g ≡ graph) × (s ≡ script)
names_once words g s graph script p q =
    let both : codes "run" ∷ g ∷ s ∷ [] ≡ codes "run" ∷ graph ∷ script ∷ [] = sym p ∙ q in
    let tails : g ∷ s ∷ [] ≡ graph ∷ script ∷ [] = ap (λ (l : List (List ℕ)). drop 1 l) both in
    (cc, cc)

-- what is said of the words of a run
run_says : (words : List (List ℕ)) (old new : FilesView) (graph script : List ℕ) (a : Answer) (text : List ℕ) → AreRun words graph script → CommandSays words old new a text → RunSays old new graph script a text
run_says words old new graph script a text run (inl h) = absurd (h.0 graph script run)
run_says words old new graph script a text run (inr h) =
    let n = names_once words h.0 h.1 graph script h.2 run in
    subst (λ (s : List ℕ). RunSays old new graph s a text) n.1 (subst (λ (g : List ℕ). RunSays old new g h.1 a text) n.0 h.3)

of_file : (files : FilesView) (name x : List ℕ) (P : List ℕ → Type 0) → files.told name ≡ Some x → OfFile files name P → P x
of_file files name x P e h = subst P (of_told (files.told name) x (λ (b : List ℕ). h.0 ≡ b) e h.1) h.2

rose_once : (a b : ℕ) → RoseOnce a b → Rose a b
rose_once a b h = omega arith

both_told : (old : FilesView) (graph script g s : List ℕ) (P : List ℕ → List ℕ → Type 0) → old.told graph ≡ Some g → old.told script ≡ Some s → OfBoth old graph script P → P g s
both_told old graph script g s P p q h =
    of_file old script s (λ (y : List ℕ). P g y) q (of_file old graph g (λ (x : List ℕ). OfFile old script (λ (y : List ℕ). P x y)) p h)

same_report : (pairs : List Pair) (entries : List Sent) (text : List ℕ) → IsFirstForm pairs → IsFormScript pairs entries → Reports (graph_text pairs) (script_text pairs entries) text → IsReportOfRun (shape_of pairs) (made_of pairs) entries text
same_report pairs entries text form is r =
    let same : r.pairs ≡ pairs = graph_once r.pairs pairs r.is_graph.form.each form.each (sym r.is_graph.text) in
    let script : (ps : List Pair) → ps ≡ pairs → IsFormScript ps r.report.entries → script_text pairs entries ≡ script_text ps r.report.entries → IsReportOfRun (shape_of ps) (made_of ps) r.report.entries text → IsReportOfRun (shape_of pairs) (made_of pairs) entries text = λ ps e s t report.
    let s' : IsFormScript pairs r.report.entries = subst (λ (l : List Pair). IsFormScript l r.report.entries) e s in
    let t' : script_text pairs entries ≡ script_text pairs r.report.entries = subst (λ (l : List Pair). script_text pairs entries ≡ script_text l r.report.entries) e t in
    let one : r.report.entries ≡ entries = script_once pairs r.report.entries entries form s'.each is.each (sym t') in
    subst (λ (es : List Sent). IsReportOfRun (shape_of pairs) (made_of pairs) es text) one (subst (λ (l : List Pair). IsReportOfRun (shape_of l) (made_of l) r.report.entries text) e report) in
    script r.pairs same r.report.is_script r.report.script_is r.report.report

not_bad : (pairs : List Pair) (entries : List Sent) → IsFirstForm pairs → IsFormScript pairs entries → IsBadScript (graph_text pairs) (script_text pairs entries) → ⊥
not_bad pairs entries form is bad =
    let same : bad.pairs ≡ pairs = graph_once bad.pairs pairs bad.is_graph.form.each form.each (sym bad.is_graph.text) in
    let entries_are : IsFormScript bad.pairs entries = subst (λ (l : List Pair). IsFormScript l entries) (sym same) is in
    bad.none entries entries_are (ap (λ (l : List Pair). script_text l entries) (sym same))

-- no answer but the whole report and want of memory comes in a fine run
pub complete : (words : List (List ℕ)) (old new : FilesView) (before now : SinkView) (status : ℕ) (pairs : List Pair) (entries : List Sent) → Headline words old new before now status → IsFineRun words old new before now pairs entries → Completes before now pairs entries status
complete words old new before now status pairs entries h f = by h.0 h.1 h.2
  where
    by : (given : Answer) → status ≡ status_of given → Concludes (CommandSays words old new) before.written now.written before.faults now.faults given → Completes before now pairs entries status
    by WriteFault e k = absurd (f.all_written (rose_once before.faults now.faults k.0))
    by OutOfMemory e k = inr e
    by Done e k =
        let r = run_says words old new f.graph f.script Done k.0 f.run k.1 in
        let reports = both_told old f.graph f.script (graph_text pairs) (script_text pairs entries) (λ (g s : List ℕ). Reports g s k.0) f.graph_told f.script_told r in
        inl (e, (k.0, same_report pairs entries k.0 f.form f.is_script reports, k.2))
    by Refused e k =
        let r = run_says words old new f.graph f.script Refused k.0 f.run k.1 in
        absurd (of_file old f.graph (graph_text pairs) IsNoGraph f.graph_told r.0 pairs f.form refl)
    by Usage e k = absurd (run_says words old new f.graph f.script Usage k.0 f.run k.1)
    by BadScript e k =
        let r = run_says words old new f.graph f.script BadScript k.0 f.run k.1 in
        absurd (not_bad pairs entries f.form f.is_script (both_told old f.graph f.script (graph_text pairs) (script_text pairs entries) IsBadScript f.graph_told f.script_told r.0))
    by (ReadFault input.Graph) e k = let r = run_says words old new f.graph f.script (ReadFault input.Graph) k.0 f.run k.1 in absurd (f.graph_read r.rose)
    by (ReadFault input.Script) e k = let r = run_says words old new f.graph f.script (ReadFault input.Script) k.0 f.run k.1 in absurd (f.script_read r.rose)
    by (TooLong input.Graph) e k =
        let r = run_says words old new f.graph f.script (TooLong input.Graph) k.0 f.run k.1 in
        let long = of_told (old.told f.graph) (graph_text pairs) (λ (b : List ℕ). MOST_FILE_BYTES < length b) f.graph_told r.longer in
        let fits = f.graph_fits in
        absurd (omega arith)
    by (TooLong input.Script) e k =
        let r = run_says words old new f.graph f.script (TooLong input.Script) k.0 f.run k.1 in
        let long = of_told (old.told f.script) (script_text pairs entries) (λ (b : List ℕ). MOST_FILE_BYTES < length b) f.script_told r.longer in
        let fits = f.script_fits in
        absurd (omega arith)
