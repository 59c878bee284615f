-- From what one stage answers to what the next one says.
use Rattle.std.proofs.Common.{◌≡◌, ℕ, List, Option, refl, sym, subst}
use Rattle.wg_machine.specs.declared.launch.Entry.{Entry}
use Rattle.wg_machine.specs.declared.launch.Sent.{Sent}
use Rattle.wg_machine.specs.declared.shape.Shape.{Shape}
use Rattle.wg_machine.specs.LaunchMeaning.{Meaning}
use Rattle.wg_machine.specs.declared.journal.Done.{Done as DoneNumbers}
use Rattle.wg_tool.specs.declared.answer.Answer.{Answer}
use Rattle.wg_tool.specs.declared.answer.Answer.TheVariants.{Done}
use Rattle.wg_tool.specs.declared.pair.Pair.{Pair}
use Rattle.wg_io.specs.Causes.{AppendsFront}
use Rattle.wg_tool.specs.Answers.{BeginsText}
use Rattle.wg_tool.specs.Headline.{ReportsScript}
use Rattle.wg_tool.specs.Report.{IsReportOfRun, complete_report}
use Rattle.wg_tool.specs.Script.{IsFormScript, script_text}
use Rattle.wg_tool.specs.Sending.{sender, made_of, adds_of}
use Rattle.wg_tool.specs.Stages.{RanSays, ScriptSays}
use Rattle.wg_tool.specs.Wiring.{shape_of, targets_of}

-- a front of the report is written
pub report_begun : (shape : Shape) (made : Meaning) (script : List Sent) (journal es : List Entry) (done : DoneNumbers) (old new : Option (List ℕ)) → IsReportOfRun shape made script (complete_report shape journal done) → es ≡ journal
    → AppendsFront old new (complete_report shape es done) → BeginsText (RanSays shape made script) old new
report_begun shape made script journal es done old new report e front =
    (Done, complete_report shape journal done, (refl, report), subst (λ (j : List Entry). AppendsFront old new (complete_report shape j done)) e front)

report_for : (pairs : List Pair) (shape : Shape) (targets : List (Option ℕ)) (adds : List ℕ) (script : List Sent) (text : List ℕ) → shape ≡ shape_of pairs → targets ≡ targets_of pairs → adds ≡ adds_of pairs → IsReportOfRun shape (sender targets adds) script text → IsReportOfRun (shape_of pairs) (made_of pairs) script text
report_for pairs shape targets adds script text s t a report =
    let one = subst (λ (x : Shape). IsReportOfRun x (sender targets adds) script text) s report in
    let two = subst (λ (x : List (Option ℕ)). IsReportOfRun (shape_of pairs) (sender x adds) script text) t one in
    subst (λ (x : List ℕ). IsReportOfRun (shape_of pairs) (sender (targets_of pairs) x) script text) a two

-- the report of a run is that of the script
pub ran_script : (pairs : List Pair) (bytes : List ℕ) (shape : Shape) (targets : List (Option ℕ)) (adds : List ℕ) (script : List Sent) → shape ≡ shape_of pairs → targets ≡ targets_of pairs → adds ≡ adds_of pairs → IsFormScript pairs script → bytes ≡ script_text pairs script
    → (a : Answer) (text : List ℕ) → RanSays shape (sender targets adds) script a text → ScriptSays pairs bytes a text
ran_script pairs bytes shape targets adds script s t d is e a text h =
    let report = report_for pairs shape targets adds script text s t d h.1 in
    let made : ReportsScript pairs bytes text = record { entries = script; is_script = is; script_is = e; report = report } in
    subst (λ (x : Answer). ScriptSays pairs bytes x text) (sym h.0) made
