use Rattle.std.proofs.Common.{inr, refl, subst, sym}
use Rattle.wg_machine.specs.declared.journal.Done.{Done}
use Rattle.wg_tool.specs.Report.{IsReportOfRun, complete_report}
use Rattle.wg_tool.specs.Sending.{sender}
use Rattle.wg_tool.proofs.StageLemmas.{report_begun}
use Rattle.wg_tool.proofs.stages.run_entries.Goals as goal

pub returns : goal.returns
returns g c =
    let senders = c.args.senders.now in
    let made = sender senders.targets senders.adds in
    let entries = c.in-Ok.report.journal.entries in
    let done = c.done_of-done in
    let report = subst (λ (d : Done). IsReportOfRun senders.shape made c.args.entries (complete_report senders.shape entries d)) (sym done.ensures) c.in-Ok.ensures.report in
    ((rw c.in-Err-Memory.field-0-is at c.in-Err-Memory.ensures.memory) refl, inr (report_begun senders.shape made c.args.entries entries c.as_slice.result.now done.result _ _ report c.as_slice.ensures c.in-Err-Memory.ensures.front))
