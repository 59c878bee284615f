use Rattle.std.proofs.Common.{◌≡◌, [], ap, subst, sym, ◌∙◌}
use Rattle.wg_machine.specs.declared.launch.Limits.{Limits}
use Rattle.wg_machine.specs.declared.shape.Shape.{Shape}
use Rattle.wg_machine.specs.GoodShape.{IsGoodShape}
use Rattle.wg_standing.specs.Core.{CoreView}
use Rattle.wg_standing.specs.Standing.{StandsFor}
use Rattle.wg_tool.specs.Ending.{done_by}
use Rattle.wg_tool.specs.Report.{IsReportOfRun, complete_report}
use Rattle.wg_tool.specs.Running.{IsShort}
use Rattle.wg_tool.specs.SenderLaws.{IsWired}
use Rattle.wg_tool.specs.Sending.{sender}
use Rattle.wg_tool.specs.Wiring.{shape_of}
use Rattle.wg_tool.proofs.GoodShapes.{good_shape}
use Rattle.wg_tool.proofs.RunLemmas.{begun_stands, runs_are_short, report_is, outs_fit}
use Rattle.wg_tool.proofs.run.run_script.Goals as goal

pub run_all-requires-clause-graph : goal.run_all-requires-clause-graph
run_all-requires-clause-graph c = sym (ap (λ (n : CoreView). n.shape) c.in_ok-core.ensures)

pub run_all-requires-clause-short : goal.run_all-requires-clause-short
run_all-requires-clause-short c =
    let senders = c.args.senders.now in
    let made = sender senders.targets senders.adds in
    let is = c.requires.is in
    let wired = subst (λ (s : Shape). IsWired s senders.targets) is senders.wired in
    let short = runs_are_short c.requires.pairs senders.targets senders.adds c.args.entries c.chains_are_short.ensures (good_shape c.requires.pairs c.requires.form) wired c.requires.entries in
    let shape : c.in_ok-core.core.shape ≡ shape_of c.requires.pairs = ap (λ (n : CoreView). n.shape) c.in_ok-core.ensures ∙ is in
    record {
      script = c.args.entries;
      stands = begun_stands made senders.shape c.args.entries c.requires c.in_ok-core.core c.beginnings_stand.ensures c.in_ok-core.ensures;
      short = subst (λ (s : Shape). IsShort s made c.args.entries) (sym shape) short;
    }

pub returns-clause-report : goal.returns-clause-report
returns-clause-report c =
    let senders = c.args.senders.now in
    let made = sender senders.targets senders.adds in
    let core : CoreView = c.run_all.new.core in
    let ran = c.in_ok-run_all.ensures in
    let begun = c.in_ok-core.ensures in
    let shape : core.shape ≡ senders.shape = ran.plan.shape ∙ ap (λ (n : CoreView). n.shape) begun in
    let width : core.width ≡ 1 = ran.plan.width ∙ ap (λ (n : CoreView). n.width) begun in
    let turns : core.limits.turns ≡ 65536 = ap (λ (l : Limits). l.turns) (ran.plan.limits ∙ ap (λ (n : CoreView). n.limits) begun) in
    let good : IsGoodShape core.shape = subst (λ (s : Shape). IsGoodShape s) (sym (shape ∙ c.requires.is)) (good_shape c.requires.pairs c.requires.form) in
    let stands : StandsFor made c.args.entries [] core = ran.stands c.args.entries (begun_stands made senders.shape c.args.entries c.requires c.in_ok-core.core c.beginnings_stand.ensures begun) in
    let r = c.finish.result in
    let report = report_is made c.args.entries core r c.each_once.ensures c.slots_hold_bytes.ensures c.something_has_room.ensures c.idle_is_complete.ensures good stands width turns ran.idle c.finish.ensures.report in
    subst (λ (s : Shape). IsReportOfRun s made c.args.entries (complete_report s r.journal.entries (done_by r))) shape report

pub returns-clause-outs : goal.returns-clause-outs
returns-clause-outs c = outs_fit c.run_all.new.core.next c.finish.result.journal.entries c.finish.ensures.records_fit c.finish.ensures.outs
