use Rattle.std.proofs.Common.{◌≤◌, ◌+◌, refl, ap, sym, subst, ◌∙◌}
use Rattle.wg_words.specs.Each.{Each}
use Rattle.wg_machine.specs.declared.journal.Journal.{Journal}
use Rattle.wg_machine.specs.declared.launch.Entry.{Entry}
use Rattle.wg_standing.specs.Core.{CoreView}
use Rattle.wg_engine.specs.declared.report.Report.{Report}
use Rattle.wg_engine.specs.Ending.{IsReport, bare_journal}
use Rattle.wg_engine.proofs.Endings.{ends_as}
use Rattle.wg_engine.proofs.Views.{Own, core_with}
use Rattle.wg_engine.proofs.engine.Core.finish.Goals as goal

pub returns-clause-report : goal.returns-clause-report
returns-clause-report g c =
    let s = c.self.inside in
    let k : CoreView = g.K.Keeping.seen s.keep in
    let w : Own = record { buffers = s.buffers; denied = s.denied; peak = s.peak; kept = s.kept; spent = s.spent } in
    let report : Report = record { journal = c.without_tail.result; records = c.next-records.result; denied = s.denied; peak = s.peak; bytes = c.planned-bytes.result; end = c.end_of-end.result; limits = c.limits-limits.result.now; buffers = s.buffers } in
    let is : IsReport (core_with k w) report =
    record {
      journal = c.without_tail.ensures ∙ ap bare_journal c.into_journal.ensures;
      records = c.next-records.ensures;
      denied = refl;
      peak = refl;
      bytes = c.planned-bytes.ensures;
      end = ends_as k w c.end_of-end.result c.self.invariant c.end_of-end.ensures;
      limits = c.limits-limits.ensures;
      buffers = refl;
    } in
    subst (λ (n : CoreView). IsReport n report) c.self.view_is is

pub returns-clause-outs : goal.returns-clause-outs
returns-clause-outs g c =
    let s = c.self.inside in
    let k : CoreView = g.K.Keeping.seen s.keep in
    let w : Own = record { buffers = s.buffers; denied = s.denied; peak = s.peak; kept = s.kept; spent = s.spent } in
    subst (λ (j : Journal). Each (λ (e : Entry). e.first_out + e.outs ≤ c.args.self.next) j.entries) (sym (c.without_tail.ensures ∙ ap bare_journal c.into_journal.ensures)) (subst (λ (n : CoreView). Each (λ (e : Entry). e.first_out + e.outs ≤ n.next) k.journal) c.self.view_is c.self.invariant.born)
