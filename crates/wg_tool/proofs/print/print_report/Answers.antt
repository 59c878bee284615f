use Rattle.std.proofs.Common.{Result, Ok, Err}
use Rattle.std.specs.Prelude.{OnErr}
use Rattle.std.proofs.lemmas.Result.{on_err_weaker}
use Rattle.wg_journal.specs.Texts.{launch_lines, done_line}
use Rattle.wg_tool.proofs.WriteLemmas.{front_after, front_of}
use Rattle.wg_tool.proofs.print.print_report.Goals as goal

on_err_any : {T E P : Type 0} (r : Result T E) → P → OnErr r P
on_err_any (Ok v) p = tt
on_err_any (Err e) p = p

pub returns-clause-front : goal.returns-clause-front
returns-clause-front g c =
    on_err_weaker c.print_done.result (front_after _ _ _ (launch_lines c.args.shape.now 0 c.args.entries.now) (done_line c.args.done.now) c.in_ok-print_lines.ensures.whole) c.print_done.ensures.front

pub returns-in_err-print_lines-clause-front : goal.returns-in_err-print_lines-clause-front
returns-in_err-print_lines-clause-front g c =
    on_err_any c.from_residual.result (front_of _ _ (launch_lines c.args.shape.now 0 c.args.entries.now) (done_line c.args.done.now) c.in_err-print_lines.ensures.front)
