use Rattle.std.proofs.Common.{◌≡◌, sym, ◌∙◌, arith}
use Rattle.wg_need.proofs.Reaching.{none_added, none_before, no_run, run_more, run_ends, past_cursor, budget_at, budget_read, one_added, all_added}
use Rattle.wg_need.proofs.sums.add_run.Goals as goal

pub loop-at-init : goal.loop-at-init
loop-at-init c = (
  no_run c.args.outputs.now c.args.budget.number c.args.from,
  none_added c.args.budget c.args.start _ _ c.args.seen.now c.args.needs.now.items c.requires.open (none_before c.args.outputs.now c.args.budget.number c.args.from c.requires.cursor),
)

pub loop-at-preserved : goal.loop-at-preserved
loop-at-preserved c =
    let e = c.in_ok-add_targets.ensures in
    let o = c.index-outputs-at-in-loop-at.result in
    let is = c.index-outputs-at-in-loop-at.is in
    let on = rw (c.as_slice.ensures, ← is) at e.on in
    let same : o.budget ≡ c.args.budget.number =
    sym (budget_at c.args.outputs.now c.loop-at.at c.index-outputs-at.result o c.loop-at-test.true is) ∙ omega (arith, c.if-outputs-at.true)
    in (
      run_more c.args.outputs.now c.args.budget.number c.args.from c.loop-at.at o c.loop-at-test.true is same c.loop-at.invariant.0,
      one_added c.args.budget c.args.start _ c.args.outputs.now c.loop-at.at o c.args.needs.now.items c.loop-at.needs.items _ c.loop-at.seen _
          c.loop-at-test.true is same c.loop-at.invariant.1 e.open e.kept
          (λ some v below. on some v (omega (arith, below, c.loop-at.auto.seen))) (λ v below. e.sums v (omega (arith, below, c.loop-at.auto.seen))),
    )

pub returns-else-outputs-at-clause-sums : goal.returns-else-outputs-at-clause-sums
returns-else-outputs-at-clause-sums c =
    let ends = run_ends c.args.outputs.now c.args.budget.number c.args.from c.loop-at.at c.requires.ordered c.requires.cursor c.loop-at.invariant.0
    (λ h d e. absurd (omega (arith, c.if-outputs-at.false, e, budget_read c.args.outputs.now c.loop-at.at d c.index-outputs-at.result h)))
    in
    (all_added c.args.budget c.args.start _ c.args.outputs.now c.loop-at.at c.args.needs.now.items c.loop-at.seen c.loop-at.needs.items
    (past_cursor c.args.outputs.now c.args.budget.number c.loop-at.at ends) c.loop-at.invariant.1).sums
