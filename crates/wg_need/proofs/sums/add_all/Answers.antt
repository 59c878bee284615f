use Rattle.std.proofs.Common.{arith}
use Rattle.wg_need.proofs.Reaching.{one_added, other_added}
use Rattle.wg_need.proofs.sums.add_all.Goals.{then-output-budget+in_ok-add_targets, else-output-budget}
use Rattle.wg_need.proofs.sums.add_all.Goals as goal

pub loop-output-preserved : goal.loop-output-preserved
loop-output-preserved c = elim c.if-output-budget.branch [
  | then-output-budget+in_ok-add_targets w ↦
      let e = w.in_ok-add_targets.ensures in
      let on = rw w.as_slice.ensures at e.on in
      rw (w.seen-is, w.needs-is)
      (one_added c.args.budget c.args.start _ c.args.outputs.now c.loop-output.output-index c.output-item.result c.args.needs.now.items c.loop-output.needs.items _ c.loop-output.seen _
      c.loop-output-test.true c.output-item.is (omega (arith, w.if-output-budget.true)) c.loop-output.invariant e.open e.kept
      (λ some v below. on some v (omega (arith, below, c.loop-output.auto.seen))) (λ v below. e.sums v (omega (arith, below, c.loop-output.auto.seen))))
  | else-output-budget w ↦
      rw (w.seen-is, w.needs-is)
      (other_added c.args.budget c.args.start _ c.args.outputs.now c.loop-output.output-index c.output-item.result c.args.needs.now.items c.loop-output.needs.items c.loop-output.seen
      c.loop-output-test.true c.output-item.is (λ e. absurd (omega (arith, w.if-output-budget.false, e))) c.loop-output.invariant)
]
