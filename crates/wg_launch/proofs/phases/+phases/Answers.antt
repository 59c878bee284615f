use Rattle.std.proofs.Common.{arith, ap, sym, subst, ◌∙◌}
use Rattle.std.proofs.lemmas.Result.{err_from_is_err_and}
use Rattle.wg_semantics.specs.LaunchMeaning.{OnLanes, entry_doing}
use Rattle.wg_evaluation.specs.Says.{Says}
use Rattle.wg_launch.proofs.LaneRuns.{rest_runs, phases_on, phases_plain}
use Rattle.wg_launch.proofs.Parts.{runs_block, choice_stops, choice_first, choice_other}
use Rattle.wg_launch.proofs.phases.+phases.Goals as goal
use Rattle.wg_launch.proofs.phases.+phases.Goals.{run_block-then-is_phase+in-Ok+in-Ok-run_alone, run_block-else-is_phase}

pub run_alone-returns-in_err-tested-in-If : goal.run_alone-returns-in_err-tested-in-If
run_alone-returns-in_err-tested-in-If t c =
    let doing = entry_doing c.args.entry.now.text.now c.args.entry.now.function.now c.args.entry.now.unit.now c.args.entry.now.last in
    let p = err_from_is_err_and c.from_residual.result c.from_residual.ensures.1 in
    rw (p.1, p.2)
    (choice_stops doing c.args.s.now c.args.lanes c.args.run.now.state.world c.args.run.now.turns c.in-If.attributes c.in-If.collective c.in-If.test c.in-If.then c.in-If.other c.in-If.is c.if-not-collective.false c.in_err-tested-in-If.field-0.0 c.in_err-tested-in-If.ensures)

pub run_alone-returns-in-Block : goal.run_alone-returns-in-Block
run_alone-returns-in-Block t c =
    let doing = entry_doing c.args.entry.now.text.now c.args.entry.now.function.now c.args.entry.now.unit.now c.args.entry.now.last in
    subst (λ o. Says o c.run_block.result c.run_block.new.run.state.world c.run_block.new.run.turns)
    (runs_block doing c.args.s.now c.args.lanes c.args.run.now.state.world c.args.run.now.turns c.in-Block.body c.as_slice.result.now c.as_slice.ensures c.in-Block.is)
    c.run_block.ensures

pub run_alone-returns-then-tested-ne0 : goal.run_alone-returns-then-tested-ne0
run_alone-returns-then-tested-ne0 t c =
    let doing = entry_doing c.args.entry.now.text.now c.args.entry.now.function.now c.args.entry.now.unit.now c.args.entry.now.last in
    subst (λ o. Says o c.run_alone.result c.run_alone.new.run.state.world c.run_alone.new.run.turns)
    (choice_first doing c.args.s.now c.args.lanes c.args.run.now.state.world c.args.run.now.turns c.in-If.attributes c.in-If.collective c.in-If.test c.in-If.then c.in-If.other c.in-If.is c.if-not-collective.false c.in_ok-tested-in-If.tested.0 c.in_ok-tested-in-If.tested.1 c.test_first.new.run.state.world c.test_first.new.run.turns c.in_ok-tested-in-If.ensures c.get.result.now c.get.ensures c.if-tested-ne0.true)
    c.run_alone.ensures

pub run_alone-returns-else-tested-ne0 : goal.run_alone-returns-else-tested-ne0
run_alone-returns-else-tested-ne0 t c =
    let doing = entry_doing c.args.entry.now.text.now c.args.entry.now.function.now c.args.entry.now.unit.now c.args.entry.now.last in
    subst (λ o. Says o c.run_other.result c.run_other.new.run.state.world c.run_other.new.run.turns)
    (choice_other doing c.args.s.now c.args.lanes c.args.run.now.state.world c.args.run.now.turns c.in-If.attributes c.in-If.collective c.in-If.test c.in-If.then c.in-If.other c.in-If.is c.if-not-collective.false c.in_ok-tested-in-If.tested.0 c.in_ok-tested-in-If.tested.1 c.test_first.new.run.state.world c.test_first.new.run.turns c.in_ok-tested-in-If.ensures c.if-tested-ne0.false)
    c.run_other.ensures

pub run_block-loop-at-preserved : goal.run_block-loop-at-preserved
run_block-loop-at-preserved t c =
    let doing = entry_doing c.args.entry.now.text.now c.args.entry.now.function.now c.args.entry.now.unit.now c.args.entry.now.last in
    let body = c.args.statements.now in
    elim c.if-is_phase.branch [
      | run_block-then-is_phase+in-Ok+in-Ok-run_alone w ↦
          rw (w.from-is, w.lanes-is, w.run-is) record {
            order = omega arith;
            done = sym (phases_on doing body c.loop-at.from c.loop-at.at c.index-statements-at.result c.loop-at-test.true c.index-statements-at.is _ _ _ (sym (c.is_phase.ensures doing) ∙ w.if-is_phase.true) _ _ _ w.in-Ok.ensures _ _ _ w.index-statements-at-then-is_phase.result w.index-statements-at-then-is_phase.is w.in-Ok-run_alone.ensures) ∙ c.loop-at.invariant.done;
          }
      | run_block-else-is_phase w ↦
          rw (w.from-is, w.lanes-is, w.run-is) record {
            order = omega (arith, c.loop-at.invariant.order);
            done = ap (λ (m : OnLanes). m c.loop-at.lanes c.loop-at.run.state.world c.loop-at.run.turns) (phases_plain doing body c.loop-at.from c.loop-at.at c.index-statements-at.result c.loop-at-test.true c.index-statements-at.is c.loop-at.invariant.order (sym (c.is_phase.ensures doing) ∙ w.if-is_phase.false)) ∙ c.loop-at.invariant.done;
          }
    ]
