use Rattle.std.proofs.lemmas.Result.{err_from_is_err_and}
use Rattle.std.proofs.Common.{ap, sym, ◌∙◌, subst}
use Rattle.wg_semantics.specs.LaunchMeaning.{entry_does, lanes_run}
use Rattle.wg_evaluation.specs.Says.{Stops}
use Rattle.wg_launch.proofs.LaneRuns.{put_before, lanes_next, lanes_stop}
use Rattle.wg_launch.proofs.lanes.run_lanes.Goals as goal

pub returns-in_err-lane : goal.returns-in_err-lane
returns-in_err-lane c =
    let bodies = entry_does c.args.entry.now.text.now c.args.entry.now.function.now c.args.entry.now.unit.now c.args.entry.now.last c.args.statements.now in
    let p = err_from_is_err_and c.from_residual.result c.from_residual.ensures.1 in
    rw (p.1, p.2)
    (subst (λ o. Stops o c.in_err-lane.field-0.0) c.loop-lane.invariant (lanes_stop bodies c.loop-lane.number c.in-Some.lane _ _ c.loop-lane.done _ _ c.in_err-lane.field-0.0 c.in-Some.ensures.steps.0 c.in_err-lane.ensures))

pub loop-lane-preserved : goal.loop-lane-preserved
loop-lane-preserved c =
    let bodies = entry_does c.args.entry.now.text.now c.args.entry.now.function.now c.args.entry.now.unit.now c.args.entry.now.last c.args.statements.now in
    ap (λ done. put_before done (lanes_run bodies c.in-Some-checked_add.next c.next.new.self.rest.items c.run_lane.new.run.state.world c.run_lane.new.run.turns)) c.in_ok-push.ensures.ok
    ∙ sym (lanes_next bodies c.loop-lane.number c.in-Some-checked_add.next c.in-Some.lane c.in_ok-lane.lane _ _ c.loop-lane.done _ _ _ _ c.in-Some.ensures.steps.0 c.in-Some-checked_add.ensures.1 c.in_ok-lane.ensures)
    ∙ c.loop-lane.invariant
