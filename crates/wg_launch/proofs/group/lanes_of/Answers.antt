use Rattle.std.proofs.Common.{ap, ◌∙◌}
use Rattle.wg_semantics.specs.LaunchMeaning.{first_values}
use Rattle.wg_launch.proofs.LaneRuns.{lanes_more}
use Rattle.wg_launch.proofs.group.lanes_of.Goals as goal

pub loop-lane-preserved : goal.loop-lane-preserved
loop-lane-preserved c =
    let entry = c.args.entry.now in
    lanes_more (first_values entry.text.now.structs entry.function.now c.args.group entry.threads) c.loop-lane.lane c.args.count c.loop-lane.list _ c.in_ok-variables.variables c.loop-lane-test.true
    (c.in_ok-variables.ensures ∙ ap (λ structs. first_values structs entry.function.now c.args.group entry.threads c.loop-lane.lane) entry.same)
    c.in_ok-push.ensures.ok
    ∙ c.loop-lane.invariant
