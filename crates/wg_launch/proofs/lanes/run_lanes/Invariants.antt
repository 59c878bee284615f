use Rattle.std.proofs.Common.{◌≡◌}
use Rattle.wg_semantics.specs.LaunchMeaning.{entry_does, lanes_run}
use Rattle.wg_launch.proofs.LaneRuns.{put_before}
use Rattle.wg_launch.proofs.lanes.run_lanes.Given as goal

abbrev pub invariant-loop-lane : goal.invariant-loop-lane
invariant-loop-lane l =
    let bodies = entry_does l.entry.text.now l.entry.function.now l.entry.unit.now l.entry.last l.statements in
    put_before l.done (lanes_run bodies l.number l.lane-iterator.rest.items l.run.state.world l.run.turns) ≡ lanes_run bodies 0 l.fn.lanes l.initial.run.state.world l.initial.run.turns
