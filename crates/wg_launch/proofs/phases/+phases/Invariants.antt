use Rattle.std.proofs.Common.{◌≡◌, ◌≤◌, ◌-◌, take, drop}
use Rattle.wg_semantics.specs.LaunchMeaning.{entry_doing, body_runs}
use Rattle.wg_launch.proofs.LaneRuns.{rest_runs}
use Rattle.wg_launch.proofs.phases.+phases.Given as goal

abbrev pub invariant-run_block-loop-at : goal.invariant-run_block-loop-at
invariant-run_block-loop-at l =
    let doing = entry_doing l.entry.text.now l.entry.function.now l.entry.unit.now l.entry.last in
    record {
      order : l.from ≤ l.at;
      done :
          rest_runs doing (take (l.at - l.from) (drop l.from l.statements)) (drop l.at l.statements) l.lanes l.run.state.world l.run.turns
          ≡ body_runs doing l.statements l.initial.lanes l.initial.run.state.world l.initial.run.turns;
    }
