use Rattle.std.proofs.Common.{false}
use Rattle.wg_code.specs.CodeMeaning.{node_does}
use Rattle.wg_code.specs.PartMeaning.{lanes_run}
use Rattle.wg_control.specs.Silence.{reads_nothing}
use Rattle.wg_group.specs.Running.{rows_from, Went}
use Rattle.wg_group.proofs.Going.{Rest, Left}
use Rattle.wg_group.proofs.lanes.run_lanes.Given as goal

abbrev pub invariant-loop-lane : goal.invariant-loop-lane
invariant-loop-lane g l =
    let bodies = node_does false l.group.code.now l.group.node.now l.group.unit.now l.group.launch.now l.body in
    record {
      left :
          Rest (lanes_run false bodies 0 (rows_from 0 l.group.lanes l.group.node.now.registers l.initial.registers)) l.initial.s (g.M.Memory.trace l.initial.mem)
          (Left bodies l.lane l.group.lanes l.group.node.now.registers l.registers) l.s (g.M.Memory.trace l.mem);
      went : Went (reads_nothing l.group.code.now.functions l.body) (g.M.Memory.trace l.initial.mem) (g.M.Memory.trace l.mem);
    }
