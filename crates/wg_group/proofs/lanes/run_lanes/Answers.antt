use Rattle.std.proofs.Common.{false, Some}
use Rattle.std.proofs.lemmas.Result.{err_from_is_err_and}
use Rattle.wg_code.specs.CodeMeaning.{node_does}
use Rattle.wg_control.specs.Silence.{reads_nothing}
use Rattle.wg_group.specs.Running.{row_at, rows_from}
use Rattle.wg_group.proofs.Going.{lanes_next, lanes_stop}
use Rattle.wg_group.proofs.Growth.{went_then}
use Rattle.wg_group.proofs.lanes.run_lanes.Goals as goal

pub returns-in_err-run_row-clause-says : goal.returns-in_err-run_row-clause-says
returns-in_err-run_row-clause-says g c =
    let G = c.args.group.now in
    let p = err_from_is_err_and c.from_residual.result c.from_residual.ensures.1 in
    rw (p.1, p.2)
    (lanes_stop (node_does false G.code.now G.node.now G.unit.now G.launch.now c.args.body.now) G.lanes G.node.now.registers c.args.registers.now c.args.s.now (g.M.Memory.trace c.args.mem.now)
    c.loop-lane.lane c.loop-lane.registers c.loop-lane.s (g.M.Memory.trace c.loop-lane.mem) c.loop-lane-test.true c.loop-lane.invariant.left
    (Unit {0}) (reads_nothing G.code.now.functions c.args.body.now) c.in_err-run_row.field-0.0 (Some (row_at G.node.now.registers c.loop-lane.lane c.run_row.new.registers)) (Some (rows_from 0 G.lanes G.node.now.registers c.run_row.new.registers)) c.run_row.new.s c.run_row.new.s (g.M.Memory.trace c.run_row.new.mem)
    c.in_err-run_row.ensures.kept c.in_err-run_row.ensures.says)

pub loop-lane-preserved : goal.loop-lane-preserved
loop-lane-preserved g c =
    let G = c.args.group.now in
    record {
      left = lanes_next (node_does false G.code.now G.node.now G.unit.now G.launch.now c.args.body.now) G.lanes G.node.now.registers c.args.registers.now c.args.s.now (g.M.Memory.trace c.args.mem.now)
          c.loop-lane.lane c.loop-lane.registers c.loop-lane.s (g.M.Memory.trace c.loop-lane.mem) c.loop-lane-test.true c.loop-lane.invariant.left
          (Unit {0}) c.in_ok-run_row.field-0 c.run_row.new.registers c.run_row.new.s (g.M.Memory.trace c.run_row.new.mem) c.in_ok-run_row.ensures.kept.grows c.run_row.ensures.others c.in_ok-run_row.ensures.says;
      went = went_then (reads_nothing G.code.now.functions c.args.body.now) (g.M.Memory.trace c.args.mem.now) (g.M.Memory.trace c.loop-lane.mem) (g.M.Memory.trace c.run_row.new.mem) c.loop-lane.invariant.went c.in_ok-run_row.ensures.kept;
    }
