use Rattle.wg_code.specs.CodeMeaning.{node_does}
use Rattle.std.proofs.Common.{false}
use Rattle.wg_group.proofs.Going.{first_runs_on}
use Rattle.wg_group.proofs.lanes.run_first.Goals as goal

pub returns-clause-says : goal.returns-clause-says
returns-clause-says g c =
    let G = c.args.group.now in
    first_runs_on (node_does false G.code.now G.node.now G.unit.now G.launch.now c.args.body.now) G.lanes G.node.now.registers c.args.registers.now c.run_row.new.registers c.args.s.now (g.M.Memory.trace c.args.mem.now) c.run_row.new.s (g.M.Memory.trace c.run_row.new.mem) (Unit {0})
    c.run_row.result c.if-group-eq0.false c.run_row.ensures.others c.run_row.ensures.says
