use Rattle.std.proofs.Common.{Some, ◌∙◌}
use Rattle.std.proofs.lemmas.Result.{err_from_is_err_and}
use Rattle.wg_group.specs.Running.{rows_from}
use Rattle.wg_group.proofs.Ending.{launch_made, launch_stops}
use Rattle.wg_group.proofs.group.run_node.Goals as goal

pub returns-in_err-run_parts-clause-says : goal.returns-in_err-run_parts-clause-says
returns-in_err-run_parts-clause-says g c =
    let p = err_from_is_err_and c.from_residual-in_err-run_parts.result c.from_residual-in_err-run_parts.ensures.1 in
    let code = c.args.code.now in
    let node = c.args.node.now in
    rw (p.1, p.2)
    (launch_stops code node c.args.unit.now c.args.launch.now c.args.turns c.in-Some.lanes c.deref_mut.result.now c.in_ok-shared.shared c.in_ok-world.world c.as_slice-parts.result.now
    c.in-Some.ensures (c.deref_mut.ensures.value ∙ c.in_ok-registers.ensures) c.in_ok-shared.ensures c.in_ok-world.ensures c.as_slice-parts.ensures
    (Unit {0}) c.in_err-run_parts.field-0.0 (g.M.Memory.trace c.args.mem.now) (Some (rows_from 0 c.in-Some.lanes node.registers c.run_parts.new.registers)) c.run_parts.new.s (g.M.Memory.trace c.run_parts.new.mem) c.in_err-run_parts.ensures.says)

pub returns-clause-says : goal.returns-clause-says
returns-clause-says g c =
    let code = c.args.code.now in
    let node = c.args.node.now in
    launch_made code node c.args.unit.now c.args.launch.now c.args.turns c.in-Some.lanes c.deref_mut.result.now c.in_ok-shared.shared c.in_ok-world.world c.as_slice-parts.result.now
    c.in-Some.ensures (c.deref_mut.ensures.value ∙ c.in_ok-registers.ensures) c.in_ok-shared.ensures c.in_ok-world.ensures c.as_slice-parts.ensures
    (Unit {0}) c.in_ok-run_parts.field-0 (g.M.Memory.trace c.args.mem.now) (rows_from 0 c.in-Some.lanes node.registers c.run_parts.new.registers) c.run_parts.new.s (g.M.Memory.trace c.run_parts.new.mem) c.in_ok-made_of.field-0
    c.in_ok-run_parts.ensures.says c.in_ok-made_of.ensures
