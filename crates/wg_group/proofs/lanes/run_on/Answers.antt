use Rattle.std.proofs.Common.{false, refl, subst}
use Rattle.std.specs.Prelude.{IsTrue, Err, Ok}
use Rattle.std.proofs.lemmas.Result.{err_from_is_err_and}
use Rattle.wg_code.specs.CodeMeaning.{node_does}
use Rattle.wg_code.specs.Functions.{in_function, callees}
use Rattle.wg_code.specs.Lane.{Around}
use Rattle.wg_code.specs.OpMeaning.{ops_do}
use Rattle.wg_control.specs.Silence.{reads_nothing, LogsNothing}
use Rattle.wg_operations.specs.Says.{Runs}
use Rattle.wg_operations.specs.declared.end.End.{End}
use Rattle.wg_group.proofs.Going.{lane_ends, lane_stops}
use Rattle.wg_group.proofs.Growth.{body_went, body_failed}
use Rattle.wg_group.proofs.lanes.run_on.Goals as goal

pub returns-in_err-run_body-clause-says : goal.returns-in_err-run_body-clause-says
returns-in_err-run_body-clause-says g c =
    let p = err_from_is_err_and c.from_residual.result c.from_residual.ensures.1 in
    let around = c.around-around.ensures c.args.group.now.launch.now refl refl refl in
    rw (p.1, p.2)
    (lane_stops (node_does false c.args.group.now.code.now c.args.group.now.node.now c.args.group.now.unit.now c.args.group.now.launch.now c.args.body.now c.args.lane) c.args.registers.now c.args.s.now (g.M.Memory.trace c.args.mem.now) c.run_body.new.registers c.run_body.new.s (g.M.Memory.trace c.run_body.new.mem) (Unit {0}) c.in_err-run_body.field-0.0
    (subst (λ (A : Around). Runs (ops_do false A (callees false (in_function A) 33) c.args.body.now) c.args.registers.now c.args.s.now (g.M.Memory.trace c.args.mem.now) (Err c.in_err-run_body.field-0.0) c.run_body.new.registers c.run_body.new.s (g.M.Memory.trace c.run_body.new.mem)) around c.in_err-run_body.ensures.says))

pub returns-in_err-run_body-clause-kept : goal.returns-in_err-run_body-clause-kept
returns-in_err-run_body-clause-kept g c =
    let p = err_from_is_err_and c.from_residual.result c.from_residual.ensures.1 in
    let around = c.around-around.ensures c.args.group.now.launch.now refl refl refl in
    rw (p.1, p.2)
    (body_failed (Unit {0}) (reads_nothing c.args.group.now.code.now.functions c.args.body.now) (g.M.Memory.trace c.args.mem.now) c.in_err-run_body.field-0.0 (g.M.Memory.trace c.run_body.new.mem) c.in_err-run_body.ensures.grows
    (subst (λ (A : Around). IsTrue (reads_nothing A.functions c.args.body.now) → LogsNothing {A = End} (Err c.in_err-run_body.field-0.0) (g.M.Memory.trace c.args.mem.now) (g.M.Memory.trace c.run_body.new.mem)) around c.in_err-run_body.ensures.silent))

pub returns-clause-says : goal.returns-clause-says
returns-clause-says g c =
    let around = c.around-around.ensures c.args.group.now.launch.now refl refl refl in
    lane_ends (node_does false c.args.group.now.code.now c.args.group.now.node.now c.args.group.now.unit.now c.args.group.now.launch.now c.args.body.now c.args.lane) c.args.registers.now c.args.s.now (g.M.Memory.trace c.args.mem.now) c.run_body.new.registers c.run_body.new.s (g.M.Memory.trace c.run_body.new.mem) (Unit {0}) c.in_ok-run_body.field-0 (tt {0})
    (subst (λ (A : Around). Runs (ops_do false A (callees false (in_function A) 33) c.args.body.now) c.args.registers.now c.args.s.now (g.M.Memory.trace c.args.mem.now) (Ok c.in_ok-run_body.field-0) c.run_body.new.registers c.run_body.new.s (g.M.Memory.trace c.run_body.new.mem)) around c.in_ok-run_body.ensures.says)

pub returns-clause-kept : goal.returns-clause-kept
returns-clause-kept g c =
    let around = c.around-around.ensures c.args.group.now.launch.now refl refl refl in
    body_went (reads_nothing c.args.group.now.code.now.functions c.args.body.now) (g.M.Memory.trace c.args.mem.now) c.in_ok-run_body.field-0 (g.M.Memory.trace c.run_body.new.mem) c.in_ok-run_body.ensures.grows
    (subst (λ (A : Around). IsTrue (reads_nothing A.functions c.args.body.now) → LogsNothing {A = End} (Ok c.in_ok-run_body.field-0) (g.M.Memory.trace c.args.mem.now) (g.M.Memory.trace c.run_body.new.mem)) around c.in_ok-run_body.ensures.silent)
