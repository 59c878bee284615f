use Rattle.std.proofs.Common.{◌+◌, false, drop, subst}
use Rattle.std.specs.Prelude.{◌&&◌, Err}
use Rattle.std.proofs.lemmas.Result.{err_from_is_err_and}
use Rattle.wg_code.specs.CodeMeaning.{node_does}
use Rattle.wg_code.specs.PartMeaning.{Lanes, Running, parts_run}
use Rattle.wg_code.specs.Quiet.{parts_quiet}
use Rattle.wg_group.specs.Quieter.{functions_quiet, is_quiet_part}
use Rattle.wg_group.specs.Running.{rows_from}
use Rattle.wg_group.proofs.Going.{Rest, parts_next}
use Rattle.wg_group.proofs.Growth.{kept_error, kept_weaker, went_then, went_weaker}
use Rattle.wg_group.proofs.Layers.{parts_at, quiet_within}
use Rattle.wg_group.proofs.parts.+parts.Goals as goal

pub run_parts-returns-in_err-run_part-clause-kept : goal.run_parts-returns-in_err-run_part-clause-kept
run_parts-returns-in_err-run_part-clause-kept g t c =
    let p = err_from_is_err_and c.from_residual.result c.from_residual.ensures.1 in
    let fs = functions_quiet c.args.group.now.code.now.functions in
    rw (p.1, p.2)
    (kept_error (Unit {0}) (Unit {0}) (fs && parts_quiet c.args.parts.now) (g.M.Memory.trace c.args.mem.now) (g.M.Memory.trace c.loop-part.mem) c.in_err-run_part.field-0.0 (g.M.Memory.trace c.run_part.new.mem) c.loop-part.invariant.went
    (kept_weaker {T = Unit {0}} (fs && parts_quiet c.args.parts.now) (fs && is_quiet_part c.part-item.result) (quiet_within fs c.args.parts.now c.loop-part.part-index c.part-item.result c.part-item.is c.loop-part-test.true) (g.M.Memory.trace c.loop-part.mem) (Err c.in_err-run_part.field-0.0) (g.M.Memory.trace c.run_part.new.mem) c.in_err-run_part.ensures.kept))

pub run_parts-loop-part-preserved : goal.run_parts-loop-part-preserved
run_parts-loop-part-preserved g t c =
    let G = c.args.group.now in
    let fs = functions_quiet G.code.now.functions in
    let bodies = node_does false G.code.now G.node.now G.unit.now G.launch.now in
    let whole = parts_run false bodies c.args.parts.now (rows_from 0 G.lanes G.node.now.registers c.args.registers.now) in
    let lanes = rows_from 0 G.lanes G.node.now.registers c.loop-part.registers in
    let went = went_weaker (fs && parts_quiet c.args.parts.now) (fs && is_quiet_part c.part-item.result) (quiet_within fs c.args.parts.now c.loop-part.part-index c.part-item.result c.part-item.is c.loop-part-test.true) (g.M.Memory.trace c.loop-part.mem) (g.M.Memory.trace c.run_part.new.mem) c.in_ok-run_part.ensures.kept in
    record {
      left = parts_next whole c.args.s.now (g.M.Memory.trace c.args.mem.now) bodies c.part-item.result (drop (c.loop-part.part-index + 1) c.args.parts.now) lanes c.loop-part.s (g.M.Memory.trace c.loop-part.mem)
          (subst (λ (m : Lanes → Running Lanes). Rest whole c.args.s.now (g.M.Memory.trace c.args.mem.now) (m lanes) c.loop-part.s (g.M.Memory.trace c.loop-part.mem)) (parts_at bodies c.args.parts.now c.loop-part.part-index c.part-item.result c.part-item.is c.loop-part-test.true) c.loop-part.invariant.left)
          (Unit {0}) c.run_part.new.s (g.M.Memory.trace c.run_part.new.mem) c.in_ok-run_part.field-0 (rows_from 0 G.lanes G.node.now.registers c.run_part.new.registers) went.grows c.in_ok-run_part.ensures.says;
      went = went_then (fs && parts_quiet c.args.parts.now) (g.M.Memory.trace c.args.mem.now) (g.M.Memory.trace c.loop-part.mem) (g.M.Memory.trace c.run_part.new.mem) c.loop-part.invariant.went went;
    }
