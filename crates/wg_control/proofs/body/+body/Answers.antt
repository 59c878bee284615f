use Rattle.std.proofs.lemmas.Result.{err_from_is_err_and}
use Rattle.std.proofs.Math.ListN.{drop_of_length-le}
use Rattle.std.proofs.lemmas.List.{take_rest}
use Rattle.std.proofs.Common.{◌≡◌, ℕ, suc, ◌+◌, ◌-◌, ◌*◌, false, List, length, drop, sym, ap, ◌∙◌, arith}
use Rattle.std.specs.Prelude.{◌&&◌, Ok, Err}
use Rattle.std.specs.Option.{option_copied}
use Rattle.wg_machine.specs.Agreement.{now_of}
use Rattle.wg_code.specs.Flow.{loop as looped, call as called, through}
use Rattle.wg_code.specs.Functions.{in_function, callees, body_runs}
use Rattle.wg_code.specs.Lane.{set_all}
use Rattle.wg_code.specs.OpMeaning.{op_does, ops_do}
use Rattle.wg_registers.specs.Given.{around_of, site_of}
use Rattle.wg_operations.specs.Says.{exit_of}
use Rattle.wg_leaves.specs.Going.{is_quiet_op}
use Rattle.wg_leaves.specs.Leaves.{leaf_does}
use Rattle.wg_control.specs.Loops.{functions_quiet, loop_reads_nothing}
use Rattle.wg_control.specs.Silence.{reads_nothing}
use Rattle.wg_control.proofs.Calls.{nothing_called, none_nested, none_there, one_there, called_same, function_ends, function_stops, whole_again}
use Rattle.wg_control.proofs.Front.{behind, set_before, quiet_behind, count_behind}
use Rattle.wg_control.proofs.Growth.{both_right, goes_then, goes_weaker, kept_error, kept_weaker}
use Rattle.wg_control.proofs.Layers.{if_first, if_second, loop_is, call_is, next_op, quiet_within, quiet_called, turn_kept, inner_runs}
use Rattle.wg_control.proofs.Leaf.{op_is_leaf}
use Rattle.wg_control.proofs.Rest.{Act, along, goes, same, through_on, step_ends, step_breaks, loop_stops, loop_ends, loop_repeats}
use Rattle.wg_control.proofs.Sizes.{functions_size, op_within, function_within, one_less}
use Rattle.wg_control.proofs.body.+body.Goals as goal

-- ---- operations in order

pub run_ops-run_each-requires : goal.run_ops-run_each-requires
run_ops-run_each-requires g t c κs within =
    (let le = count_behind c.args.ops.now c.run_front-done.result in omega (arith, le), within)

pub run_ops-returns-then-done-ops-clause-says : goal.run_ops-returns-then-done-ops-clause-says
run_ops-returns-then-done-ops-clause-says g t c = λ start a.
    let A = around_of c.args.around.now in
    let C = callees false (in_function A) c.args.depth in
    let b = now_of (g.M.Memory.trace c.args.mem.now) start in
    c.run_front-done.ensures.sets A C c.args.s.now b c.args.s.now.turns
    ∙ ap (λ l. ops_do false A C l (site_of c.run_front-done.new.registers c.args.s.now b) c.args.s.now.turns) (drop_of_length-le c.args.ops.now c.if-done-ops.true)

pub run_ops-returns-clause-says : goal.run_ops-returns-clause-says
run_ops-returns-clause-says g t c =
    let A = around_of c.args.around.now in
    let C = callees false (in_function A) c.args.depth in
    set_before (ops_do false A C c.args.ops.now) (ops_do false A C (behind c.args.ops.now c.run_front-done.result)) c.args.registers.now c.run_front-done.new.registers c.args.s.now (g.M.Memory.trace c.args.mem.now) c.run_each.result c.run_each.new.registers c.run_each.new.s (g.M.Memory.trace c.run_each.new.mem)
    (λ b. c.run_front-done.ensures.sets A C c.args.s.now b c.args.s.now.turns ∙ ap (λ l. ops_do false A C l (site_of c.run_front-done.new.registers c.args.s.now b) c.args.s.now.turns) (sym (take_rest c.args.ops.now c.run_front-done.result))) c.run_each.ensures.says

pub run_ops-returns-clause-kept : goal.run_ops-returns-clause-kept
run_ops-returns-clause-kept g t c =
    let fs = c.args.around.now.functions.now in
    kept_weaker (reads_nothing fs c.args.ops.now) (reads_nothing fs (behind c.args.ops.now c.run_front-done.result)) (quiet_behind (functions_quiet fs) c.args.ops.now c.run_front-done.result) c.args.s.now.turns c.run_each.new.s.turns (g.M.Memory.trace c.args.mem.now) c.run_each.result (g.M.Memory.trace c.run_each.new.mem) c.run_each.ensures.kept

pub run_each-run_op-requires : goal.run_each-run_op-requires
run_each-run_op-requires g t c κs within =
    (let le = op_within c.args.ops.now c.loop-op.op-index c.op-item.result c.op-item.is c.loop-op-test.true in omega (arith, le), within)

pub run_each-returns-in_err-end-clause-kept : goal.run_each-returns-in_err-end-clause-kept
run_each-returns-in_err-end-clause-kept g t c =
    let p = err_from_is_err_and c.from_residual.result c.from_residual.ensures.1 in
    let fs = c.args.around.now.functions.now in
    rw (p.1, p.2)
    (kept_error (reads_nothing fs c.args.ops.now) c.args.s.now.turns c.loop-op.s.turns c.run_op.new.s.turns (g.M.Memory.trace c.args.mem.now) (g.M.Memory.trace c.loop-op.mem) c.in_err-end.field-0.0 (g.M.Memory.trace c.run_op.new.mem) c.loop-op.invariant.1
    (kept_weaker (reads_nothing fs c.args.ops.now) (functions_quiet fs && is_quiet_op c.op-item.result) (quiet_within (functions_quiet fs) c.args.ops.now c.loop-op.op-index c.op-item.result c.op-item.is c.loop-op-test.true) c.loop-op.s.turns c.run_op.new.s.turns (g.M.Memory.trace c.loop-op.mem) (Err c.in_err-end.field-0.0) (g.M.Memory.trace c.run_op.new.mem) c.in_err-end.ensures.kept))

pub run_each-returns-then-not-goes_through-clause-kept : goal.run_each-returns-then-not-goes_through-clause-kept
run_each-returns-then-not-goes_through-clause-kept g t c =
    let fs = c.args.around.now.functions.now in
    goes_then (reads_nothing fs c.args.ops.now) c.args.s.now.turns c.loop-op.s.turns c.run_op.new.s.turns (g.M.Memory.trace c.args.mem.now) (g.M.Memory.trace c.loop-op.mem) (g.M.Memory.trace c.run_op.new.mem) c.loop-op.invariant.1
    (goes_weaker (reads_nothing fs c.args.ops.now) (functions_quiet fs && is_quiet_op c.op-item.result) (quiet_within (functions_quiet fs) c.args.ops.now c.loop-op.op-index c.op-item.result c.op-item.is c.loop-op-test.true) c.loop-op.s.turns c.run_op.new.s.turns (g.M.Memory.trace c.loop-op.mem) (g.M.Memory.trace c.run_op.new.mem) c.in_ok-end.ensures.kept)

pub run_each-loop-op-preserved : goal.run_each-loop-op-preserved
run_each-loop-op-preserved g t c =
    let A = around_of c.args.around.now in
    let C = callees false (in_function A) c.args.depth in
    let fs = c.args.around.now.functions.now in
    let n = ops_do false A C c.args.ops.now in
    let rest = ops_do false A C (drop (c.loop-op.op-index + 1) c.args.ops.now) in
    let kept = goes_weaker (reads_nothing fs c.args.ops.now) (functions_quiet fs && is_quiet_op c.op-item.result) (quiet_within (functions_quiet fs) c.args.ops.now c.loop-op.op-index c.op-item.result c.op-item.is c.loop-op-test.true) c.loop-op.s.turns c.run_op.new.s.turns (g.M.Memory.trace c.loop-op.mem) (g.M.Memory.trace c.run_op.new.mem) c.in_ok-end.ensures.kept in (
      along n c.args.registers.now c.args.s.now (g.M.Memory.trace c.args.mem.now) (through (exit_of c.in_ok-end.end) rest) rest c.run_op.new.registers c.run_op.new.s (g.M.Memory.trace c.run_op.new.mem) (through_on c.in_ok-end.end rest (sym c.goes_through.ensures ∙ c.if-not-goes_through.false))
          (goes n c.args.registers.now c.args.s.now (g.M.Memory.trace c.args.mem.now) (op_does false A C c.op-item.result) (λ e. through e rest) c.loop-op.registers c.loop-op.s (g.M.Memory.trace c.loop-op.mem) c.in_ok-end.end c.run_op.new.registers c.run_op.new.s (g.M.Memory.trace c.run_op.new.mem)
          (next_op A C n c.args.registers.now c.args.s.now (g.M.Memory.trace c.args.mem.now) c.args.ops.now c.loop-op.op-index c.op-item.result c.op-item.is c.loop-op-test.true c.loop-op.registers c.loop-op.s (g.M.Memory.trace c.loop-op.mem) c.loop-op.invariant.0)
          c.in_ok-end.ensures.kept.grows c.in_ok-end.ensures.says),
      goes_then (reads_nothing fs c.args.ops.now) c.args.s.now.turns c.loop-op.s.turns c.run_op.new.s.turns (g.M.Memory.trace c.args.mem.now) (g.M.Memory.trace c.loop-op.mem) (g.M.Memory.trace c.run_op.new.mem) c.loop-op.invariant.1 kept,
    )

-- ---- one operation

pub run_op-returns-then-run_set-clause-says : goal.run_op-returns-then-run_set-clause-says
run_op-returns-then-run_set-clause-says g t c = λ start a.
    c.run_set.ensures.sets c.if-run_set.true (around_of c.args.around.now) (callees false (in_function (around_of c.args.around.now)) c.args.depth) c.args.s.now (now_of (g.M.Memory.trace c.args.mem.now) start) c.args.s.now.turns

pub run_op-returns-clause-says : goal.run_op-returns-clause-says
run_op-returns-clause-says g t c =
    let A = around_of c.args.around.now in
    let C = callees false (in_function A) c.args.depth in
    set_before (op_does false A C c.args.op.now) (op_does false A C c.args.op.now) c.args.registers.now c.run_set.new.registers c.args.s.now (g.M.Memory.trace c.args.mem.now) c.run_other.result c.run_other.new.registers c.run_other.new.s (g.M.Memory.trace c.run_other.new.mem)
    (λ b. ap (λ (l : List ℕ). op_does false A C c.args.op.now (site_of l c.args.s.now b) c.args.s.now.turns) (sym (c.run_set.ensures.leaves c.if-run_set.false))) c.run_other.ensures.says

pub run_other-returns-then-word-ne0-clause-says : goal.run_other-returns-then-word-ne0-clause-says
run_other-returns-then-word-ne0-clause-says g t c =
    let A = around_of c.args.around.now in
    let C = callees false (in_function A) c.args.depth in
    same (op_does false A C c.args.op.now) (ops_do false A C c.as_slice-first.result.now) c.args.registers.now c.args.s.now (g.M.Memory.trace c.args.mem.now) c.run_ops.result c.run_ops.new.registers c.run_ops.new.s (g.M.Memory.trace c.run_ops.new.mem)
    (λ b. if_first A C c.args.op.now c.args.registers.now c.args.s.now b _ _ _ c.as_slice-first.result.now c.in-If.is c.as_slice-first.ensures (λ e. c.if-word-ne0.true (c.word.ensures ∙ e))) c.run_ops.ensures.says

pub run_other-returns-else-word-ne0-clause-says : goal.run_other-returns-else-word-ne0-clause-says
run_other-returns-else-word-ne0-clause-says g t c =
    let A = around_of c.args.around.now in
    let C = callees false (in_function A) c.args.depth in
    same (op_does false A C c.args.op.now) (ops_do false A C c.as_slice-second.result.now) c.args.registers.now c.args.s.now (g.M.Memory.trace c.args.mem.now) c.run_ops-else-word-ne0.result c.run_ops-else-word-ne0.new.registers c.run_ops-else-word-ne0.new.s (g.M.Memory.trace c.run_ops-else-word-ne0.new.mem)
    (λ b. if_second A C c.args.op.now c.args.registers.now c.args.s.now b _ _ _ c.as_slice-second.result.now c.in-If.is c.as_slice-second.ensures (sym c.word.ensures ∙ c.if-word-ne0.false)) c.run_ops-else-word-ne0.ensures.says

pub run_other-returns-in_default-clause-says : goal.run_other-returns-in_default-clause-says
run_other-returns-in_default-clause-says g t c =
    let A = around_of c.args.around.now in
    let C = callees false (in_function A) c.args.depth in
    same (op_does false A C c.args.op.now) (leaf_does A c.args.op.now) c.args.registers.now c.args.s.now (g.M.Memory.trace c.args.mem.now) c.run_leaf.result c.run_leaf.new.registers c.run_leaf.new.s (g.M.Memory.trace c.run_leaf.new.mem)
    (λ b. ap (λ (m : Act). m (site_of c.args.registers.now c.args.s.now b) c.args.s.now.turns) (op_is_leaf A C c.args.op.now (record {
      not_If = c.in_default.not-If;
      not_Loop = c.in_default.not-Loop;
      not_Break = c.in_default.not-Break;
      not_Continue = c.in_default.not-Continue;
      not_Call = c.in_default.not-Call;
    }))) c.run_leaf.ensures.says

pub run_other-returns-in_default-clause-kept : goal.run_other-returns-in_default-clause-kept
run_other-returns-in_default-clause-kept g t c =
    let fs = c.args.around.now.functions.now in
    kept_weaker (functions_quiet fs && is_quiet_op c.args.op.now) (is_quiet_op c.args.op.now) (both_right (functions_quiet fs) (is_quiet_op c.args.op.now)) c.args.s.now.turns c.run_leaf.new.s.turns (g.M.Memory.trace c.args.mem.now) c.run_leaf.result (g.M.Memory.trace c.run_leaf.new.mem) c.run_leaf.ensures.kept

pub run_other-returns-in-Loop-clause-says : goal.run_other-returns-in-Loop-clause-says
run_other-returns-in-Loop-clause-says g t c =
    let A = around_of c.args.around.now in
    let C = callees false (in_function A) c.args.depth in
    same (op_does false A C c.args.op.now) (looped (ops_do false A C c.as_slice-test.result.now) c.in-Loop.a (ops_do false A C c.as_slice-body.result.now) (ops_do false A C c.as_slice-step.result.now)) c.args.registers.now c.args.s.now (g.M.Memory.trace c.args.mem.now) c.run_loop.result c.run_loop.new.registers c.run_loop.new.s (g.M.Memory.trace c.run_loop.new.mem)
    (λ b. loop_is A C c.args.op.now c.args.registers.now c.args.s.now b _ c.in-Loop.a _ _ c.as_slice-test.result.now c.as_slice-body.result.now c.as_slice-step.result.now c.in-Loop.is c.as_slice-test.ensures c.as_slice-body.ensures c.as_slice-step.ensures) c.run_loop.ensures.says

pub run_other-returns-in-Call-clause-says : goal.run_other-returns-in-Call-clause-says
run_other-returns-in-Call-clause-says g t c =
    let A = around_of c.args.around.now in
    let C = callees false (in_function A) c.args.depth in
    same (op_does false A C c.args.op.now) (called (C c.in-Call.function) c.as_slice-args.result.now c.as_slice-results.result.now) c.args.registers.now c.args.s.now (g.M.Memory.trace c.args.mem.now) c.run_call.result c.run_call.new.registers c.run_call.new.s (g.M.Memory.trace c.run_call.new.mem)
    (λ b. call_is A C c.args.op.now c.args.registers.now c.args.s.now b c.in-Call.function _ _ c.as_slice-args.result.now c.as_slice-results.result.now c.in-Call.is c.as_slice-args.ensures c.as_slice-results.ensures) c.run_call.ensures.says

-- ---- loops

pub run_loop-returns-in_err-end-clause-says : goal.run_loop-returns-in_err-end-clause-says
run_loop-returns-in_err-end-clause-says g t c =
    let p = err_from_is_err_and c.from_residual.result c.from_residual.ensures.1 in
    let A = around_of c.args.around.now in
    let C = callees false (in_function A) c.args.depth in
    rw (p.1, p.2)
    (loop_stops c.args.parts.now.a (ops_do false A C c.args.parts.now.test.now) (ops_do false A C c.args.parts.now.body.now) (ops_do false A C c.args.parts.now.step.now) c.args.registers.now c.args.s.now (g.M.Memory.trace c.args.mem.now) c.turns.registers c.turns.s (g.M.Memory.trace c.turns.mem) c.turns.invariant.0
    _ _ _ c.in_err-end.field-0.0 c.run_turn.new.registers c.run_turn.new.s (g.M.Memory.trace c.run_turn.new.mem) c.in_err-end.ensures.kept c.in_err-end.ensures.says)

pub run_loop-returns-then-not-is_again-clause-says : goal.run_loop-returns-then-not-is_again-clause-says
run_loop-returns-then-not-is_again-clause-says g t c =
    let A = around_of c.args.around.now in
    let C = callees false (in_function A) c.args.depth in
    loop_ends c.args.parts.now.a (ops_do false A C c.args.parts.now.test.now) (ops_do false A C c.args.parts.now.body.now) (ops_do false A C c.args.parts.now.step.now) c.args.registers.now c.args.s.now (g.M.Memory.trace c.args.mem.now) c.turns.registers c.turns.s (g.M.Memory.trace c.turns.mem) c.turns.invariant.0
    c.in_ok-end.end c.run_turn.new.registers c.run_turn.new.s (g.M.Memory.trace c.run_turn.new.mem) c.in_ok-end.ensures.kept.grows c.in_ok-end.ensures.says (sym c.is_again.ensures ∙ c.if-not-is_again.true)

pub run_loop-turns-preserved : goal.run_loop-turns-preserved
run_loop-turns-preserved g t c =
    let A = around_of c.args.around.now in
    let C = callees false (in_function A) c.args.depth in
    let on = sym c.is_again.ensures ∙ c.if-not-is_again.false in (
      loop_repeats c.args.parts.now.a (ops_do false A C c.args.parts.now.test.now) (ops_do false A C c.args.parts.now.body.now) (ops_do false A C c.args.parts.now.step.now) c.args.registers.now c.args.s.now (g.M.Memory.trace c.args.mem.now) c.turns.registers c.turns.s (g.M.Memory.trace c.turns.mem) c.turns.invariant.0
          c.in_ok-end.end c.run_turn.new.registers c.run_turn.new.s (g.M.Memory.trace c.run_turn.new.mem) c.in_ok-end.ensures.kept.grows c.in_ok-end.ensures.says on (c.in_ok-end.ensures.takes on),
      goes_then (loop_reads_nothing c.args.around.now.functions.now c.args.parts.now.test.now c.args.parts.now.body.now c.args.parts.now.step.now) c.args.s.now.turns c.turns.s.turns c.run_turn.new.s.turns (g.M.Memory.trace c.args.mem.now) (g.M.Memory.trace c.turns.mem) (g.M.Memory.trace c.run_turn.new.mem) c.turns.invariant.1 c.in_ok-end.ensures.kept,
    )

pub run_turn-returns-then-goes_on-clause-says : goal.run_turn-returns-then-goes_on-clause-says
run_turn-returns-then-goes_on-clause-says g t c =
    let A = around_of c.args.around.now in
    let C = callees false (in_function A) c.args.depth in
    let some : c.run_ops.new.s.turns ≡ suc (c.run_ops.new.s.turns - 1) = omega (arith, c.if-s-eq0.false) in
    step_ends c.args.parts.now.a (ops_do false A C c.args.parts.now.test.now) (ops_do false A C c.args.parts.now.body.now) (ops_do false A C c.args.parts.now.step.now) c.args.registers.now c.args.s.now (g.M.Memory.trace c.args.mem.now)
    c.in_ok-tested.tested c.run_ops.new.registers c.run_ops.new.s (g.M.Memory.trace c.run_ops.new.mem) (c.in_ok-tested.ensures.kept.grows, c.in_ok-tested.ensures.says) (sym c.goes_on.ensures ∙ c.if-not-goes_on.false)
    (λ e. c.if-word-eq0.false (c.word.ensures ∙ e)) (c.run_ops.new.s.turns - 1) some
    c.in_ok-ran.ran c.run_ops-2.new.registers c.run_ops-2.new.s (g.M.Memory.trace c.run_ops-2.new.mem) (c.in_ok-ran.ensures.kept.grows, c.in_ok-ran.ensures.says) (sym c.goes_on-2.ensures ∙ c.if-not-goes_on-2.false)
    c.in_ok-stepped.stepped c.run_ops-3.new.registers c.run_ops-3.new.s (g.M.Memory.trace c.run_ops-3.new.mem) (c.in_ok-stepped.ensures.kept.grows, c.in_ok-stepped.ensures.says) (sym c.goes_on-3.ensures ∙ c.if-goes_on.true)

pub run_turn-returns-then-goes_on-clause-kept : goal.run_turn-returns-then-goes_on-clause-kept
run_turn-returns-then-goes_on-clause-kept g t c =
    turn_kept c.args.around.now.functions.now c.args.parts.now.test.now c.args.parts.now.body.now c.args.parts.now.step.now c.args.s.now.turns c.run_ops.new.s.turns c.run_ops-2.new.s.turns c.run_ops-3.new.s.turns (g.M.Memory.trace c.args.mem.now) (g.M.Memory.trace c.run_ops.new.mem) (g.M.Memory.trace c.run_ops-2.new.mem) (g.M.Memory.trace c.run_ops-3.new.mem)
    c.in_ok-tested.ensures.kept c.in_ok-ran.ensures.kept c.in_ok-stepped.ensures.kept

pub run_turn-returns-else-goes_on-clause-says : goal.run_turn-returns-else-goes_on-clause-says
run_turn-returns-else-goes_on-clause-says g t c =
    let A = around_of c.args.around.now in
    let C = callees false (in_function A) c.args.depth in
    let some : c.run_ops.new.s.turns ≡ suc (c.run_ops.new.s.turns - 1) = omega (arith, c.if-s-eq0.false) in
    step_breaks c.args.parts.now.a (ops_do false A C c.args.parts.now.test.now) (ops_do false A C c.args.parts.now.body.now) (ops_do false A C c.args.parts.now.step.now) c.args.registers.now c.args.s.now (g.M.Memory.trace c.args.mem.now)
    c.in_ok-tested.tested c.run_ops.new.registers c.run_ops.new.s (g.M.Memory.trace c.run_ops.new.mem) (c.in_ok-tested.ensures.kept.grows, c.in_ok-tested.ensures.says) (sym c.goes_on.ensures ∙ c.if-not-goes_on.false)
    (λ e. c.if-word-eq0.false (c.word.ensures ∙ e)) (c.run_ops.new.s.turns - 1) some
    c.in_ok-ran.ran c.run_ops-2.new.registers c.run_ops-2.new.s (g.M.Memory.trace c.run_ops-2.new.mem) (c.in_ok-ran.ensures.kept.grows, c.in_ok-ran.ensures.says) (sym c.goes_on-2.ensures ∙ c.if-not-goes_on-2.false)
    c.in_ok-stepped.stepped c.run_ops-3.new.registers c.run_ops-3.new.s (g.M.Memory.trace c.run_ops-3.new.mem) (c.in_ok-stepped.ensures.kept.grows, c.in_ok-stepped.ensures.says) (sym c.goes_on-3.ensures ∙ c.if-goes_on.false)

pub run_turn-returns-else-goes_on-clause-kept : goal.run_turn-returns-else-goes_on-clause-kept
run_turn-returns-else-goes_on-clause-kept g t c =
    turn_kept c.args.around.now.functions.now c.args.parts.now.test.now c.args.parts.now.body.now c.args.parts.now.step.now c.args.s.now.turns c.run_ops.new.s.turns c.run_ops-2.new.s.turns c.run_ops-3.new.s.turns (g.M.Memory.trace c.args.mem.now) (g.M.Memory.trace c.run_ops.new.mem) (g.M.Memory.trace c.run_ops-2.new.mem) (g.M.Memory.trace c.run_ops-3.new.mem)
    c.in_ok-tested.ensures.kept c.in_ok-ran.ensures.kept c.in_ok-stepped.ensures.kept

-- ---- calls

pub run_call-returns-then-depth-eq0-clause-says : goal.run_call-returns-then-depth-eq0-clause-says
run_call-returns-then-depth-eq0-clause-says g t c =
    let B = in_function (around_of c.args.around.now) in
    nothing_called (callees false B c.args.depth c.args.parts.now.function) (none_nested B c.args.depth c.args.parts.now.function c.if-depth-eq0.true) c.args.parts.now.args.now c.args.parts.now.results.now c.args.registers.now c.args.s.now (g.M.Memory.trace c.args.mem.now)

pub run_call-returns-in-None-clause-says : goal.run_call-returns-in-None-clause-says
run_call-returns-in-None-clause-says g t c =
    let B = in_function (around_of c.args.around.now) in
    nothing_called (callees false B c.args.depth c.args.parts.now.function) (none_there B c.args.depth c.args.parts.now.function (sym c.function_at.ensures ∙ ap option_copied c.in-None.is)) c.args.parts.now.args.now c.args.parts.now.results.now c.args.registers.now c.args.s.now (g.M.Memory.trace c.args.mem.now)

pub run_call-run_function-requires : goal.run_call-run_function-requires
run_call-run_function-requires g t c κs within =
    let fs = c.args.around.now.functions.now in
    let le = function_within fs c.args.parts.now.function c.in-Some.f.now (sym c.function_at.ensures ∙ ap option_copied c.in-Some.is) in
    let product : (c.args.depth - 1) * functions_size fs + functions_size fs ≡ c.args.depth * functions_size fs = one_less c.args.depth (functions_size fs) c.if-depth-eq0.false in
    (omega (arith, le, product), within)

pub run_call-returns-in-Some-clause-says : goal.run_call-returns-in-Some-clause-says
run_call-returns-in-Some-clause-says g t c =
    let B = in_function (around_of c.args.around.now) in
    same (called (callees false B c.args.depth c.args.parts.now.function) c.args.parts.now.args.now c.args.parts.now.results.now) (called (body_runs false B (callees false B (c.args.depth - 1)) c.in-Some.f.now) c.args.parts.now.args.now c.args.parts.now.results.now) c.args.registers.now c.args.s.now (g.M.Memory.trace c.args.mem.now) c.run_function.result c.run_function.new.registers c.run_function.new.s (g.M.Memory.trace c.run_function.new.mem)
    (λ b. called_same _ _ c.args.parts.now.args.now c.args.parts.now.results.now c.args.registers.now c.args.s.now b (one_there B c.args.depth c.args.parts.now.function c.in-Some.f.now c.if-depth-eq0.false (sym c.function_at.ensures ∙ ap option_copied c.in-Some.is))) c.run_function.ensures.says

pub run_call-returns-in-Some-clause-kept : goal.run_call-returns-in-Some-clause-kept
run_call-returns-in-Some-clause-kept g t c =
    let fs = c.args.around.now.functions.now in
    kept_weaker (functions_quiet fs) (reads_nothing fs c.in-Some.f.now.body) (quiet_called fs c.args.parts.now.function c.in-Some.f.now (sym c.function_at.ensures ∙ ap option_copied c.in-Some.is)) c.args.s.now.turns c.run_function.new.s.turns (g.M.Memory.trace c.args.mem.now) c.run_function.result (g.M.Memory.trace c.run_function.new.mem) c.run_function.ensures.kept

pub run_function-returns-in_err-run_ops-clause-says : goal.run_function-returns-in_err-run_ops-clause-says
run_function-returns-in_err-run_ops-clause-says g t c =
    let p = err_from_is_err_and c.from_residual-in_err-run_ops.result c.from_residual-in_err-run_ops.ensures.1 in
    let A = around_of c.args.around.now in
    rw (p.1, p.2)
    (function_stops (in_function A) (callees false (in_function A) c.args.depth) c.args.f.now c.args.parts.now.args.now c.args.parts.now.results.now c.args.registers.now c.args.s.now (g.M.Memory.trace c.args.mem.now)
    c.deref_mut.result.now (c.deref_mut.ensures.value ∙ c.in_ok-own.ensures) c.as_slice.result.now c.as_slice.ensures
    c.in_err-run_ops.field-0.0 c.run_ops.new.registers c.run_ops.new.s (g.M.Memory.trace c.run_ops.new.mem) c.args.registers.now
    (inner_runs A (around_of c.for_function-inner.result) c.for_function-inner.ensures c.args.depth c.as_slice.result.now c.deref_mut.result.now c.args.s.now (g.M.Memory.trace c.args.mem.now) (Err c.in_err-run_ops.field-0.0) c.run_ops.new.registers c.run_ops.new.s (g.M.Memory.trace c.run_ops.new.mem) c.in_err-run_ops.ensures.says))

pub run_function-returns-clause-says : goal.run_function-returns-clause-says
run_function-returns-clause-says g t c =
    let A = around_of c.args.around.now in
    let back : c.put_results.new.registers ≡ set_all c.args.registers.now c.args.parts.now.results.now (drop (c.args.f.now.registers - c.args.f.now.results) c.run_ops.new.registers) =
    let first : c.saturating_sub-first.result ≡ c.args.f.now.registers - c.args.f.now.results = c.saturating_sub-first.ensures in
    let long : length c.run_ops.new.registers ≡ c.in_ok-own.own.len = omega (arith, c.run_ops.auto.registers, c.deref_mut.ensures.len) in
    let held : c.deref.result.now ≡ c.run_ops.new.registers = c.deref.ensures.value ∙ whole_again c.in_ok-own.own.len c.run_ops.new.registers c.in_ok-own.own.items long in
    c.put_results.ensures
    ∙ (ap (λ k. set_all c.args.registers.now c.args.parts.now.results.now (drop k c.deref.result.now)) first
    ∙ ap (λ (l : List ℕ). set_all c.args.registers.now c.args.parts.now.results.now (drop (c.args.f.now.registers - c.args.f.now.results) l)) held) in
    function_ends (in_function A) (callees false (in_function A) c.args.depth) c.args.f.now c.args.parts.now.args.now c.args.parts.now.results.now c.args.registers.now c.args.s.now (g.M.Memory.trace c.args.mem.now)
    c.deref_mut.result.now (c.deref_mut.ensures.value ∙ c.in_ok-own.ensures) c.as_slice.result.now c.as_slice.ensures
    c.in_ok-run_ops.field-0 c.run_ops.new.registers c.run_ops.new.s (g.M.Memory.trace c.run_ops.new.mem) c.put_results.new.registers
    (inner_runs A (around_of c.for_function-inner.result) c.for_function-inner.ensures c.args.depth c.as_slice.result.now c.deref_mut.result.now c.args.s.now (g.M.Memory.trace c.args.mem.now) (Ok c.in_ok-run_ops.field-0) c.run_ops.new.registers c.run_ops.new.s (g.M.Memory.trace c.run_ops.new.mem) c.in_ok-run_ops.ensures.says) back
