use Rattle.std.proofs.Common.{false, ◌+◌, ◌*◌, drop}
use Rattle.wg_code.specs.Counts.{count_of}
use Rattle.wg_code.specs.Functions.{in_function, callees}
use Rattle.wg_code.specs.OpMeaning.{ops_do}
use Rattle.wg_registers.specs.Given.{around_of}
use Rattle.wg_leaves.specs.Going.{GoesOn}
use Rattle.wg_control.specs.Loops.{loop_reads_nothing}
use Rattle.wg_control.specs.Silence.{reads_nothing}
use Rattle.wg_control.proofs.Rest.{Rest, Turning}
use Rattle.wg_control.proofs.Sizes.{op_size, functions_size}
use Rattle.wg_control.proofs.body.+body.Given as goal

abbrev pub decreases-run_op : goal.decreases-run_op
decreases-run_op g l = 6 * (l.depth * functions_size l.around.now.functions.now + op_size l.op.now) + 1

abbrev pub decreases-run_other : goal.decreases-run_other
decreases-run_other g l = 6 * (l.depth * functions_size l.around.now.functions.now + op_size l.op.now)

abbrev pub decreases-run_each : goal.decreases-run_each
decreases-run_each g l = 6 * (l.depth * functions_size l.around.now.functions.now + count_of l.ops.now) + 2

abbrev pub decreases-run_ops : goal.decreases-run_ops
decreases-run_ops g l = 6 * (l.depth * functions_size l.around.now.functions.now + count_of l.ops.now) + 3

abbrev pub decreases-run_turn : goal.decreases-run_turn
decreases-run_turn g l = 6 * (l.depth * functions_size l.around.now.functions.now + (count_of l.parts.now.test.now + (count_of l.parts.now.body.now + count_of l.parts.now.step.now))) + 4

abbrev pub decreases-run_loop : goal.decreases-run_loop
decreases-run_loop g l = 6 * (l.depth * functions_size l.around.now.functions.now + (count_of l.parts.now.test.now + (count_of l.parts.now.body.now + count_of l.parts.now.step.now))) + 5

abbrev pub decreases-run_call : goal.decreases-run_call
decreases-run_call g l = 6 * (l.depth * functions_size l.around.now.functions.now) + 1

abbrev pub decreases-run_function : goal.decreases-run_function
decreases-run_function g l = 6 * (l.depth * functions_size l.around.now.functions.now + count_of l.f.now.body) + 4

abbrev pub invariant-run_each-loop-op : goal.invariant-run_each-loop-op
invariant-run_each-loop-op g l =
    Rest (ops_do false (around_of l.around) (callees false (in_function (around_of l.around)) l.depth) l.ops) l.initial.registers l.initial.s (g.M.Memory.trace l.initial.mem)
    (ops_do false (around_of l.around) (callees false (in_function (around_of l.around)) l.depth) (drop l.op-index l.ops)) l.registers l.s (g.M.Memory.trace l.mem)
    × GoesOn (reads_nothing l.around.functions.now l.ops) l.initial.s.turns l.s.turns (g.M.Memory.trace l.initial.mem) (g.M.Memory.trace l.mem)

abbrev pub invariant-run_loop-turns : goal.invariant-run_loop-turns
invariant-run_loop-turns g l =
    Turning l.parts.a
    (ops_do false (around_of l.around) (callees false (in_function (around_of l.around)) l.depth) l.parts.test.now)
    (ops_do false (around_of l.around) (callees false (in_function (around_of l.around)) l.depth) l.parts.body.now)
    (ops_do false (around_of l.around) (callees false (in_function (around_of l.around)) l.depth) l.parts.step.now)
    l.initial.registers l.initial.s (g.M.Memory.trace l.initial.mem) l.registers l.s (g.M.Memory.trace l.mem)
    × GoesOn (loop_reads_nothing l.around.functions.now l.parts.test.now l.parts.body.now l.parts.step.now) l.initial.s.turns l.s.turns (g.M.Memory.trace l.initial.mem) (g.M.Memory.trace l.mem)

abbrev pub decreases-run_loop-turns : goal.decreases-run_loop-turns
decreases-run_loop-turns g l = l.s.turns
