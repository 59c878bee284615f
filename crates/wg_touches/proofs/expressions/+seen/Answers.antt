use Rattle.std.proofs.Common.{◌+◌}
use Rattle.std.specs.Option.{option_copied}
use Rattle.wg_additive.specs.ExprTouches.{touched}
use Rattle.wg_touches.specs.Passing.{call_passes}
use Rattle.wg_touches.proofs.Passes.{call_step, left_of_call, stopped, went_on}
use Rattle.wg_touches.proofs.expressions.+seen.Goals as goal

pub call_passes-returns-then-not-argument_passes : goal.call_passes-returns-then-not-argument_passes
call_passes-returns-then-not-argument_passes t c =
    let left = left_of_call c.args.stores c.args.functions.now c.args.function c.args.arguments.now in
    stopped c.argument_passes.result (left c.loop-number.number) (left (c.loop-number.number + 1)) (call_passes c.args.stores c.args.functions.now c.args.function c.args.arguments.now) c.if-not-argument_passes.true
    (call_step c.args.stores c.args.functions.now c.args.function c.args.arguments.now c.as_slice-argument-items.result.now c.loop-number.number c.argument-item.result (option_copied c.parameter_at.result) c.argument_passes.result c.as_slice-argument-items.ensures c.argument-item.is c.loop-number-test.true c.parameter_at.ensures (c.argument_passes.ensures (touched c.args.functions.now c.argument-item.result) c.seen-argument.ensures))
    c.loop-number.invariant

pub call_passes-loop-number-preserved : goal.call_passes-loop-number-preserved
call_passes-loop-number-preserved t c =
    let left = left_of_call c.args.stores c.args.functions.now c.args.function c.args.arguments.now in
    went_on c.argument_passes.result (left c.loop-number.number) (left (c.loop-number.number + 1)) (call_passes c.args.stores c.args.functions.now c.args.function c.args.arguments.now) c.if-not-argument_passes.false
    (call_step c.args.stores c.args.functions.now c.args.function c.args.arguments.now c.as_slice-argument-items.result.now c.loop-number.number c.argument-item.result (option_copied c.parameter_at.result) c.argument_passes.result c.as_slice-argument-items.ensures c.argument-item.is c.loop-number-test.true c.parameter_at.ensures (c.argument_passes.ensures (touched c.args.functions.now c.argument-item.result) c.seen-argument.ensures))
    c.loop-number.invariant
