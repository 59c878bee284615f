use Rattle.std.proofs.Common.{arith, map, ap}
use Rattle.wg_typed.specs.Weight.{total, weights_before, expr_weight, link_weight_of, form_weight, stmt_weight, declarator_weight, step_weight}
use Rattle.wg_typed.proofs.Spans.{spans_before, function_span, expr_span, link_span_of, form_span, stmt_span, declarator_span, step_span}
use Rattle.wg_typed.proofs.Weighing.{item_within, weighed_on, weighed_all}
use Rattle.wg_typed.specs.Weight.{function_weight}
use Rattle.wg_typed.proofs.Earlier.{none_before, none_past, one_before}
use Rattle.wg_typed.proofs.weigh.+weight.Goals as goal
use Rattle.wg_typed.proofs.weigh.+weight.Goals.{add_called-then-so_far-ge-ABOVE-via-then-so_far-ge-ABOVE, add_called-then-so_far-ge-ABOVE-via-else-so_far-ge-ABOVE+then-function-before}

pub add_called-returns-then-so_far-ge-ABOVE : goal.add_called-returns-then-so_far-ge-ABOVE
add_called-returns-then-so_far-ge-ABOVE t c = elim c.then-so_far-ge-ABOVE.branch [
  | add_called-then-so_far-ge-ABOVE-via-then-so_far-ge-ABOVE w ↦ omega (arith, c.min.ensures, w.if-so_far-ge-ABOVE)
  | add_called-then-so_far-ge-ABOVE-via-else-so_far-ge-ABOVE+then-function-before w ↦ let e = none_before function_weight 0 c.args.functions.now c.args.before c.args.function (omega (arith, w.if-function-before)) in omega (arith, c.min.ensures, e)
]

pub add_called-add_body-requires : goal.add_called-add_body-requires
add_called-add_body-requires t c = (let e = one_before function_span 0 c.args.functions.now c.args.before c.args.function c.in-Some.called.now (omega (arith, c.if-function-before.false)) c.in-Some.ensures.value in omega (arith, e), tt)

pub add_called-returns-in-Some : goal.add_called-returns-in-Some
add_called-returns-in-Some t c = let e = one_before function_weight 0 c.args.functions.now c.args.before c.args.function c.in-Some.called.now (omega (arith, c.if-function-before.false)) c.in-Some.ensures.value in omega (arith, e, c.add_body.ensures)

pub add_called-returns-in-None : goal.add_called-returns-in-None
add_called-returns-in-None t c = let e = none_past function_weight 0 c.args.functions.now c.args.before c.args.function c.in-None.ensures.value in omega (arith, e, c.min-in-None.ensures)

pub add_exprs-add_expr-so_far-requires : goal.add_exprs-add_expr-so_far-requires
add_exprs-add_expr-so_far-requires t c = (let le = item_within (expr_span (spans_before c.args.functions.now c.args.before)) c.as_slice-value-items.result.now c.loop-value.value-index c.value-item.result c.value-item.is c.loop-value-test.true in let same = ap (λ l. total (map (expr_span (spans_before c.args.functions.now c.args.before)) l)) c.as_slice-value-items.ensures in omega (arith, le, same), tt)

pub add_exprs-loop-value-preserved : goal.add_exprs-loop-value-preserved
add_exprs-loop-value-preserved t c = weighed_on (expr_weight (weights_before c.args.functions.now c.args.before)) c.as_slice-value-items.result.now c.loop-value.value-index c.value-item.result c.loop-value.so_far c.add_expr-so_far.result _ c.value-item.is c.loop-value-test.true c.add_expr-so_far.ensures c.loop-value.invariant.1

pub add_exprs-returns : goal.add_exprs-returns
add_exprs-returns t c = weighed_all (expr_weight (weights_before c.args.functions.now c.args.before)) c.as_slice-value-items.result.now c.loop-value.value-index c.loop-value.so_far _ (omega (arith, c.loop-value-test.false)) c.loop-value.invariant.0 c.loop-value.invariant.1

pub add_links-add_link-so_far-requires : goal.add_links-add_link-so_far-requires
add_links-add_link-so_far-requires t c = (let le = item_within (link_span_of (spans_before c.args.functions.now c.args.before)) c.as_slice-link-items.result.now c.loop-link.link-index c.link-item.result c.link-item.is c.loop-link-test.true in let same = ap (λ l. total (map (link_span_of (spans_before c.args.functions.now c.args.before)) l)) c.as_slice-link-items.ensures in omega (arith, le, same), tt)

pub add_links-loop-link-preserved : goal.add_links-loop-link-preserved
add_links-loop-link-preserved t c = weighed_on (link_weight_of (weights_before c.args.functions.now c.args.before)) c.as_slice-link-items.result.now c.loop-link.link-index c.link-item.result c.loop-link.so_far c.add_link-so_far.result _ c.link-item.is c.loop-link-test.true c.add_link-so_far.ensures c.loop-link.invariant.1

pub add_links-returns : goal.add_links-returns
add_links-returns t c = weighed_all (link_weight_of (weights_before c.args.functions.now c.args.before)) c.as_slice-link-items.result.now c.loop-link.link-index c.loop-link.so_far _ (omega (arith, c.loop-link-test.false)) c.loop-link.invariant.0 c.loop-link.invariant.1

pub add_forms-add_form-so_far-requires : goal.add_forms-add_form-so_far-requires
add_forms-add_form-so_far-requires t c = (let le = item_within (form_span (spans_before c.args.functions.now c.args.before)) c.as_slice-form-items.result.now c.loop-form.form-index c.form-item.result c.form-item.is c.loop-form-test.true in let same = ap (λ l. total (map (form_span (spans_before c.args.functions.now c.args.before)) l)) c.as_slice-form-items.ensures in omega (arith, le, same), tt)

pub add_forms-loop-form-preserved : goal.add_forms-loop-form-preserved
add_forms-loop-form-preserved t c = weighed_on (form_weight (weights_before c.args.functions.now c.args.before)) c.as_slice-form-items.result.now c.loop-form.form-index c.form-item.result c.loop-form.so_far c.add_form-so_far.result _ c.form-item.is c.loop-form-test.true c.add_form-so_far.ensures c.loop-form.invariant.1

pub add_forms-returns : goal.add_forms-returns
add_forms-returns t c = weighed_all (form_weight (weights_before c.args.functions.now c.args.before)) c.as_slice-form-items.result.now c.loop-form.form-index c.loop-form.so_far _ (omega (arith, c.loop-form-test.false)) c.loop-form.invariant.0 c.loop-form.invariant.1

pub add_body-add_stmt-so_far-requires : goal.add_body-add_stmt-so_far-requires
add_body-add_stmt-so_far-requires t c = (let le = item_within (stmt_span (spans_before c.args.functions.now c.args.before)) c.as_slice-stmt-items.result.now c.loop-stmt.stmt-index c.stmt-item.result c.stmt-item.is c.loop-stmt-test.true in let same = ap (λ l. total (map (stmt_span (spans_before c.args.functions.now c.args.before)) l)) c.as_slice-stmt-items.ensures in omega (arith, le, same), tt)

pub add_body-loop-stmt-preserved : goal.add_body-loop-stmt-preserved
add_body-loop-stmt-preserved t c = weighed_on (stmt_weight (weights_before c.args.functions.now c.args.before)) c.as_slice-stmt-items.result.now c.loop-stmt.stmt-index c.stmt-item.result c.loop-stmt.so_far c.add_stmt-so_far.result _ c.stmt-item.is c.loop-stmt-test.true c.add_stmt-so_far.ensures c.loop-stmt.invariant.1

pub add_body-returns : goal.add_body-returns
add_body-returns t c = weighed_all (stmt_weight (weights_before c.args.functions.now c.args.before)) c.as_slice-stmt-items.result.now c.loop-stmt.stmt-index c.loop-stmt.so_far _ (omega (arith, c.loop-stmt-test.false)) c.loop-stmt.invariant.0 c.loop-stmt.invariant.1

pub add_declared-add_option-so_far-requires : goal.add_declared-add_option-so_far-requires
add_declared-add_option-so_far-requires t c = (let le = item_within (declarator_span (spans_before c.args.functions.now c.args.before)) c.as_slice-declarator-items.result.now c.loop-declarator.declarator-index c.declarator-item.result c.declarator-item.is c.loop-declarator-test.true in let same = ap (λ l. total (map (declarator_span (spans_before c.args.functions.now c.args.before)) l)) c.as_slice-declarator-items.ensures in omega (arith, le, same), tt)

pub add_declared-loop-declarator-preserved : goal.add_declared-loop-declarator-preserved
add_declared-loop-declarator-preserved t c = weighed_on (declarator_weight (weights_before c.args.functions.now c.args.before)) c.as_slice-declarator-items.result.now c.loop-declarator.declarator-index c.declarator-item.result c.loop-declarator.so_far c.add_option-so_far.result _ c.declarator-item.is c.loop-declarator-test.true c.add_option-so_far.ensures c.loop-declarator.invariant.1

pub add_declared-returns : goal.add_declared-returns
add_declared-returns t c = weighed_all (declarator_weight (weights_before c.args.functions.now c.args.before)) c.as_slice-declarator-items.result.now c.loop-declarator.declarator-index c.loop-declarator.so_far _ (omega (arith, c.loop-declarator-test.false)) c.loop-declarator.invariant.0 c.loop-declarator.invariant.1

pub add_steps-add_step-so_far-requires : goal.add_steps-add_step-so_far-requires
add_steps-add_step-so_far-requires t c = (let le = item_within (step_span (spans_before c.args.functions.now c.args.before)) c.as_slice-step-items.result.now c.loop-step.step-index c.step-item.result c.step-item.is c.loop-step-test.true in let same = ap (λ l. total (map (step_span (spans_before c.args.functions.now c.args.before)) l)) c.as_slice-step-items.ensures in omega (arith, le, same), tt)

pub add_steps-loop-step-preserved : goal.add_steps-loop-step-preserved
add_steps-loop-step-preserved t c = weighed_on (step_weight (weights_before c.args.functions.now c.args.before)) c.as_slice-step-items.result.now c.loop-step.step-index c.step-item.result c.loop-step.so_far c.add_step-so_far.result _ c.step-item.is c.loop-step-test.true c.add_step-so_far.ensures c.loop-step.invariant.1

pub add_steps-returns : goal.add_steps-returns
add_steps-returns t c = weighed_all (step_weight (weights_before c.args.functions.now c.args.before)) c.as_slice-step-items.result.now c.loop-step.step-index c.loop-step.so_far _ (omega (arith, c.loop-step-test.false)) c.loop-step.invariant.0 c.loop-step.invariant.1
