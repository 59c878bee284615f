use Rattle.std.proofs.Common.{◌≡◌, ◌+◌, ◌≤◌, drop}
use Rattle.wg_typed.specs.Weight.{weights_before, raised, called_weight, exprs_weight, links_weight, forms_weight, steps_weight, declared_weight, body_weight}
use Rattle.wg_typed.proofs.Spans.{spans_before, expr_span, exprs_span, option_span, links_span, link_span_of, forms_span, form_span, interlocked_span, step_span, steps_span, declared_span, start_span, stmt_span, body_span}
use Rattle.wg_typed.proofs.weigh.+weight.Given as goal

abbrev pub decreases-add_called : goal.decreases-add_called
decreases-add_called l = called_weight (spans_before l.functions.now l.before) l.function + 1

abbrev pub decreases-add_expr : goal.decreases-add_expr
decreases-add_expr l = expr_span (spans_before l.functions.now l.before) l.expr.now

abbrev pub decreases-add_boxed : goal.decreases-add_boxed
decreases-add_boxed l = option_span (spans_before l.functions.now l.before) l.value.now

abbrev pub decreases-add_exprs : goal.decreases-add_exprs
decreases-add_exprs l = exprs_span (spans_before l.functions.now l.before) l.values.now

abbrev pub decreases-add_links : goal.decreases-add_links
decreases-add_links l = links_span (spans_before l.functions.now l.before) l.links.now

abbrev pub decreases-add_forms : goal.decreases-add_forms
decreases-add_forms l = forms_span (spans_before l.functions.now l.before) l.forms.now

abbrev pub decreases-add_body : goal.decreases-add_body
decreases-add_body l = body_span (spans_before l.functions.now l.before) l.body.now

abbrev pub decreases-add_stmt : goal.decreases-add_stmt
decreases-add_stmt l = stmt_span (spans_before l.functions.now l.before) l.stmt.now

abbrev pub decreases-add_option : goal.decreases-add_option
decreases-add_option l = option_span (spans_before l.functions.now l.before) l.value.now

abbrev pub decreases-add_declared : goal.decreases-add_declared
decreases-add_declared l = declared_span (spans_before l.functions.now l.before) l.declared.now

abbrev pub decreases-add_start : goal.decreases-add_start
decreases-add_start l = start_span (spans_before l.functions.now l.before) l.start.now

abbrev pub decreases-add_steps : goal.decreases-add_steps
decreases-add_steps l = steps_span (spans_before l.functions.now l.before) l.steps.now

abbrev pub decreases-add_step : goal.decreases-add_step
decreases-add_step l = step_span (spans_before l.functions.now l.before) l.step.now

abbrev pub decreases-add_interlocked : goal.decreases-add_interlocked
decreases-add_interlocked l = interlocked_span (spans_before l.functions.now l.before) l.interlocked.now

abbrev pub invariant-add_exprs-loop-value : goal.invariant-add_exprs-loop-value
invariant-add_exprs-loop-value l = (l.so_far ≤ 65537) × (raised l.so_far (exprs_weight (weights_before l.functions l.before) (drop l.value-index l.value-items)) ≡ raised l.fn.so_far (exprs_weight (weights_before l.functions l.before) l.fn.values))

abbrev pub invariant-add_links-loop-link : goal.invariant-add_links-loop-link
invariant-add_links-loop-link l = (l.so_far ≤ 65537) × (raised l.so_far (links_weight (weights_before l.functions l.before) (drop l.link-index l.link-items)) ≡ raised l.fn.so_far (links_weight (weights_before l.functions l.before) l.fn.links))

abbrev pub invariant-add_forms-loop-form : goal.invariant-add_forms-loop-form
invariant-add_forms-loop-form l = (l.so_far ≤ 65537) × (raised l.so_far (forms_weight (weights_before l.functions l.before) (drop l.form-index l.form-items)) ≡ raised l.fn.so_far (forms_weight (weights_before l.functions l.before) l.fn.forms))

abbrev pub invariant-add_body-loop-stmt : goal.invariant-add_body-loop-stmt
invariant-add_body-loop-stmt l = (l.so_far ≤ 65537) × (raised l.so_far (body_weight (weights_before l.functions l.before) (drop l.stmt-index l.stmt-items)) ≡ raised l.fn.so_far (body_weight (weights_before l.functions l.before) l.fn.body))

abbrev pub invariant-add_declared-loop-declarator : goal.invariant-add_declared-loop-declarator
invariant-add_declared-loop-declarator l = (l.so_far ≤ 65537) × (raised l.so_far (declared_weight (weights_before l.functions l.before) (drop l.declarator-index l.declarator-items)) ≡ raised l.fn.so_far (declared_weight (weights_before l.functions l.before) l.fn.declared))

abbrev pub invariant-add_steps-loop-step : goal.invariant-add_steps-loop-step
invariant-add_steps-loop-step l = (l.so_far ≤ 65537) × (raised l.so_far (steps_weight (weights_before l.functions l.before) (drop l.step-index l.step-items)) ≡ raised l.fn.so_far (steps_weight (weights_before l.functions l.before) l.fn.steps))

abbrev pub decreases-add_link : goal.decreases-add_link
decreases-add_link l = link_span_of (spans_before l.functions.now l.before) l.link.now

abbrev pub decreases-add_form : goal.decreases-add_form
decreases-add_form l = form_span (spans_before l.functions.now l.before) l.form.now
