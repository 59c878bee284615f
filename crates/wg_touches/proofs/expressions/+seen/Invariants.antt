use Rattle.std.proofs.Common.{◌≡◌, drop, map}
use Rattle.std.specs.Prelude.{slice_get}
use Rattle.wg_additive.specs.ExprTouches.{all_passed, parameters_in, touched}
use Rattle.wg_touches.specs.Passing.{call_passes, forms_pass, links_pass, passes, values_pass}
use Rattle.wg_touches.proofs.expressions.+seen.Given as goal

abbrev pub invariant-values_pass-loop-value : goal.invariant-values_pass-loop-value
invariant-values_pass-loop-value l = values_pass l.stores l.functions (drop l.value-index l.values) ≡ values_pass l.stores l.functions l.values

abbrev pub invariant-links_pass-loop-link : goal.invariant-links_pass-loop-link
invariant-links_pass-loop-link l = links_pass l.stores l.functions (drop l.link-index l.links) ≡ links_pass l.stores l.functions l.links

abbrev pub invariant-forms_pass-loop-form : goal.invariant-forms_pass-loop-form
invariant-forms_pass-loop-form l = forms_pass l.stores l.functions (drop l.form-index l.forms) ≡ forms_pass l.stores l.functions l.forms

abbrev pub invariant-call_passes-loop-number : goal.invariant-call_passes-loop-number
invariant-call_passes-loop-number l =
    passes l.stores (all_passed (drop l.number (parameters_in (slice_get l.functions l.function))) (map (touched l.functions) (drop l.number l.fn.arguments)))
    ≡ call_passes l.stores l.functions l.function l.fn.arguments
