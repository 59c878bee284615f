use Rattle.std.proofs.Common.{arith, sym, ap, ◌∙◌}
use Rattle.wg_semantics.specs.Calls.{all_back}
use Rattle.wg_evaluation.proofs.Calling.{all_back_ends}
use Rattle.wg_evaluation.proofs.calls.copy_all_back.Goals as goal

pub returns : goal.returns
returns c = λ t.
    sym (ap (λ ps. all_back ps c.args.values.now c.args.state.now t) c.as_slice-passed.ensures)
    ∙ sym (ap (λ vs. all_back c.as_slice-passed.result.now vs c.args.state.now t) c.as_slice-values.ensures)
    ∙ sym (c.loop-at.invariant t)
    ∙ all_back_ends c.as_slice-passed.result.now c.as_slice-values.result.now c.loop-at.at c.loop-at.state t (omega (arith, c.min-count.ensures, c.loop-at-test.false))
