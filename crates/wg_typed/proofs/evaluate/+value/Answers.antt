use Rattle.std.proofs.Common.{◌∙◌}
use Rattle.wg_typed.specs.Constants.{known_in}
use Rattle.wg_typed.proofs.ConstChains.{chain_stops, chain_goes_on}
use Rattle.wg_typed.proofs.evaluate.+value.Goals as goal

-- src/evaluate.rt:121:21
pub chain-returns-in_err-right : goal.chain-returns-in_err-right
chain-returns-in_err-right t c = c.from_residual-in_err-right.ensures ∙ chain_stops (known_in c.args.known.now) c.loop-link.before c.as_slice-link-items.result.now c.loop-link.link-index c.link-item.result _ c.value.result c.link-item.is c.loop-link-test.true c.value.ensures c.in_err-right.was c.loop-link.invariant

-- src/evaluate.rt:120:5
pub chain-loop-link-preserved : goal.chain-loop-link-preserved
chain-loop-link-preserved t c = chain_goes_on (known_in c.args.known.now) c.loop-link.before c.in_ok-right.right c.apply-before.result c.as_slice-link-items.result.now c.loop-link.link-index c.link-item.result _ c.value.result c.link-item.is c.loop-link-test.true c.value.ensures c.in_ok-right.was c.apply-before.ensures c.loop-link.invariant
