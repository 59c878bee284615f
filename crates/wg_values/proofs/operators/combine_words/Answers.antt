use Rattle.std.proofs.Common.{arith}
use Rattle.wg_typed.specs.Operators.{combined}
use Rattle.wg_values.proofs.Lists.{nothing_more, pairwise_ends}
use Rattle.wg_values.proofs.operators.combine_words.Goals as goal

pub returns : goal.returns
returns c = nothing_more _ _ _ (pairwise_ends (combined c.args.operator c.args.s) c.args.a.now c.args.b.now c.loop-at.at (omega (arith, c.min-count.ensures, c.loop-at-test.false))) c.loop-at.invariant
