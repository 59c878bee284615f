use Rattle.std.proofs.Common.{arith}
use Rattle.wg_values.proofs.Lists.{nothing_more, selected_ends}
use Rattle.wg_values.proofs.intrinsics.choose.Goals as goal

pub returns : goal.returns
returns c = nothing_more _ _ _ (selected_ends c.args.c.now c.args.a.now c.args.b.now c.loop-at.at (omega (arith, c.min.ensures, c.min-count.ensures, c.loop-at-test.false))) c.loop-at.invariant
