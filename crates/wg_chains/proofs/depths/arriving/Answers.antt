use Rattle.std.proofs.Common.{arith}
use Rattle.wg_chains.proofs.Reached.{none_arriving, next_arriving, arrived}
use Rattle.wg_chains.proofs.depths.arriving.Goals as goal

pub loop-i-init : goal.loop-i-init
loop-i-init c = none_arriving c.args.nodes.now c.args.depths.now c.args.n

pub loop-i-preserved : goal.loop-i-preserved
loop-i-preserved c = next_arriving c.args.nodes.now c.args.rows.now c.args.depths.now c.args.n c.loop-i.i c.loop-i.best c.last-last.result _ _ c.requires.links (cc) c.last-last.ensures.value c.deeper-best.ensures c.loop-i.invariant

pub returns : goal.returns
returns c = arrived c.args.nodes.now c.args.depths.now c.args.n c.loop-i.i c.loop-i.best (omega arith) c.loop-i.invariant

pub overflow_cast-result : goal.overflow_cast-result
overflow_cast-result c = let m = c.loop-i.invariant.most in omega (arith, m)
