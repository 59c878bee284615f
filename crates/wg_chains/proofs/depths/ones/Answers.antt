use Rattle.std.proofs.Common.{arith}
use Rattle.wg_chains.proofs.Reached.{ones_none, ones_more, ones_done}
use Rattle.wg_chains.proofs.depths.ones.Goals as goal

pub loop-n-init : goal.loop-n-init
loop-n-init c = ones_none _ c.new-depths.ensures

pub loop-n-preserved : goal.loop-n-preserved
loop-n-preserved c = ones_more c.loop-n._n c.loop-n.depths c.push.new.self c.loop-n.invariant c.in_ok-push.ensures.ok

pub returns : goal.returns
returns c = ones_done c.args.nodes.now c.loop-n._n c.loop-n.depths (omega arith) c.loop-n.invariant
