use Rattle.std.proofs.Common.{arith}
use Rattle.wg_chains.proofs.Reached.{round_none, round_more, round_done}
use Rattle.wg_chains.proofs.depths.round.Goals as goal

pub loop-n-init : goal.loop-n-init
loop-n-init c = round_none c.args.nodes.now c.args.depths.now _ c.new-next.ensures

pub loop-n-preserved : goal.loop-n-preserved
loop-n-preserved c = round_more c.args.nodes.now c.args.depths.now c.loop-n.n c.loop-n.next c.push.new.self _ c.loop-n.invariant c.arriving-depth.ensures c.in_ok-push.ensures.ok

pub returns : goal.returns
returns c = round_done c.args.nodes.now c.args.depths.now c.loop-n.n c.loop-n.next (omega arith) c.loop-n.invariant
