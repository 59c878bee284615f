use Rattle.std.proofs.Common.{arith}
use Rattle.wg_chains.proofs.Reached.{is_long, is_short, none_is_long}
use Rattle.wg_chains.proofs.depths.first_too_long.Goals as goal

pub returns-then-last : goal.returns-then-last
returns-then-last c = record {
  holds = is_long c.args.nodes.now c.args.rows.now c.args.depths.now c.loop-n.n c.last-last.result c.requires.links c.requires.reached (omega arith) c.last-last.ensures.value (omega arith);
  none_before = λ m lt. is_short c.args.nodes.now c.args.rows.now c.args.depths.now m c.requires.links c.requires.reached (omega (arith, lt)) (c.loop-n.invariant m lt);
}

pub returns : goal.returns
returns c = none_is_long c.args.nodes.now c.args.rows.now c.args.depths.now c.loop-n.n c.requires.links c.requires.reached (omega arith) c.loop-n.invariant
