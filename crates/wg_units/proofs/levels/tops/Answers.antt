use Rattle.std.proofs.Common.{arith}
use Rattle.wg_shapes.specs.Level.{top_level}
use Rattle.wg_units.proofs.Counted.{one_more, one_top}
use Rattle.wg_units.proofs.levels.tops.Goals as goal

pub loop-n-preserved : goal.loop-n-preserved
loop-n-preserved c =
    one_more (top_level c.args.nodes.now) c.loop-n.n c.loop-n.tops c.push.new.self c.top.result c.loop-n.invariant
    (one_top c.args.nodes.now c.args.rows.now c.loop-n.n c.top.result c.index-nodes-n.result c.leads.result c.requires.links (omega arith) c.index-nodes-n.is c.leads.ensures c.top.ensures)
    c.in_ok-push.ensures.ok
