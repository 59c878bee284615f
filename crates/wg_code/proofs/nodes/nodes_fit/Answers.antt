use Rattle.wg_code.proofs.Bounds.{nodes_stop}
use Rattle.wg_code.proofs.nodes.nodes_fit.Goals as goal

pub returns-then-not-node_fits : goal.returns-then-not-node_fits
returns-then-not-node_fits c =
    nodes_stop c.args.code.now c.loop-at.at _ _ c.node-item.result c.node_fits.result c.as_slice-node-items.ensures c.node-item.is c.loop-at-test.true c.node_fits.ensures c.if-not-node_fits.true c.loop-at.invariant
