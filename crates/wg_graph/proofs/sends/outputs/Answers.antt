use Rattle.std.proofs.Common.{length, ap, arith}
use Rattle.wg_node_attributes.specs.declared.attributes.NodeAttrs.{NodeAttrs}
use Rattle.wg_graph.proofs.Fullness.{more_outputs, all_outputs, node_is}
use Rattle.wg_graph.proofs.sends.outputs.Goals as goal

pub output-requires-clause-number : goal.output-requires-clause-number
output-requires-clause-number c a e =
    let same = node_is c.args.nodes.now c.args.n c.index-nodes-n.result a c.requires.within c.index-nodes-n.is e in
    let l = ap (λ (x : NodeAttrs). length x.outputs) same in
    let count = c.len-count.ensures in
    let is = ap (λ (x : NodeAttrs). length x.outputs) c.index-nodes-n.is in
    omega (arith, l, count, is)

pub loop-number-preserved : goal.loop-number-preserved
loop-number-preserved c =
    more_outputs c.args.typed.now c.args.nodes.now c.args.n c.args.level c.loop-number.number c.loop-number.all c.push.new.self c.in_ok-sent.sent c.loop-number.invariant
    (λ a e. let l = ap (λ (x : NodeAttrs). length x.outputs) (node_is c.args.nodes.now c.args.n c.index-nodes-n.result a c.requires.within c.index-nodes-n.is e) in let count = c.len-count.ensures in let is = ap (λ (x : NodeAttrs). length x.outputs) c.index-nodes-n.is in omega (arith, l, count, is))
    c.in_ok-sent.ensures c.in_ok-push.ensures.ok

pub returns : goal.returns
returns c a units e at =
    let l = ap (λ (x : NodeAttrs). length x.outputs) (node_is c.args.nodes.now c.args.n c.index-nodes-n.result a c.requires.within c.index-nodes-n.is e) in
    let count = c.len-count.ensures in
    let is = ap (λ (x : NodeAttrs). length x.outputs) c.index-nodes-n.is in
    all_outputs c.args.typed.now c.args.nodes.now c.args.n c.args.level c.loop-number.number c.loop-number.all c.loop-number.invariant a units e at (omega (arith, l, count, is))
