use Rattle.std.proofs.Common.{◌∙◌, ◌<◌, length, Some, ap, sym, arith}
use Rattle.std.specs.List.{list_any}
use Rattle.std.proofs.lemmas.Option.{slice_get-get_or}
use Rattle.wg_machine.specs.Need.{is_target}
use Rattle.wg_node_attributes.specs.declared.attributes.NodeAttrs.{NodeAttrs}
use Rattle.wg_node_attributes.specs.declared.attributes.OutputAttr.{OutputAttr}
use Rattle.wg_shapes.specs.Naming.{elements_of, targets}
use Rattle.wg_chains.proofs.Squares.{rows_none, rows_more, rows_all}
use Rattle.wg_graph_rules.proofs.SetFlags.{row_is, targets_past}
use Rattle.wg_graph_rules.proofs.links.links.Goals as goal

pub loop-n-init : goal.loop-n-init
loop-n-init c = rows_none (targets c.args.nodes.now) (length c.args.nodes.now) _ c.new-rows.ensures

pub loop-n-preserved : goal.loop-n-preserved
loop-n-preserved c =
    let lt : c.loop-n.n < length c.args.nodes.now = omega arith in
    rows_more (targets c.args.nodes.now) (length c.args.nodes.now) c.loop-n.n c.loop-n.rows c.push.new.self c.in_ok-row.row c.loop-n.invariant c.in_ok-row.ensures.size
    (row_is c.args.nodes.now c.loop-n.n c.index-nodes-n.result c.in_ok-row.row lt
    (slice_get-get_or c.args.nodes.now c.loop-n.n c.index-nodes-n.result lt ∙ ap (λ x. Some x) (sym c.index-nodes-n.is)) c.in_ok-row.ensures.size
    (λ m below. c.in_ok-row.ensures.flags c.args.nodes.now c.requires.listed m below ∙ ap (list_any (λ (o : OutputAttr). list_any (is_target m) (elements_of c.args.nodes.now o))) (c.as_slice.ensures ∙ ap (λ (x : NodeAttrs). x.outputs) (sym c.index-nodes-n.is))))
    c.in_ok-push.ensures.ok

pub returns : goal.returns
returns c = record {
  square = record { count = (let n = c.loop-n.invariant.count in omega (arith, n)); sizes = c.loop-n.invariant.sizes };
  same = rows_all (targets c.args.nodes.now) (length c.args.nodes.now) c.loop-n.n c.loop-n.rows c.loop-n.invariant (λ i j le. targets_past c.args.nodes.now i j (omega (arith, le)));
}
