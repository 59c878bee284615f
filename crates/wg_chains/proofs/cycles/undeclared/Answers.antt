use Rattle.std.proofs.Common.{ap, ◌∙◌, length, arith}
use Rattle.wg_shapes.specs.Cycle.{joins}
use Rattle.wg_chains.proofs.Squares.{rows_none, rows_more, rows_all, row_there, row_size, joined_is, joins_past}
use Rattle.wg_chains.proofs.cycles.undeclared.Goals as goal

pub bounds-list-n : goal.bounds-list-n
bounds-list-n c = let e = ap length c.as_slice-list.ensures in let r = c.requires.links.square.count in omega (arith, e, r)

pub loop-n-init : goal.loop-n-init
loop-n-init c = rows_none (joins c.args.nodes.now) (length c.args.nodes.now) _ c.new-next.ensures

pub loop-n-preserved : goal.loop-n-preserved
loop-n-preserved c =
    let e = ap length c.as_slice-list.ensures in
    let r = c.requires.links.square.count in
    let row = row_there c.as_slice-list.result.now c.args.rows.now c.index-list-n.result c.loop-n.n c.as_slice-list.ensures (omega (arith, e, r)) c.index-list-n.is in
    rows_more (joins c.args.nodes.now) (length c.args.nodes.now) c.loop-n.n c.loop-n.next c.push.new.self _ c.loop-n.invariant
    (c.in_ok-row.ensures.size ∙ row_size (length c.args.nodes.now) c.args.rows.now c.index-list-n.result c.loop-n.n c.requires.links.square row)
    (λ j. joined_is c.args.nodes.now c.args.rows.now c.loop-n.n j c.index-list-n.result c.is_declared-declared.result _ c.requires.links row c.is_declared-declared.ensures (c.in_ok-row.ensures.flags j))
    c.in_ok-push.ensures.ok

pub returns-clause-square : goal.returns-clause-square
returns-clause-square c = let n = c.loop-n.invariant.count in record { count = omega (arith, n); sizes = c.loop-n.invariant.sizes }

pub returns-clause-joins : goal.returns-clause-joins
returns-clause-joins c = rows_all (joins c.args.nodes.now) (length c.args.nodes.now) c.loop-n.n c.loop-n.next c.loop-n.invariant (λ i j le. joins_past c.args.nodes.now i j (omega (arith, le)))
