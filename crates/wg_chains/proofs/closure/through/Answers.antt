use Rattle.std.proofs.Common.{ap, ◌∙◌, ◌&&◌, ◌||◌, length, arith}
use Rattle.wg_chains.specs.Rows.{leads}
use Rattle.wg_chains.proofs.Squares.{rows_none, rows_more, rows_all, row_there, row_size, stepped, leads_past, neither}
use Rattle.wg_chains.proofs.closure.through.Goals as goal

pub bounds-list-k : goal.bounds-list-k
bounds-list-k c = let e = ap length c.as_slice-list.ensures in let r = c.requires.inside in omega (arith, e, r)

pub either-requires : goal.either-requires
either-requires c =
    let e = ap length c.as_slice-list.ensures in
    let r = c.requires.inside in
    let row = row_size (length c.args.rows.now) c.args.rows.now c.index-list-i.result c.loop-i.i c.requires.square (row_there c.as_slice-list.result.now c.args.rows.now c.index-list-i.result c.loop-i.i c.as_slice-list.ensures (omega arith) c.index-list-i.is) in
    let other = row_size (length c.args.rows.now) c.args.rows.now c.index-list-k.result c.args.k c.requires.square (row_there c.as_slice-list.result.now c.args.rows.now c.index-list-k.result c.args.k c.as_slice-list.ensures (omega (arith, e, r)) c.index-list-k.is) in
    omega (arith, row, other)

pub loop-i-init : goal.loop-i-init
loop-i-init c = rows_none (λ i j. leads c.args.rows.now i j || (leads c.args.rows.now i c.args.k && leads c.args.rows.now c.args.k j)) (length c.args.rows.now) _ c.new-next.ensures

pub loop-i-preserved : goal.loop-i-preserved
loop-i-preserved c =
    let e = ap length c.as_slice-list.ensures in
    let r = c.requires.inside in
    let row = row_there c.as_slice-list.result.now c.args.rows.now c.index-list-i.result c.loop-i.i c.as_slice-list.ensures (omega arith) c.index-list-i.is in
    let other = row_there c.as_slice-list.result.now c.args.rows.now c.index-list-k.result c.args.k c.as_slice-list.ensures (omega (arith, e, r)) c.index-list-k.is in
    rows_more (λ i j. leads c.args.rows.now i j || (leads c.args.rows.now i c.args.k && leads c.args.rows.now c.args.k j)) (length c.args.rows.now) c.loop-i.i c.loop-i.next c.push.new.self _ c.loop-i.invariant
    (c.in_ok-stepped.ensures.size ∙ row_size (length c.args.rows.now) c.args.rows.now c.index-list-i.result c.loop-i.i c.requires.square row)
    (λ j. stepped c.args.rows.now c.index-list-i.result c.index-list-k.result c.loop-i.i c.args.k j c.flag-by.result _ row other c.flag-by.ensures (c.in_ok-stepped.ensures.flags j))
    c.in_ok-push.ensures.ok

pub returns-clause-square : goal.returns-clause-square
returns-clause-square c = let e = ap length c.as_slice-list.ensures in let n = c.loop-i.invariant.count in record { count = omega (arith, e, n); sizes = c.loop-i.invariant.sizes }

pub returns-clause-steps : goal.returns-clause-steps
returns-clause-steps c =
    let e = ap length c.as_slice-list.ensures in
    rows_all (λ i j. leads c.args.rows.now i j || (leads c.args.rows.now i c.args.k && leads c.args.rows.now c.args.k j)) (length c.args.rows.now) c.loop-i.i c.loop-i.next c.loop-i.invariant
    (λ i j le. neither _ _ _ (leads_past c.args.rows.now i j (omega (arith, e, le))) (leads_past c.args.rows.now i c.args.k (omega (arith, e, le))))
