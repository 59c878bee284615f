use Rattle.std.proofs.Common.{◌≡◌, length, ◌∙◌, arith}
use Rattle.wg_need.proofs.Built.{one_built, all_rows}
use Rattle.wg_need.proofs.table.rows_of.Goals as goal

pub loop-unit-preserved : goal.loop-unit-preserved
loop-unit-preserved c =
    let e = c.in_ok-sum_up.ensures in
    let same : length c.loop-unit.seen ≡ length c.args.units.now = c.loop-unit.auto.seen ∙ c.requires.count in
    let long : c.len.result ≡ length c.sum_up.new.needs.items = omega (arith, c.len.ensures, c.sum_up.new.needs.ok) in
    let needs = rw (c.as_slice.ensures, c.as_slice-in-loop-unit.ensures, same) at e.needs in
    rw (c.in_ok-push.ensures.items, long)
    (one_built c.args.units.now _ c.loop-unit.unit-index c.loop-unit.ends.items c.loop-unit.needs.items c.sum_up.new.needs.items c.loop-unit.seen c.sum_up.new.seen c.unit-item.result
    c.loop-unit-test.true c.unit-item.is c.loop-unit.invariant needs (rw same at e.sound) e.kept e.longer e.low)

pub returns-clause-needs : goal.returns-clause-needs
returns-clause-needs c u v h =
    let e : c.loop-unit.unit-index ≡ length c.args.units.now = omega (arith, c.loop-unit-test.false, c.loop-unit.auto.unit-index-end) in
    all_rows c.args.units.now _ _ (rw e at c.loop-unit.invariant.rows) u v h
