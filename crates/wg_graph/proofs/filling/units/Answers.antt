use Rattle.std.proofs.Common.{◌<◌, length, arith}
use Rattle.wg_shapes.specs.Level.{top_levels}
use Rattle.wg_units.proofs.Counted.{count_tops}
use Rattle.wg_graph.proofs.Fullness.{no_units, more_units, all_units, drop_all}
use Rattle.wg_graph.proofs.filling.units.Goals as goal

pub loop-n-init : goal.loop-n-init
loop-n-init c = no_units c.args.typed.now c.args.nodes.now _ c.new-units.ensures

pub loop-n-preserved : goal.loop-n-preserved
loop-n-preserved c =
    let count = count_tops c.args.nodes.now in
    let lt : c.loop-n.n < length c.args.nodes.now = omega arith in
    more_units c.args.typed.now c.args.nodes.now c.loop-n.n c.loop-n.units c.add_units.new.units c.loop-n.invariant lt (omega (arith, count, lt)) c.in_ok-add_units.ensures.places c.in_ok-add_units.ensures.right

pub returns-clause-places : goal.returns-clause-places
returns-clause-places c =
    let count = count_tops c.args.nodes.now in
    all_units c.args.typed.now c.args.nodes.now c.loop-n.n c.loop-n.units (drop_all (top_levels c.args.nodes.now) c.loop-n.n (omega (arith, count))) c.loop-n.invariant
