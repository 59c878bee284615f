use Rattle.std.proofs.Common.{◌<◌, length, refl, arith}
use Rattle.std.specs.Prelude.{slice_index_or}
use Rattle.wg_units.specs.Numbers.{first_unit}
use Rattle.wg_units.proofs.Counted.{none_first, one_more, next_first, first_low, one_low}
use Rattle.wg_units.proofs.levels.firsts.Goals as goal

pub loop-n-init : goal.loop-n-init
loop-n-init c = record { list = c.new-firsts.ensures; at = none_first c.args.tops.now }

pub overflow_add-at-in-loop-n : goal.overflow_add-at-in-loop-n
overflow_add-at-in-loop-n c =
    let lt : c.loop-n.n < length c.args.tops.now = omega arith in
    let top = one_low c.args.tops.now c.loop-n.n (slice_index_or c.args.tops.now c.loop-n.n 0) c.requires.low lt refl in
    let first = first_low c.args.tops.now c.loop-n.n c.requires.low in
    let at = c.loop-n.invariant.at in let few = c.requires.few in
    omega (arith, lt, top, first, at, few)

pub loop-n-preserved : goal.loop-n-preserved
loop-n-preserved c = record {
  list = one_more (first_unit c.args.tops.now) c.loop-n.n c.loop-n.firsts c.push.new.self c.loop-n.at c.loop-n.invariant.list c.loop-n.invariant.at c.in_ok-push.ensures.ok;
  at = next_first c.args.tops.now c.loop-n.n c.loop-n.at (slice_index_or c.args.tops.now c.loop-n.n 0) _ (omega arith) refl c.loop-n.invariant.at refl;
}
