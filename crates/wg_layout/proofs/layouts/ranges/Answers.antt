use Rattle.std.proofs.Common.{arith}
use Rattle.wg_typed.specs.Layout.{extents_of, types_of}
use Rattle.std.specs.Prelude.{drop}
use Rattle.wg_layout.proofs.Capping.{end_least}
use Rattle.wg_layout.proofs.Ranges.{placed, next_range}
use Rattle.wg_layout.proofs.layouts.ranges.Goals as goal

-- src/layouts.rt:69:13
pub round_up-from-requires : goal.round_up-from-requires
round_up-from-requires c =
    let least = end_least (extents_of c.args.structs.now) c.loop-field.at (types_of (drop c.loop-field.field-index c.as_slice-field-items.result.now)) in
    record { within = omega (arith, least, c.loop-field.invariant.1) }

-- src/layouts.rt:70:18
pub overflow_add-to : goal.overflow_add-to
overflow_add-to c =
    let p = placed (extents_of c.args.structs.now) c.args.sizes.now c.as_slice-field-items.result.now c.loop-field.field-index c.field-item.result c.loop-field.at c.extent-of.result c.round_up-from.result c.field-item.is c.loop-field-test.true c.requires.table c.extent-of.ensures c.round_up-from.ensures c.loop-field.invariant.1 in
    let to = p.to in
    grind (arith, to)

-- src/layouts.rt:67:5
pub loop-field-preserved : goal.loop-field-preserved
loop-field-preserved c =
    let p = placed (extents_of c.args.structs.now) c.args.sizes.now c.as_slice-field-items.result.now c.loop-field.field-index c.field-item.result c.loop-field.at c.extent-of.result c.round_up-from.result c.field-item.is c.loop-field-test.true c.requires.table c.extent-of.ensures c.round_up-from.ensures c.loop-field.invariant.1 in
    (next_range (extents_of c.args.structs.now) c.as_slice-field-items.result.now c.loop-field.field-index c.field-item.result c.loop-field.at c.extent-of.result c.round_up-from.result c.loop-field.ranges c.push.new.self _ p c.in_ok-push.ensures.ok c.loop-field.invariant.0, p.rest)
