use Rattle.std.proofs.Common.{arith, ◌≡◌, ◌+◌}
use Rattle.std.specs.Prelude.{min, ◌||◌}
use Rattle.wg_typed.specs.Layout.{rounded}
use Rattle.wg_layout.proofs.Capping.{field_added, joined_first, joined_second}
use Rattle.wg_layout.proofs.sizes.Sizes.of_fields.Goals as goal
use Rattle.wg_layout.proofs.sizes.Sizes.of_fields.Goals.{then-even, else-even}

-- src/sizes.rt:134:9
pub loop-field-preserved : goal.loop-field-preserved
loop-field-preserved c =
    let sum : c.min-at.result ≡ min (rounded c.extent-of.result.even c.loop-field.at + c.extent-of.result.words) 8193 = omega (arith, c.min-at.ensures, c.round_up.ensures) in
    let joined : c.if-even.even ≡ (c.loop-field.even || c.extent-of.result.even) =
    elim c.if-even.branch [ then-even w ↦ joined_first c.loop-field.even c.extent-of.result.even c.if-even.even w.if-even.true w.even-is | else-even w ↦ joined_second c.loop-field.even c.extent-of.result.even c.if-even.even w.if-even.false w.even-is ] in
    field_added c.args.self.now c.as_slice-field-items.result.now c.args.fields.now c.loop-field.field-index c.field-item.result c.loop-field.at c.min-at.result c.loop-field.even c.if-even.even c.extent-of.result c.field-item.is c.loop-field-test.true c.extent-of.ensures sum joined c.loop-field.invariant
