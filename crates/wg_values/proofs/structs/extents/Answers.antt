use Rattle.std.proofs.Common.{ap, ◌∙◌, map}
use Rattle.wg_typed.specs.declared.typed.TypedField.{TypedField}
use Rattle.wg_typed.specs.Layout.{fields_extent}
use Rattle.wg_values.proofs.StructLoops.{extents_next}
use Rattle.wg_values.proofs.structs.extents.Goals as goal

pub loop-s-preserved : goal.loop-s-preserved
loop-s-preserved c =
    extents_next c.args.structs.now c.loop-s.s-index c.s-item.result c.loop-s.list c.push.new.self c.in_ok-extent.extent c.s-item.is c.loop-s-test.true (c.in_ok-extent.ensures ∙ ap (λ l. fields_extent l (map (λ (f : TypedField). f.of) c.as_slice-in-loop-s.result.now)) c.as_slice.ensures ∙ ap (λ fs. fields_extent c.loop-s.list (map (λ (f : TypedField). f.of) fs)) c.as_slice-in-loop-s.ensures) c.in_ok-push.ensures.ok c.loop-s.invariant
