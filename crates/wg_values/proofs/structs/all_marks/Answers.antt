use Rattle.std.proofs.Common.{ap, ◌∙◌, map}
use Rattle.wg_typed.specs.declared.typed.TypedField.{TypedField}
use Rattle.wg_typed.specs.Marks.{fields_marks}
use Rattle.wg_values.proofs.StructLoops.{marks_next}
use Rattle.wg_values.proofs.structs.all_marks.Goals as goal

pub loop-s-preserved : goal.loop-s-preserved
loop-s-preserved c =
    marks_next c.args.extents.now c.args.structs.now c.loop-s.s-index c.s-item.result c.loop-s.list c.push.new.self c.in_ok-marks.marks c.s-item.is c.loop-s-test.true (c.in_ok-marks.ensures ∙ ap (λ l. fields_marks c.args.extents.now l (map (λ (f : TypedField). f.of) c.as_slice-in-loop-s.result.now)) c.as_slice.ensures ∙ ap (λ fs. fields_marks c.args.extents.now c.loop-s.list (map (λ (f : TypedField). f.of) fs)) c.as_slice-in-loop-s.ensures) c.in_ok-push.ensures.ok c.loop-s.invariant
