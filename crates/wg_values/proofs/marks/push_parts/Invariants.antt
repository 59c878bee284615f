use Rattle.std.proofs.Common.{◌≡◌, [], map, drop}
use Rattle.wg_typed.specs.Marks.{marks_behind}
use Rattle.wg_typed.specs.declared.typed.TypedField.{TypedField}
use Rattle.wg_values.proofs.marks.push_parts.Given as goal

abbrev pub invariant-loop-field : goal.invariant-loop-field
invariant-loop-field l = marks_behind l.extents l.known l.list (map (λ (f : TypedField). f.of) (drop l.field-index l.fields)) ≡ marks_behind l.extents l.known [] (map (λ (f : TypedField). f.of) l.fields)
