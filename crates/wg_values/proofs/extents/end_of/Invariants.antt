use Rattle.std.proofs.Common.{◌≡◌, map, drop}
use Rattle.wg_typed.specs.Layout.{end_after}
use Rattle.wg_typed.specs.declared.typed.TypedField.{TypedField}
use Rattle.wg_values.proofs.extents.end_of.Given as goal

abbrev pub invariant-loop-field : goal.invariant-loop-field
invariant-loop-field l = end_after l.extents l.at (map (λ (f : TypedField). f.of) (drop l.field-index l.fields)) ≡ end_after l.extents 0 (map (λ (f : TypedField). f.of) l.fields)
