use Rattle.std.proofs.Common.{◌≡◌, map, drop}
use Rattle.wg_typed.specs.Layout.{has_even}
use Rattle.wg_typed.specs.declared.typed.TypedField.{TypedField}
use Rattle.wg_values.proofs.extents.any_even.Given as goal

abbrev pub invariant-loop-field : goal.invariant-loop-field
invariant-loop-field l = has_even l.extents (map (λ (f : TypedField). f.of) (drop l.field-index l.fields)) ≡ has_even l.extents (map (λ (f : TypedField). f.of) l.fields)
