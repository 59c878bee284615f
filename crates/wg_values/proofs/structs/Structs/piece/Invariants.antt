use Rattle.std.proofs.Common.{◌≡◌, map, drop}
use Rattle.std.specs.Prelude.{slice_get, unwrap_or}
use Rattle.wg_typed.specs.Layout.{extents_of, ranges_after, nowhere}
use Rattle.wg_typed.specs.declared.typed.TypedField.{TypedField}
use Rattle.wg_values.proofs.structs.Structs.piece.Given as goal

abbrev pub invariant-loop-field : goal.invariant-loop-field
invariant-loop-field l = unwrap_or (slice_get (ranges_after (extents_of l.self) l.at (map (λ (f : TypedField). f.of) (drop l.field-index l.fields))) l.left) nowhere ≡ unwrap_or (slice_get (ranges_after (extents_of l.self) 0 (map (λ (f : TypedField). f.of) l.fields)) l.fn.wanted) nowhere
