use Rattle.std.proofs.Common.{◌≡◌, [], drop}
use Rattle.wg_typed.specs.Marks.{marks_after}
use Rattle.wg_values.proofs.structs.all_marks.Given as goal

abbrev pub invariant-loop-s : goal.invariant-loop-s
invariant-loop-s l = marks_after l.extents l.list (drop l.s-index l.structs) ≡ marks_after l.extents [] l.structs
