use Rattle.std.proofs.Common.{◌≡◌, ◌+◌, drop}
use Rattle.wg_semantics.specs.Places.{over_written}
use Rattle.wg_values.proofs.words.write_over.Given as goal

abbrev pub invariant-loop-i : goal.invariant-loop-i
invariant-loop-i l = over_written l.list.items (l.from + l.i) (drop l.i l.values) ≡ over_written l.fn.words l.from l.values
