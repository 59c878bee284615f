use Rattle.std.proofs.Common.{◌≡◌}
use Rattle.wg_typed.specs.Marks.{repeated}
use Rattle.wg_values.proofs.marks.repeat_all.Given as goal

abbrev pub invariant-loop-i : goal.invariant-loop-i
invariant-loop-i l = l.list ≡ repeated l._i l.marks
