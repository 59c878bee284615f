use Rattle.std.proofs.Common.{◌≡◌, ◌++◌, drop}
use Rattle.wg_values.proofs.marks.push_all.Given as goal

abbrev pub invariant-loop-mark : goal.invariant-loop-mark
invariant-loop-mark l = l.list ++ drop l.mark-index l.more ≡ l.initial.list ++ l.more
