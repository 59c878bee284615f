use Rattle.std.proofs.Common.{◌≡◌, ◌++◌, drop}
use Rattle.wg_typed.specs.Marks.{cleaned}
use Rattle.wg_values.proofs.marks.clean.Given as goal

abbrev pub invariant-loop-at : goal.invariant-loop-at
invariant-loop-at l = l.list ++ cleaned (drop l.at l.marks) (drop l.at l.words) ≡ cleaned l.marks l.words
