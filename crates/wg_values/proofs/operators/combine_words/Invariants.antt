use Rattle.std.proofs.Common.{◌≡◌, ◌++◌, drop}
use Rattle.wg_typed.specs.Operators.{combined, pairwise}
use Rattle.wg_values.proofs.operators.combine_words.Given as goal

abbrev pub invariant-loop-at : goal.invariant-loop-at
invariant-loop-at l = l.list ++ pairwise (combined l.operator l.s) (drop l.at l.a) (drop l.at l.b) ≡ pairwise (combined l.operator l.s) l.a l.b
