use Rattle.std.proofs.Common.{◌≡◌, ◌++◌, drop}
use Rattle.wg_typed.specs.Operators.{pairwise}
use Rattle.wg_values.specs.PerWord.{two_words}
use Rattle.wg_values.proofs.intrinsics.each_pair.Given as goal

abbrev pub invariant-loop-at : goal.invariant-loop-at
invariant-loop-at l = l.list ++ pairwise (two_words l.call l.s) (drop l.at l.a) (drop l.at l.b) ≡ pairwise (two_words l.call l.s) l.a l.b
