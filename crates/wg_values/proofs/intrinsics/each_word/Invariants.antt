use Rattle.std.proofs.Common.{◌≡◌, map, take}
use Rattle.wg_values.specs.PerWord.{one_word}
use Rattle.wg_values.proofs.intrinsics.each_word.Given as goal

abbrev pub invariant-loop-x : goal.invariant-loop-x
invariant-loop-x l = l.list ≡ map (one_word l.call l.s) (take l.x-index l.a)
