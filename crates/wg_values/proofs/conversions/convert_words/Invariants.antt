use Rattle.std.proofs.Common.{◌≡◌, map, take}
use Rattle.wg_typed.specs.Operators.{converted_number}
use Rattle.wg_values.proofs.conversions.convert_words.Given as goal

abbrev pub invariant-loop-x : goal.invariant-loop-x
invariant-loop-x l = l.list ≡ map (converted_number l.from l.to) (take l.x-index l.words)
