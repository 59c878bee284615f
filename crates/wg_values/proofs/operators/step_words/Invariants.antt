use Rattle.std.proofs.Common.{◌≡◌, map, take}
use Rattle.wg_typed.specs.Operators.{stepped}
use Rattle.wg_values.proofs.operators.step_words.Given as goal

abbrev pub invariant-loop-x : goal.invariant-loop-x
invariant-loop-x l = l.list ≡ map (stepped l.operator l.s) (take l.x-index l.a)
