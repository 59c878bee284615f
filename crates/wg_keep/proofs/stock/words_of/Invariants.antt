use Rattle.std.proofs.Common.{◌≡◌, map, take}
use Rattle.wg_machine.specs.declared.shape.Unit.{Unit}
use Rattle.wg_keep.proofs.stock.words_of.Given as goal

abbrev pub invariant-loop-unit : goal.invariant-loop-unit
invariant-loop-unit l = l.words.items ≡ map (λ (u : Unit). u.words) (take l.unit-index l.unit-items)
