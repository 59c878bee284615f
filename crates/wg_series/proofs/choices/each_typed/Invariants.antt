use Rattle.std.proofs.Common.{◌≡◌, ◌++◌, map}
use Rattle.wg_typing.specs.Layers.{typed_part}
use Rattle.wg_series.proofs.choices.each_typed.Given as goal

abbrev pub invariant-loop-part : goal.invariant-loop-part
invariant-loop-part l = l.typed ++ map typed_part l.part-iterator.rest.items ≡ map typed_part l.fn.parts
