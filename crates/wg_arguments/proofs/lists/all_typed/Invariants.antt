use Rattle.std.proofs.Common.{◌≡◌}
use Rattle.wg_typing.specs.Maybe.{all_of}
use Rattle.wg_arguments.specs.Arguments.{gathered}
use Rattle.wg_arguments.proofs.lists.all_typed.Given as goal

abbrev pub invariant-loop-part : goal.invariant-loop-part
invariant-loop-part l = gathered l.done l.part-iterator.rest.items ≡ all_of l.fn.parts
