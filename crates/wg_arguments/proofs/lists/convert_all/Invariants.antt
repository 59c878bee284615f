use Rattle.std.proofs.Common.{◌≡◌}
use Rattle.wg_typing.specs.TypingIntrinsic.{convert_all}
use Rattle.wg_arguments.specs.Arguments.{converted}
use Rattle.wg_arguments.proofs.lists.convert_all.Given as goal

abbrev pub invariant-loop-t : goal.invariant-loop-t
invariant-loop-t l = converted l.done l.types l.t-iterator.rest.items ≡ convert_all l.fn.types l.fn.ts
