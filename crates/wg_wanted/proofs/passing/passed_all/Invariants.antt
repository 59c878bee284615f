use Rattle.std.proofs.Common.{◌≡◌}
use Rattle.wg_typing.specs.TypingFunctionCall.{passed_all}
use Rattle.wg_wanted.proofs.After.{after}
use Rattle.wg_wanted.proofs.passing.passed_all.Given as goal

abbrev pub invariant-loop-part : goal.invariant-loop-part
invariant-loop-part l = after l.done (passed_all l.parameters l.part-iterator.rest.items) ≡ passed_all l.fn.parameters l.fn.parts
