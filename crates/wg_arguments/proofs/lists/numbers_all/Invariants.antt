use Rattle.std.proofs.Common.{◌≡◌, map, drop}
use Rattle.wg_typing.specs.Conversions.{numbers}
use Rattle.wg_typing.specs.TypingIntrinsic.{all_numbers}
use Rattle.wg_typing.specs.declared.part.TypedPart.{TypedPart}
use Rattle.wg_arguments.specs.Arguments.{gathered}
use Rattle.wg_arguments.proofs.lists.numbers_all.Given as goal

abbrev pub invariant-loop-t : goal.invariant-loop-t
invariant-loop-t l = gathered l.done (map (λ (t : TypedPart). numbers t.of) (drop l.t-index l.ts)) ≡ all_numbers l.ts
