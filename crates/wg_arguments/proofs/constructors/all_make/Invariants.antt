use Rattle.std.proofs.Common.{◌≡◌, drop}
use Rattle.wg_typing.specs.TypingConstructor.{all_make}
use Rattle.wg_arguments.proofs.constructors.all_make.Given as goal

abbrev pub invariant-loop-t : goal.invariant-loop-t
invariant-loop-t l = all_make l.size (drop l.t-index l.ts) ≡ all_make l.size l.ts
