use Rattle.std.proofs.Common.{◌≡◌, drop}
use Rattle.std.specs.Prelude.{◌==◌}
use Rattle.wg_typing.specs.TypingConstructor.{component_count, components}
use Rattle.wg_arguments.proofs.constructors.counts.Given as goal

abbrev pub invariant-loop-n : goal.invariant-loop-n
invariant-loop-n l = (component_count (drop l.n-index l.ns) == l.left) ≡ (component_count l.ns == components l.fn.size)
