use Rattle.std.proofs.Common.{◌≡◌}
use Rattle.wg_typing.specs.Layers.{fit_all}
use Rattle.wg_wanted.proofs.After.{after}
use Rattle.wg_wanted.proofs.fitting.fit_all.Given as goal

abbrev pub invariant-loop-part : goal.invariant-loop-part
invariant-loop-part l = after l.done (fit_all l.types l.part-iterator.rest.items) ≡ fit_all l.fn.types l.fn.parts
