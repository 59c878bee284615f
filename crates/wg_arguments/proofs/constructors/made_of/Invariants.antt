use Rattle.std.proofs.Common.{◌≡◌, ◌++◌, drop}
use Rattle.wg_arguments.specs.Arguments.{made_of}
use Rattle.wg_arguments.proofs.constructors.made_of.Given as goal

abbrev pub invariant-loop-n : goal.invariant-loop-n
invariant-loop-n l = l.made ++ made_of l.of (drop l.n-index l.ns) ≡ made_of l.of l.ns
