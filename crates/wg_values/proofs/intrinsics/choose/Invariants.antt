use Rattle.std.proofs.Common.{◌≡◌, ◌++◌, drop}
use Rattle.wg_typed.specs.Intrinsics.{selected}
use Rattle.wg_values.proofs.intrinsics.choose.Given as goal

abbrev pub invariant-loop-at : goal.invariant-loop-at
invariant-loop-at l = l.list ++ selected (drop l.at l.c) (drop l.at l.a) (drop l.at l.b) ≡ selected l.c l.a l.b
