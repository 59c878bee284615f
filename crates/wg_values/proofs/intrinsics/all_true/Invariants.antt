use Rattle.std.proofs.Common.{◌≡◌, drop}
use Rattle.wg_typed.specs.Intrinsics.{are_all_true}
use Rattle.wg_values.proofs.intrinsics.all_true.Given as goal

abbrev pub invariant-loop-x : goal.invariant-loop-x
invariant-loop-x l = are_all_true (drop l.x-index l.a) ≡ are_all_true l.a
