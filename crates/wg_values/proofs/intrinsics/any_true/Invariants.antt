use Rattle.std.proofs.Common.{◌≡◌, drop}
use Rattle.wg_typed.specs.Intrinsics.{is_any_true}
use Rattle.wg_values.proofs.intrinsics.any_true.Given as goal

abbrev pub invariant-loop-x : goal.invariant-loop-x
invariant-loop-x l = is_any_true (drop l.x-index l.a) ≡ is_any_true l.a
