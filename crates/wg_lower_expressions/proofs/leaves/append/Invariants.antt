use Rattle.std.proofs.Common.{◌≡◌, ◌++◌, drop}
use Rattle.wg_lower_expressions.proofs.leaves.append.Given as goal

abbrev pub invariant-loop-register : goal.invariant-loop-register
invariant-loop-register l = l.list ++ drop l.register-index l.register-items ≡ l.initial.list ++ l.register-items
