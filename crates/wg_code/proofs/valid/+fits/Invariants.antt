use Rattle.std.proofs.Common.{◌≡◌, drop}
use Rattle.wg_code.specs.Valid.{are_valid}
use Rattle.wg_code.specs.Given.{scope_of}
use Rattle.wg_code.proofs.valid.+fits.Given as goal

abbrev pub invariant-ops_fit-loop-op : goal.invariant-ops_fit-loop-op
invariant-ops_fit-loop-op l = are_valid (scope_of l.k) l.in_loop (drop l.op-index l.ops) ≡ are_valid (scope_of l.k) l.in_loop l.ops
