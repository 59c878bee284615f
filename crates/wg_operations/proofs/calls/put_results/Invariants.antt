use Rattle.std.proofs.Common.{◌≡◌, drop}
use Rattle.wg_code.specs.Lane.{set_all}
use Rattle.wg_operations.proofs.calls.put_results.Given as goal

abbrev pub invariant-loop-r : goal.invariant-loop-r
invariant-loop-r l = set_all l.registers (drop l.r-index l.results) (drop l.at l.values) ≡ set_all l.initial.registers l.results (drop l.first l.values)
