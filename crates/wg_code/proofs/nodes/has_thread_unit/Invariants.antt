use Rattle.std.proofs.Common.{◌≡◌, drop}
use Rattle.wg_code.specs.Valid.{has_threads}
use Rattle.wg_code.proofs.nodes.has_thread_unit.Given as goal

abbrev pub invariant-loop-unit : goal.invariant-loop-unit
invariant-loop-unit l = has_threads (drop l.unit-index l.units) l.node ≡ has_threads l.units l.node
