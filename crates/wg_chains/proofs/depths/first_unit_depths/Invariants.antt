use Rattle.wg_chains.specs.Arrived.{AreReached}
use Rattle.wg_chains.proofs.depths.first_unit_depths.Given as goal

abbrev pub invariant-loop-k : goal.invariant-loop-k
invariant-loop-k l = AreReached l.nodes l._k l.depths
