use Rattle.wg_chains.proofs.Reached.{RoundFilled}
use Rattle.wg_chains.proofs.depths.round.Given as goal

abbrev pub invariant-loop-n : goal.invariant-loop-n
invariant-loop-n l = RoundFilled l.nodes l.depths l.n l.next
