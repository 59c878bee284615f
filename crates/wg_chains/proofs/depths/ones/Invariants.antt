use Rattle.wg_chains.proofs.Reached.{Ones}
use Rattle.wg_chains.proofs.depths.ones.Given as goal

abbrev pub invariant-loop-n : goal.invariant-loop-n
invariant-loop-n l = Ones l._n l.depths
