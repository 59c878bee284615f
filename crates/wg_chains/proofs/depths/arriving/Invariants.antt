use Rattle.wg_chains.proofs.Reached.{Arriving}
use Rattle.wg_chains.proofs.depths.arriving.Given as goal

abbrev pub invariant-loop-i : goal.invariant-loop-i
invariant-loop-i l = Arriving l.nodes l.depths l.n l.i l.best
