use Rattle.wg_need.proofs.Reaching.{AreOrderedTo}
use Rattle.wg_need.proofs.sums.is_ordered.Given as goal

abbrev pub invariant-loop-output : goal.invariant-loop-output
invariant-loop-output l = AreOrderedTo l.outputs l.output-index l.least
