use Rattle.std.proofs.Common.{length, take}
use Rattle.wg_need.proofs.Reaching.{AreAdded}
use Rattle.wg_need.proofs.sums.add_all.Given as goal

abbrev pub invariant-loop-output : goal.invariant-loop-output
invariant-loop-output l = AreAdded l.budget l.start (length l.initial.seen) (take l.output-index l.outputs) l.initial.needs.items l.seen l.needs.items
