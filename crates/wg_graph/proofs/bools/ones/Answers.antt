use Rattle.std.proofs.Common.{refl}
use Rattle.wg_graph.proofs.Truths.{ones_more}
use Rattle.wg_graph.proofs.bools.ones.Goals as goal

pub loop-at-preserved : goal.loop-at-preserved
loop-at-preserved c = ones_more c.args.words.now c.loop-at.at c.loop-at.places c.add_if.new.places _ c.loop-at.invariant refl c.in_ok-add_if.ensures
