use Rattle.std.proofs.Common.{subst, sym}
use Rattle.wg_machine.specs.GoodShape.{IsGoodShape}
use Rattle.wg_counters.proofs.GoodGraphs.{splits_good}
use Rattle.wg_counters.proofs.graphs.splits.Goals as goal

pub returns-clause-good : goal.returns-clause-good
returns-clause-good c = subst IsGoodShape (sym c.in_ok-shape.ensures) splits_good
