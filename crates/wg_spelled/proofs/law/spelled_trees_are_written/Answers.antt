use Rattle.wg_spelled.proofs.Items.{tree_written}
use Rattle.wg_spelled.proofs.law.spelled_trees_are_written.Goals as goal

pub returns : goal.returns
returns c = record { written = tree_written }
