use Rattle.wg_tree.proofs.TextExact.{one_tree}
use Rattle.wg_tree.proofs.law.spells_one_tree.Goals as goal

pub returns : goal.returns
returns c = one_tree
