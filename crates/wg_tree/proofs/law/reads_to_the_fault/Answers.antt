use Rattle.wg_tree.proofs.TextFaults.{left, wrong, deep}
use Rattle.wg_tree.proofs.law.reads_to_the_fault.Goals as goal

pub returns-clause-left : goal.returns-clause-left
returns-clause-left c = left

pub returns-clause-wrong : goal.returns-clause-wrong
returns-clause-wrong c = wrong

pub returns-clause-deep : goal.returns-clause-deep
returns-clause-deep c = deep
