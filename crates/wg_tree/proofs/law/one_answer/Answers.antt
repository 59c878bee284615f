use Rattle.wg_tree.proofs.TextFaults.{some_answer, one_answer}
use Rattle.wg_tree.proofs.law.one_answer.Goals as goal

pub returns-clause-some : goal.returns-clause-some
returns-clause-some c = some_answer

pub returns-clause-one : goal.returns-clause-one
returns-clause-one c = one_answer
