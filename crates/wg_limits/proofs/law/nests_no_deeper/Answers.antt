use Rattle.wg_limits.proofs.Nested.{branches_within, depth_within}
use Rattle.wg_limits.proofs.law.nests_no_deeper.Goals as goal

pub returns-clause-statements : goal.returns-clause-statements
returns-clause-statements c = depth_within

pub returns-clause-expressions : goal.returns-clause-expressions
returns-clause-expressions c = branches_within
