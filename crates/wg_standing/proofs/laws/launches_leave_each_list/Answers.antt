use Rattle.wg_standing.proofs.Lists.{those_left}
use Rattle.wg_standing.proofs.laws.launches_leave_each_list.Goals as goal

pub returns : goal.returns
returns c = those_left
