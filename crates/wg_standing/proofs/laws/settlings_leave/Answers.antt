use Rattle.wg_standing.proofs.Settling.{settling_leaves}
use Rattle.wg_standing.proofs.laws.settlings_leave.Goals as goal

pub returns : goal.returns
returns c = settling_leaves
