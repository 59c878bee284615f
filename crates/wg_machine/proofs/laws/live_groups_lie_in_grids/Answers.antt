use Rattle.wg_machine.proofs.Fits.{live_lies}
use Rattle.wg_machine.proofs.laws.live_groups_lie_in_grids.Goals as goal

pub returns : goal.returns
returns c = live_lies
