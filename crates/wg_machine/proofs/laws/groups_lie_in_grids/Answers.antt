use Rattle.wg_machine.proofs.Groups.{place_in_grid}
use Rattle.wg_machine.proofs.laws.groups_lie_in_grids.Goals as goal

pub returns : goal.returns
returns c = place_in_grid
