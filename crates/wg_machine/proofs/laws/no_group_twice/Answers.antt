use Rattle.wg_machine.proofs.Groups.{once_in_grid}
use Rattle.wg_machine.proofs.laws.no_group_twice.Goals as goal

pub returns : goal.returns
returns c = once_in_grid
