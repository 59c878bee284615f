use Rattle.wg_machine.proofs.Launches.{is_allowed}
use Rattle.wg_machine.proofs.laws.launch_in_is_allowed.Goals as goal

pub returns : goal.returns
returns c = is_allowed
