use Rattle.wg_machine.proofs.Launches.{launch_is}
use Rattle.wg_machine.proofs.laws.allowed_is_launch_in.Goals as goal

pub returns : goal.returns
returns c = launch_is
