use Rattle.wg_store.proofs.Found.{launch_is}
use Rattle.wg_store.proofs.laws.launches_are_told.Goals as goal

pub returns : goal.returns
returns c = launch_is
