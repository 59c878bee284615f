use Rattle.wg_store.proofs.Lives.{unopened_waits}
use Rattle.wg_store.proofs.laws.unopened_wait.Goals as goal

pub returns : goal.returns
returns c = unopened_waits
