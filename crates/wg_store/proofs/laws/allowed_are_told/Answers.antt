use Rattle.wg_store.proofs.Launches.{told_is}
use Rattle.wg_store.proofs.laws.allowed_are_told.Goals as goal

pub returns : goal.returns
returns c = told_is
