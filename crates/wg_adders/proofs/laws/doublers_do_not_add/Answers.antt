use Rattle.wg_adders.proofs.Adds.{doublers_not}
use Rattle.wg_adders.proofs.laws.doublers_do_not_add.Goals as goal

pub returns : goal.returns
returns c = doublers_not
