use Rattle.wg_adders.proofs.Adds.{adders_additive}
use Rattle.wg_adders.proofs.laws.adders_add.Goals as goal

pub returns : goal.returns
returns c = adders_additive
