use Rattle.wg_adders.proofs.Adds.{adders_lawful}
use Rattle.wg_adders.proofs.laws.adders_keep_laws.Goals as goal

pub returns : goal.returns
returns c = adders_lawful
