use Rattle.wg_worlds.specs.Endings.{keeps_laws}
use Rattle.wg_worlds.proofs.laws.lawful_worlds_keep_laws.Goals as goal

pub returns : goal.returns
returns c = keeps_laws
