use Rattle.wg_worlds.specs.Kept.{begins}
use Rattle.wg_worlds.proofs.laws.launches_begin_lawful.Goals as goal

pub returns : goal.returns
returns c = begins
