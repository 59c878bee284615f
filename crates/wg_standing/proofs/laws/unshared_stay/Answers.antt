use Rattle.wg_standing.proofs.Settling.{unshared_stay}
use Rattle.wg_standing.proofs.laws.unshared_stay.Goals as goal

pub returns : goal.returns
returns c = unshared_stay
