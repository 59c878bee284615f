use Rattle.wg_standing.proofs.Settling.{taken_stay}
use Rattle.wg_standing.proofs.laws.taken_stay.Goals as goal

pub returns : goal.returns
returns c = taken_stay
