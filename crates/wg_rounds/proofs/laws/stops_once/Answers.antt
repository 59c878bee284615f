use Rattle.wg_rounds.proofs.Same.{one_stop}
use Rattle.wg_rounds.proofs.laws.stops_once.Goals as goal

pub returns : goal.returns
returns c = one_stop
