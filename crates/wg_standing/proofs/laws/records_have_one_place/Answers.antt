use Rattle.wg_standing.proofs.Held.{one_place}
use Rattle.wg_standing.proofs.laws.records_have_one_place.Goals as goal

pub returns : goal.returns
returns c = one_place
