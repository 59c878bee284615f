use Rattle.wg_standing.proofs.Stands.{keeping_places}
use Rattle.wg_standing.proofs.laws.keepings_place.Goals as goal

pub returns : goal.returns
returns c = keeping_places
