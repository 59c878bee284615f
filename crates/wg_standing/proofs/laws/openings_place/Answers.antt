use Rattle.wg_standing.proofs.Stands.{opening_places}
use Rattle.wg_standing.proofs.laws.openings_place.Goals as goal

pub returns : goal.returns
returns c = opening_places
