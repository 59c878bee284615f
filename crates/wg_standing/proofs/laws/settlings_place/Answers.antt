use Rattle.wg_standing.proofs.Stands.{settling_places}
use Rattle.wg_standing.proofs.laws.settlings_place.Goals as goal

pub returns : goal.returns
returns c = settling_places c.needs_are_kept.ensures
