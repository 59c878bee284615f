use Rattle.wg_standing.proofs.Stands.{opening_stands}
use Rattle.wg_standing.proofs.laws.openings_stand.Goals as goal

pub returns : goal.returns
returns c = opening_stands
