use Rattle.wg_standing.proofs.Begun.{begun_placed}
use Rattle.wg_standing.proofs.laws.beginnings_place.Goals as goal

pub returns : goal.returns
returns c = begun_placed
