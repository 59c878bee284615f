use Rattle.wg_standing.proofs.Begun.{begun_stands}
use Rattle.wg_standing.proofs.laws.beginnings_stand.Goals as goal

pub returns : goal.returns
returns c = begun_stands
