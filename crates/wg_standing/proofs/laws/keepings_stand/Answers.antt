use Rattle.wg_standing.proofs.Stands.{keeping_stands}
use Rattle.wg_standing.proofs.laws.keepings_stand.Goals as goal

pub returns : goal.returns
returns c = keeping_stands
