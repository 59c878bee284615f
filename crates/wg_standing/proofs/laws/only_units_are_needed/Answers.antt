use Rattle.wg_standing.proofs.Shapes.{need_none}
use Rattle.wg_standing.proofs.laws.only_units_are_needed.Goals as goal

pub returns : goal.returns
returns c = need_none
