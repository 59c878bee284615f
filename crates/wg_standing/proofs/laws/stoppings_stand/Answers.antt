use Rattle.wg_standing.proofs.Stands.{stopping_stands}
use Rattle.wg_standing.proofs.laws.stoppings_stand.Goals as goal

pub returns : goal.returns
returns c = stopping_stands
