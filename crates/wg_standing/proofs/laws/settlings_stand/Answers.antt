use Rattle.wg_standing.proofs.Stands.{settling_stands}
use Rattle.wg_standing.proofs.laws.settlings_stand.Goals as goal

pub returns : goal.returns
returns c = settling_stands c.needs_are_kept.ensures
