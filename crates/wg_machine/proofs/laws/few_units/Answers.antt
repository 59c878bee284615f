use Rattle.wg_machine.proofs.Bounds.{units_few}
use Rattle.wg_machine.proofs.laws.few_units.Goals as goal

pub returns : goal.returns
returns c = units_few
