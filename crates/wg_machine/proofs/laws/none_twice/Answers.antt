use Rattle.wg_machine.proofs.Once.{at_most_once}
use Rattle.wg_machine.proofs.laws.none_twice.Goals as goal

pub returns : goal.returns
returns c = at_most_once
