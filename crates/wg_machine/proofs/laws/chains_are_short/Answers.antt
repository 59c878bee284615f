use Rattle.wg_machine.proofs.Chains.{short}
use Rattle.wg_machine.proofs.laws.chains_are_short.Goals as goal

pub returns : goal.returns
returns c = short
