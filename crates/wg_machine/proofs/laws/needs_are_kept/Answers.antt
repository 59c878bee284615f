use Rattle.wg_machine.proofs.Budgets.{kept_needs}
use Rattle.wg_machine.proofs.laws.needs_are_kept.Goals as goal

pub returns : goal.returns
returns c = kept_needs
