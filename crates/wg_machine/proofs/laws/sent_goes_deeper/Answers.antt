use Rattle.wg_machine.proofs.Deeper.{sent_deeper}
use Rattle.wg_machine.proofs.laws.sent_goes_deeper.Goals as goal

pub returns : goal.returns
returns c = sent_deeper
