use Rattle.wg_machine.proofs.Bounds.{sent_few}
use Rattle.wg_machine.proofs.laws.few_are_sent.Goals as goal

pub returns : goal.returns
returns c = sent_few
