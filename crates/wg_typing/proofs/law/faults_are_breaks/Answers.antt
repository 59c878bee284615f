use Rattle.wg_typing.proofs.Faults.{are_breaks}
use Rattle.wg_typing.proofs.law.faults_are_breaks.Goals as goal

pub returns : goal.returns
returns c = record { breaks = are_breaks }
