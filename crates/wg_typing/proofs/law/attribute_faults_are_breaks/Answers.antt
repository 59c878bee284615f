use Rattle.wg_typing.proofs.Faults.{are_attribute_breaks}
use Rattle.wg_typing.proofs.law.attribute_faults_are_breaks.Goals as goal

pub returns : goal.returns
returns c = record { breaks = are_attribute_breaks }
