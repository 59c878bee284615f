use Rattle.wg_typing.proofs.Faults.{none_wrong}
use Rattle.wg_typing.proofs.law.no_attribute_faults_no_breaks.Goals as goal

pub returns : goal.returns
returns c = record { right = none_wrong }
