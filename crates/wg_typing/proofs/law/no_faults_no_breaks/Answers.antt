use Rattle.wg_typing.proofs.Faults.{none_broken}
use Rattle.wg_typing.proofs.law.no_faults_no_breaks.Goals as goal

pub returns : goal.returns
returns c = record { well_typed = none_broken }
