use Rattle.wg_typing.proofs.Faults.{are_faults}
use Rattle.wg_typing.proofs.law.breaks_are_faults.Goals as goal

pub returns : goal.returns
returns c = record { listed = are_faults }
