use Rattle.wg_typing.proofs.Faults.{are_attribute_faults}
use Rattle.wg_typing.proofs.law.attribute_breaks_are_faults.Goals as goal

pub returns : goal.returns
returns c = record { listed = are_attribute_faults }
