use Rattle.wg_machine.proofs.Bounds.{strides_small}
use Rattle.wg_machine.proofs.laws.strides_are_small.Goals as goal

pub returns : goal.returns
returns c = strides_small
