use Rattle.wg_plan.proofs.Good.{small_shape}
use Rattle.wg_plan.proofs.laws.good_shapes_are_small.Goals as goal

pub returns : goal.returns
returns c = small_shape
