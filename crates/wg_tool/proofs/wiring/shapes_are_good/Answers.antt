use Rattle.wg_tool.proofs.GoodShapes.{good_shape}
use Rattle.wg_tool.proofs.wiring.shapes_are_good.Goals as goal

pub returns : goal.returns
returns c = good_shape
