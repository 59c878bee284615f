use Rattle.wg_shapes.proofs.GoodShapes.{shape_good}
use Rattle.wg_shapes.proofs.law.shapes_are_good.Goals as goal

pub returns : goal.returns
returns c = record { good = shape_good }
