use Rattle.std.proofs.Common.{arith}
use Rattle.wg_code.proofs.Bounds.{least_is}
use Rattle.wg_code.proofs.nodes.outputs_of.Goals as goal

pub loop-unit-init : goal.loop-unit-init
loop-unit-init c = (least_is c.args.units.now c.args.node, omega arith)
