use Rattle.wg_machine.proofs.Fits.{step_keeps}
use Rattle.wg_machine.proofs.laws.steps_fit.Goals as goal

pub returns : goal.returns
returns c = step_keeps
