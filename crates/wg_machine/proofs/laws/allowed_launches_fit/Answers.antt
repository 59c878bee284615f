use Rattle.wg_machine.proofs.Fits.{allowed_fits}
use Rattle.wg_machine.proofs.laws.allowed_launches_fit.Goals as goal

pub returns : goal.returns
returns c = allowed_fits
