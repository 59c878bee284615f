use Rattle.wg_machine.proofs.Fits.{run_fits}
use Rattle.wg_machine.proofs.laws.runs_fit.Goals as goal

pub returns : goal.returns
returns c = run_fits
