use Rattle.wg_standing.proofs.Fitting.{out_fits}
use Rattle.wg_standing.proofs.laws.outs_fit.Goals as goal

pub returns : goal.returns
returns c = out_fits
