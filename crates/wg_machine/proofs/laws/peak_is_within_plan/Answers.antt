use Rattle.wg_machine.proofs.Peaks.{peak_held}
use Rattle.wg_machine.proofs.laws.peak_is_within_plan.Goals as goal

pub returns : goal.returns
returns c = peak_held
