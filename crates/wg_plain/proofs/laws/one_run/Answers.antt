use Rattle.wg_plain.proofs.Runs.{one_run}
use Rattle.wg_plain.proofs.laws.one_run.Goals as goal

pub returns : goal.returns
returns c = one_run c.allowed_is_launch_in.ensures
