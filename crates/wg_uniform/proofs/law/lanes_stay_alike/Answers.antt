use Rattle.wg_uniform.proofs.Launch.{start_alike, written_alike}
use Rattle.wg_uniform.proofs.law.lanes_stay_alike.Goals as goal

pub returns : goal.returns
returns c = record { declared = start_alike; stored = written_alike }
