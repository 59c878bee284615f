use Rattle.wg_bodies.proofs.Phases.{one_block}
use Rattle.wg_bodies.proofs.law.one_lane_runs_one_block.Goals as goal

pub returns : goal.returns
returns c = record { block = one_block }
