use Rattle.wg_rounds.proofs.Same.{one_end}
use Rattle.wg_rounds.proofs.laws.runs_out_once.Goals as goal

pub returns : goal.returns
returns c = one_end
