use Rattle.wg_standing.proofs.Settling.{unopened_whole}
use Rattle.wg_standing.proofs.laws.unopened_is_whole.Goals as goal

pub returns : goal.returns
returns c = unopened_whole
