use Rattle.wg_standing.proofs.Blocks.{never_blocks}
use Rattle.wg_standing.proofs.laws.never_blocked.Goals as goal

pub returns : goal.returns
returns c = λ core. never_blocks core core.bag
