use Rattle.wg_standing.proofs.Settling.{freed_within}
use Rattle.wg_standing.proofs.laws.settlings_free.Goals as goal

pub returns : goal.returns
returns c = freed_within
