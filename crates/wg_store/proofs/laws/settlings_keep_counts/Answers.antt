use Rattle.wg_store.proofs.Lives.{settled_counted}
use Rattle.wg_store.proofs.laws.settlings_keep_counts.Goals as goal

pub returns : goal.returns
returns c = settled_counted
