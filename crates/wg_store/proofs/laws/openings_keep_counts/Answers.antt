use Rattle.wg_store.proofs.Lives.{opened_counted}
use Rattle.wg_store.proofs.laws.openings_keep_counts.Goals as goal

pub returns : goal.returns
returns c = opened_counted
