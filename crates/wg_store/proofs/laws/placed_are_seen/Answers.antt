use Rattle.wg_store.proofs.Sights.{seen_is}
use Rattle.wg_store.proofs.laws.placed_are_seen.Goals as goal

pub returns : goal.returns
returns c = seen_is
