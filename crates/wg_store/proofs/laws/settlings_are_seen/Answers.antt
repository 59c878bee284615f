use Rattle.wg_store.proofs.Settles.{settled_view}
use Rattle.wg_store.proofs.laws.settlings_are_seen.Goals as goal

pub returns : goal.returns
returns c = settled_view c.groups_are_counted.ensures c.settlings_place.ensures
