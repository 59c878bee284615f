use Rattle.wg_store.proofs.Settles.{settled_kept}
use Rattle.wg_store.proofs.laws.settlings_keep.Goals as goal

pub returns : goal.returns
returns c = settled_kept c.groups_are_counted.ensures c.settlings_place.ensures
