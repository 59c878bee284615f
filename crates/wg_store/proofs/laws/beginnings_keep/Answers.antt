use Rattle.wg_store.proofs.Begins.{begun_kept}
use Rattle.wg_store.proofs.laws.beginnings_keep.Goals as goal

pub returns : goal.returns
returns c = begun_kept c.groups_are_counted.ensures c.beginnings_place.ensures
