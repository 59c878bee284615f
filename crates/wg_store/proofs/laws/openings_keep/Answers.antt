use Rattle.wg_store.proofs.Opens.{opened_kept}
use Rattle.wg_store.proofs.laws.openings_keep.Goals as goal

pub returns : goal.returns
returns c = opened_kept c.groups_are_counted.ensures c.unopened_is_whole.ensures c.openings_place.ensures
