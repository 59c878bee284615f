use Rattle.wg_store.proofs.Opens.{opened_view}
use Rattle.wg_store.proofs.laws.openings_are_seen.Goals as goal

pub returns : goal.returns
returns c = opened_view c.groups_are_counted.ensures c.unopened_is_whole.ensures c.openings_place.ensures
