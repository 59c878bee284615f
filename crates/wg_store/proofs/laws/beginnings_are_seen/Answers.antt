use Rattle.wg_store.proofs.Begins.{begun_view}
use Rattle.wg_store.proofs.laws.beginnings_are_seen.Goals as goal

pub returns : goal.returns
returns c = begun_view c.beginnings_place.ensures
