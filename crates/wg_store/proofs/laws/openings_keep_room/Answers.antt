use Rattle.wg_store.proofs.Opens.{opened_room}
use Rattle.wg_store.proofs.laws.openings_keep_room.Goals as goal

pub returns : goal.returns
returns c = opened_room c.only_units_are_needed.ensures
