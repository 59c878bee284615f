use Rattle.wg_store.proofs.Begins.{begun_room}
use Rattle.wg_store.proofs.laws.beginnings_keep_room.Goals as goal

pub returns : goal.returns
returns c = begun_room c.beginnings_place.ensures
