use Rattle.wg_standing.proofs.Stands.{bytes_of_slots}
use Rattle.wg_standing.proofs.laws.bytes_are_of_slots.Goals as goal

pub returns : goal.returns
returns c = bytes_of_slots
