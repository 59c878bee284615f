use Rattle.wg_machine.proofs.Rooms.{has_room}
use Rattle.wg_machine.proofs.laws.something_has_room.Goals as goal

pub returns : goal.returns
returns c = has_room
