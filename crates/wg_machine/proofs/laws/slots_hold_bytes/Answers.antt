use Rattle.wg_machine.proofs.Slots.{bytes_held}
use Rattle.wg_machine.proofs.laws.slots_hold_bytes.Goals as goal

pub returns : goal.returns
returns c = bytes_held
