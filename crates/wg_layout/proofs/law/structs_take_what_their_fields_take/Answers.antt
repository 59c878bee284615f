use Rattle.wg_layout.proofs.Ranges.{fields_take}
use Rattle.wg_layout.proofs.law.structs_take_what_their_fields_take.Goals as goal

pub returns : goal.returns
returns c = record { takes = fields_take }
