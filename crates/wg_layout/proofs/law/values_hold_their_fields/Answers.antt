use Rattle.wg_layout.proofs.FieldWords.{holds_fields}
use Rattle.wg_layout.proofs.law.values_hold_their_fields.Goals as goal

pub returns : goal.returns
returns c = record { holds = holds_fields }
