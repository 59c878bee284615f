use Rattle.wg_attribute_limits.proofs.TextKeeps.{text_keeps}
use Rattle.wg_attribute_limits.proofs.law.well_typed_keeps_the_rest.Goals as goal

pub returns : goal.returns
returns c = record { keeps = text_keeps }
