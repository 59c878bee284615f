use Rattle.wg_attribute_limits.proofs.Fitting.{sound_sized}
use Rattle.wg_attribute_limits.proofs.law.sound_texts_are_sized.Goals as goal

pub returns : goal.returns
returns c = record { sized = sound_sized }
