use Rattle.wg_sound.proofs.Texts.{typed_is_sound}
use Rattle.wg_sound.proofs.law.outputs_are_few.Goals as goal

pub returns : goal.returns
returns c = record { few = λ tree t number f w e at. ((typed_is_sound tree t w e).functions number f at).few_outputs }
