use Rattle.wg_sound.proofs.Texts.{typed_is_sound}
use Rattle.wg_sound.proofs.law.buffers_are_few.Goals as goal

pub returns : goal.returns
returns c = record { few = λ tree t w e. (typed_is_sound tree t w e).few_buffers }
