use Rattle.wg_sound.proofs.Literals.{literal_count, literal_fits}
use Rattle.wg_sound.proofs.law.literals_fit.Goals as goal

pub returns : goal.returns
returns c = record { count = literal_count; words = literal_fits }
