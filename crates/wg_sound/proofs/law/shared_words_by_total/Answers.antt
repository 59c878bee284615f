use Rattle.wg_sound.proofs.Totals.{total_is}
use Rattle.wg_sound.proofs.law.shared_words_by_total.Goals as goal

pub returns : goal.returns
returns c = record { total = total_is }
