use Rattle.wg_rounds.proofs.Same.{not_both}
use Rattle.wg_rounds.proofs.laws.never_both.Goals as goal

pub returns : goal.returns
returns c = not_both
