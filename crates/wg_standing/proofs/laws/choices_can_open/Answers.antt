use Rattle.wg_standing.proofs.Chosen.{choice_fine}
use Rattle.wg_standing.proofs.laws.choices_can_open.Goals as goal

pub returns : goal.returns
returns c = choice_fine
