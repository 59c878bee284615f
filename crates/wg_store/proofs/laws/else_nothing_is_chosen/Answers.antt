use Rattle.wg_store.proofs.Keeps.{no_choice}
use Rattle.wg_store.proofs.laws.else_nothing_is_chosen.Goals as goal

pub returns : goal.returns
returns c = no_choice c.groups_are_counted.ensures
