use Rattle.wg_store.proofs.Keeps.{slots_choice}
use Rattle.wg_store.proofs.laws.bests_are_chosen.Goals as goal

pub returns : goal.returns
returns c = slots_choice c.groups_are_counted.ensures c.only_units_are_needed.ensures
