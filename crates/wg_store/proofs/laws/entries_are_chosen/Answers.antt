use Rattle.wg_store.proofs.Keeps.{entries_choice}
use Rattle.wg_store.proofs.laws.entries_are_chosen.Goals as goal

pub returns : goal.returns
returns c = entries_choice c.groups_are_counted.ensures c.only_units_are_needed.ensures
