use Rattle.wg_store.proofs.Opens.{choice_opens}
use Rattle.wg_store.proofs.laws.choices_are_next.Goals as goal

pub returns : goal.returns
returns c = choice_opens c.groups_are_counted.ensures c.unopened_is_whole.ensures
