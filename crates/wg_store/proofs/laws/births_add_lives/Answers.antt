use Rattle.wg_store.proofs.Lives.{lives_more}
use Rattle.wg_store.proofs.laws.births_add_lives.Goals as goal

pub returns : goal.returns
returns c = lives_more
