use Rattle.wg_store.proofs.Lives.{lives_opened}
use Rattle.wg_store.proofs.laws.openings_keep_lives.Goals as goal

pub returns : goal.returns
returns c = lives_opened
