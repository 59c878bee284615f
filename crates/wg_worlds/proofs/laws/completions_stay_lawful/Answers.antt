use Rattle.wg_worlds.specs.Kept.{closed_kept}
use Rattle.wg_worlds.proofs.laws.completions_stay_lawful.Goals as goal

pub returns : goal.returns
returns c = closed_kept
