use Rattle.wg_worlds.specs.Kept.{inputs_kept}
use Rattle.wg_worlds.proofs.laws.written_inputs_stay_lawful.Goals as goal

pub returns : goal.returns
returns c = inputs_kept
