use Rattle.wg_worlds.specs.Kept.{buffers_kept}
use Rattle.wg_worlds.proofs.laws.written_buffers_stay_lawful.Goals as goal

pub returns : goal.returns
returns c = buffers_kept
