use Rattle.wg_worlds.specs.Kept.{record_kept}
use Rattle.wg_worlds.proofs.laws.written_records_stay_lawful.Goals as goal

pub returns : goal.returns
returns c = record_kept
