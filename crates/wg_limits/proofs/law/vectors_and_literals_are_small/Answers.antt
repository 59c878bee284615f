use Rattle.wg_limits.proofs.Small.{vectors_small}
use Rattle.wg_limits.proofs.law.vectors_and_literals_are_small.Goals as goal

pub returns : goal.returns
returns c = record { small = vectors_small }
