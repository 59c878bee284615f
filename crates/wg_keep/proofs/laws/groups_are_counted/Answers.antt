use Rattle.wg_keep.proofs.Places.{length_groups}
use Rattle.wg_keep.proofs.laws.groups_are_counted.Goals as goal

pub returns : goal.returns
returns c = length_groups
