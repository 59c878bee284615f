use Rattle.wg_keep.proofs.Places.{at_place, place_at}
use Rattle.wg_keep.proofs.group.group_at.Goals as goal

pub returns-clause-group : goal.returns-clause-group
returns-clause-group c = at_place c.args.grid.now c.args.place c.requires

pub returns-clause-place : goal.returns-clause-place
returns-clause-place c = place_at c.args.grid.now c.args.place c.requires
