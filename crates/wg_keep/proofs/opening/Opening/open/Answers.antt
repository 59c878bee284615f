use Rattle.wg_machine.specs.Grids.{groups_of}
use Rattle.wg_keep.proofs.Openings.{drop_cons}
use Rattle.wg_keep.proofs.opening.Opening.open.Goals as goal

pub returns-clause-opens : goal.returns-clause-opens
returns-clause-opens c = drop_cons (groups_of c.args.self.now.grid) c.args.self.now.opened c.group_at-at.result c.group_at-at.ensures.group
