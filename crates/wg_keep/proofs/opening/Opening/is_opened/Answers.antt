use Rattle.wg_keep.proofs.Openings.{opened_is}
use Rattle.wg_keep.proofs.opening.Opening.is_opened.Goals as goal

pub returns : goal.returns
returns c = opened_is c.args.self.now c.from.result c.count_groups.result c.requires c.from.ensures c.count_groups.ensures
