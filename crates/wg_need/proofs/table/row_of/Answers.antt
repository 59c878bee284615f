use Rattle.std.proofs.Common.{length}
use Rattle.wg_need.proofs.Blocks.{row_part}
use Rattle.wg_need.proofs.table.row_of.Goals as goal

pub part_of-requires-clause-order : goal.part_of-requires-clause-order
part_of-requires-clause-order c = rw c.begin_of.ensures (row_part 0 c.args.ends.now (length c.args.needs.now) c.args.row c.requires.ends c.requires.row).order

pub part_of-requires-clause-within : goal.part_of-requires-clause-within
part_of-requires-clause-within c = (row_part 0 c.args.ends.now (length c.args.needs.now) c.args.row c.requires.ends c.requires.row).within
