use Rattle.std.proofs.Common.{length}
use Rattle.wg_need.proofs.Built.{AreBuilt}
use Rattle.wg_need.proofs.table.rows_of.Given as goal

abbrev pub invariant-loop-unit : goal.invariant-loop-unit
invariant-loop-unit l = AreBuilt l.units (length l.units) l.unit-index l.ends.items l.needs.items l.seen
