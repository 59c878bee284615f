use Rattle.std.proofs.Common.{length}
use Rattle.wg_cursor.proofs.terminals.+at_class.Given as goal

abbrev pub decreases-at_class : goal.decreases-at_class
decreases-at_class g l = length l.table.now
