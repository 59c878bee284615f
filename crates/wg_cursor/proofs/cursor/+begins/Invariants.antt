use Rattle.std.proofs.Common.{length}
use Rattle.wg_cursor.proofs.cursor.+begins.Given as goal

abbrev pub decreases-begins : goal.decreases-begins
decreases-begins l = length l.sets.now
