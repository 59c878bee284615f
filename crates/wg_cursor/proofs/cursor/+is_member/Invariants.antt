use Rattle.std.proofs.Common.{length}
use Rattle.wg_cursor.proofs.cursor.+is_member.Given as goal

abbrev pub decreases-is_member : goal.decreases-is_member
decreases-is_member l = length l.set.now
