use Rattle.std.proofs.Common.{sym, arith, w32}
use Rattle.wg_words.proofs.BitPlaces.{low_of_zero, low_is}
use Rattle.wg_words.proofs.arithmetic.first_low.Goals as goal

pub returns-then-a-eq0 : goal.returns-then-a-eq0
returns-then-a-eq0 c = sym (low_of_zero 32 c.args.a c.if-a-eq0.true)

pub returns-else-a-eq0 : goal.returns-else-a-eq0
returns-else-a-eq0 c = low_is w32 c.args.a (omega arith) c.ranges.a.fits
