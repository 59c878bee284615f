use Rattle.std.proofs.Common.{sym, arith}
use Rattle.wg_words.proofs.BitPlaces.{high_of_zero, high_is}
use Rattle.wg_words.proofs.arithmetic.first_high.Goals as goal

pub returns-then-a-eq0 : goal.returns-then-a-eq0
returns-then-a-eq0 c = sym (high_of_zero 32 c.args.a c.if-a-eq0.true)

pub returns-else-a-eq0 : goal.returns-else-a-eq0
returns-else-a-eq0 c = high_is 32 c.args.a (omega arith) c.ranges.a.fits
