use Rattle.wg_words.proofs.BitPlaces.{count_ones_is}
use Rattle.wg_words.proofs.arithmetic.count_bits.Goals as goal

pub returns : goal.returns
returns c = count_ones_is 32 c.args.a c.ranges.a.fits
