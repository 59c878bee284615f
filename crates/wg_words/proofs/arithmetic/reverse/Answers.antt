use Rattle.std.proofs.Common.{arith}
use Rattle.wg_words.proofs.BitPlaces.{reverse_onto_is}
use Rattle.wg_words.proofs.arithmetic.reverse.Goals as goal

pub returns : goal.returns
returns c = omega (arith, c.reverse_bits.ensures, reverse_onto_is 32 c.args.a 0)
