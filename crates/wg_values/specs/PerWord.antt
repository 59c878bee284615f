-- What the calls on numbers make of one component, or of two.
use Rattle.std.specs.Prelude.{ℕ, ◌&&◌, ◌||◌}
use Rattle.wg_words.specs.Truth.{is_true, truth}
use Rattle.wg_words.specs.Words.{sum_of, product_of, set_bits, first_bit_high, first_bit_low, reversed}
use Rattle.wg_tree.specs.declared.expr.Scalar.{Scalar}
use Rattle.wg_typed.specs.Operators.{width_of}
use Rattle.wg_typed.specs.Intrinsics.{least, greatest, absolute}
use Rattle.wg_values.specs.declared.intrinsics.OfOne.{OfOne}
use Rattle.wg_values.specs.declared.intrinsics.OfOne.TheVariants as one
use Rattle.wg_values.specs.declared.intrinsics.OfTwo.{OfTwo}
use Rattle.wg_values.specs.declared.intrinsics.OfTwo.TheVariants as two

abbrev pub one_word : OfOne → Scalar → ℕ → ℕ
one_word one.Magnitude s = absolute s
one_word one.CountOfBits s = set_bits (width_of s)
one_word one.HighestBit s = first_bit_high (width_of s)
one_word one.LowestBit s = first_bit_low (width_of s)
one_word one.Reversed s = reversed (width_of s)

abbrev pub two_words : OfTwo → Scalar → ℕ → ℕ → ℕ
two_words two.Lesser s = least s
two_words two.Greater s = greatest s
two_words two.Product s = product_of (width_of s)
two_words two.Sum s = sum_of (width_of s)
two_words two.Both s = λ a b. truth (is_true a && is_true b)
two_words two.Either s = λ a b. truth (is_true a || is_true b)
