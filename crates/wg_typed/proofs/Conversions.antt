-- Numbers of fewer bits out of those of 64, and how great the numbers of a scalar are.
use Rattle.std.proofs.Common.{◌≡◌, ℕ, ◌%◌, ◌<◌, ◌^◌, Bool, true, false, arith}
use Rattle.std.specs.Prelude.{ℤ, pos, negsuc}
use Rattle.wg_words.specs.Words.{wrapped}
use Rattle.wg_words.specs.Truth.{is_true, truth}
use Rattle.wg_tree.specs.declared.expr.Scalar.{Scalar}
use Rattle.wg_tree.specs.declared.expr.Scalar.TheVariants as scalar
use Rattle.wg_typed.specs.Operators.{width_of, whole_of, converted_number}

pub low_16 : (z : ℤ) → wrapped 16 z ≡ wrapped 64 z % 65536
low_16 (pos n) = omega arith
low_16 (negsuc n) = omega arith

pub low_32 : (z : ℤ) → wrapped 32 z ≡ wrapped 64 z % 4294967296
low_32 (pos n) = omega arith
low_32 (negsuc n) = omega arith

wrapped_below_16 : (z : ℤ) → wrapped 16 z < 65536
wrapped_below_16 (pos n) = omega arith
wrapped_below_16 (negsuc n) = omega arith

wrapped_below_32 : (z : ℤ) → wrapped 32 z < 4294967296
wrapped_below_32 (pos n) = omega arith
wrapped_below_32 (negsuc n) = omega arith

wrapped_below_64 : (z : ℤ) → wrapped 64 z < 18446744073709551616
wrapped_below_64 (pos n) = omega arith
wrapped_below_64 (negsuc n) = omega arith

truth_below : (b : Bool) → truth b < 4294967296
truth_below true = omega arith
truth_below false = omega arith

-- what is converted to a scalar is one of its numbers
pub converted_below : (from to : Scalar) (n : ℕ) → converted_number from to n < 2 ^ width_of to
converted_below from scalar.Bool n = truth_below (is_true n)
converted_below from scalar.Int n = wrapped_below_32 (whole_of from n)
converted_below from scalar.Uint n = wrapped_below_32 (whole_of from n)
converted_below from scalar.Int16 n = wrapped_below_16 (whole_of from n)
converted_below from scalar.Uint16 n = wrapped_below_16 (whole_of from n)
converted_below from scalar.Int64 n = wrapped_below_64 (whole_of from n)
converted_below from scalar.Uint64 n = wrapped_below_64 (whole_of from n)

-- the low bits of any number are a number of the scalar
pub number_below : (s : Scalar) (n : ℕ) → n % 2 ^ width_of s < 2 ^ width_of s
number_below scalar.Bool n = omega arith
number_below scalar.Int n = omega arith
number_below scalar.Uint n = omega arith
number_below scalar.Int16 n = omega arith
number_below scalar.Uint16 n = omega arith
number_below scalar.Int64 n = omega arith
number_below scalar.Uint64 n = omega arith
