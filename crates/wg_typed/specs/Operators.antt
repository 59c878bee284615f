-- Conversions and operators on values of scalars and vectors (HLSL Shader Model 6.8). A value is the list of its components' words; a
-- scalar of 64 bits has two, the low one first, and one of 16 bits is a word, extended by its type.
use Rattle.std.specs.Prelude.{ℕ, ◌+◌, ◌-◌, ◌*◌, ◌/◌, ◌%◌, ◌^◌, ◌==◌, Bool, true, false, not, ◌&&◌, ◌||◌, nat_lt, if◌then◌else◌, List, [], ◌∷◌, map, replicate, slice_index, bit_and, bit_or, bit_xor, ℤ, pos}
use Rattle.wg_words.specs.Truth.{is_true, truth, is_less_order}
use Rattle.wg_words.specs.Words.{wrapped, signed, all_ones, sum_of, difference, product_of, quotient_u, quotient_s, remainder_u, remainder_s, shifted_left, shifted_right_u, shifted_right_s, order_u, order_s}
use Rattle.wg_tree.specs.declared.expr.Scalar.{Scalar}
use Rattle.wg_tree.specs.declared.expr.Scalar.TheVariants as scalar
use Rattle.wg_tree.specs.declared.expr.PrefixOperator.{PrefixOperator}
use Rattle.wg_tree.specs.declared.expr.PrefixOperator.TheVariants as prefix
use Rattle.wg_tree.specs.declared.expr.BinaryOperator.{BinaryOperator}
use Rattle.wg_tree.specs.declared.expr.BinaryOperator.TheVariants as binary
use Rattle.wg_tree.specs.declared.stmt.StepOperator.{StepOperator}
use Rattle.wg_tree.specs.declared.stmt.StepOperator.TheVariants as step
use Rattle.wg_typed.specs.declared.types.TypeTree.{TypeTree}
use Rattle.wg_typed.specs.declared.types.TypeTree.TheVariants as type

-- ---- scalars

-- the scalar of which a scalar or vector type is made; others are none
abbrev pub scalar_of : TypeTree → Scalar
scalar_of (type.Scalar of) = of
scalar_of (type.Vector of size) = of
scalar_of (type.Struct number) = scalar.Uint
scalar_of (type.Array of size) = scalar.Uint

-- the bits of a scalar's number
abbrev pub width_of : Scalar → ℕ
width_of scalar.Bool = 32
width_of scalar.Int = 32
width_of scalar.Uint = 32
width_of scalar.Int16 = 16
width_of scalar.Uint16 = 16
width_of scalar.Int64 = 64
width_of scalar.Uint64 = 64

abbrev pub is_signed : Scalar → Bool
is_signed scalar.Bool = false
is_signed scalar.Int = true
is_signed scalar.Uint = false
is_signed scalar.Int16 = true
is_signed scalar.Uint16 = false
is_signed scalar.Int64 = true
is_signed scalar.Uint64 = false

-- a scalar of 16 or 64 bits
abbrev pub is_wide : Scalar → Bool
is_wide s = not (width_of s == 32)

-- the scalar of whole numbers of so many bits: 16, 64 or 32
abbrev pub integer : ℕ → Bool → Scalar
integer bits has_sign =
    if bits == 16 then (if has_sign then scalar.Int16 else scalar.Uint16)
    else if bits == 64 then (if has_sign then scalar.Int64 else scalar.Uint64)
    else (if has_sign then scalar.Int else scalar.Uint)

-- in arithmetic `bool` becomes `int`
abbrev pub counted : Scalar → Scalar
counted scalar.Bool = scalar.Int
counted s = s

-- of two scalars of whole numbers the wider, and at equal width the unsigned one
abbrev pub wider : Scalar → Scalar → Scalar
wider a b =
    if nat_lt (width_of a) (width_of b) then b
    else if nat_lt (width_of b) (width_of a) then a
    else integer (width_of a) (is_signed a && is_signed b)

-- the scalar in which an operator reckons with both
abbrev pub common_scalar : Scalar → Scalar → Scalar
common_scalar a b = wider (counted a) (counted b)

-- the scalar of a number that is written so: by its suffixes, and where they do not say it by its size
abbrev pub literal_scalar : ℕ → Bool → Bool → Scalar
literal_scalar value unsigned long =
    if long || not (nat_lt value (2 ^ 32)) then integer 64 (not unsigned && nat_lt value (2 ^ 63))
    else integer 32 (not unsigned && nat_lt value (2 ^ 31))

-- ---- words and numbers

-- the numbers of a value's components: a read of 16 bits takes the low ones; there are no vectors of 64 bits
abbrev pub numbers_in : Scalar → List ℕ → List ℕ
numbers_in scalar.Bool words = words
numbers_in scalar.Int words = words
numbers_in scalar.Uint words = words
numbers_in scalar.Int16 words = map (λ w. w % 2 ^ 16) words
numbers_in scalar.Uint16 words = map (λ w. w % 2 ^ 16) words
numbers_in scalar.Int64 words = (slice_index words 0 + 2 ^ 32 * slice_index words 1) ∷ []
numbers_in scalar.Uint64 words = (slice_index words 0 + 2 ^ 32 * slice_index words 1) ∷ []

-- the word that holds a signed number of 16 bits
abbrev pub extended : ℕ → ℕ
extended n = wrapped 32 (signed 16 n)

-- the low word of each number, and its high one
abbrev pub halves : List ℕ → List ℕ
halves [] = []
halves (n ∷ rest) = (n % 2 ^ 32) ∷ (n / 2 ^ 32) ∷ halves rest

-- the words of a value whose components have these numbers
abbrev pub words_for : Scalar → List ℕ → List ℕ
words_for scalar.Bool numbers = numbers
words_for scalar.Int numbers = numbers
words_for scalar.Uint numbers = numbers
words_for scalar.Int16 numbers = map extended numbers
words_for scalar.Uint16 numbers = numbers
words_for scalar.Int64 numbers = halves numbers
words_for scalar.Uint64 numbers = halves numbers

-- ---- conversions

-- the whole number for which a scalar's number stands
abbrev pub whole_of : Scalar → ℕ → ℤ
whole_of s n = if is_signed s then signed (width_of s) n else pos n

-- a number of the first scalar as one of the second: a `bool` is 0 or 1, any other the number that is equal modulo 2 to its width
abbrev pub converted_number : Scalar → Scalar → ℕ → ℕ
converted_number from scalar.Bool n = truth (is_true n)
converted_number from to n = wrapped (width_of to) (whole_of from n)

-- a scalar fills a vector
abbrev pub filled : TypeTree → ℕ → List ℕ → List ℕ
filled (type.Scalar of) size numbers = replicate size (slice_index numbers 0)
filled _ size numbers = numbers

-- the numbers of a value as those of another scalar
abbrev pub converted_numbers : TypeTree → Scalar → List ℕ → List ℕ
converted_numbers from to words = map (converted_number (scalar_of from) to) (numbers_in (scalar_of from) words)

-- a value of the first type as one of the second
abbrev pub converted : TypeTree → TypeTree → List ℕ → List ℕ
converted from (type.Scalar to) words = words_for to (converted_numbers from to words)
converted from (type.Vector to size) words = words_for to (filled from size (converted_numbers from to words))
converted from (type.Struct number) words = words
converted from (type.Array of size) words = words

-- ---- operators on numbers of so many bits, signed or not

abbrev pub is_less_in : ℕ → Bool → ℕ → ℕ → Bool
is_less_in width has_sign a b = is_less_order (if has_sign then order_s width a b else order_u a b)

-- what a two-sided operator makes of two numbers; a shift's second one is a count
abbrev pub combined_in : BinaryOperator → ℕ → Bool → ℕ → ℕ → ℕ
combined_in binary.Multiply width has_sign a b = product_of width a b
combined_in binary.Divide width has_sign a b = if has_sign then quotient_s width a b else quotient_u width a b
combined_in binary.Remainder width has_sign a b = if has_sign then remainder_s width a b else remainder_u width a b
combined_in binary.Add width has_sign a b = sum_of width a b
combined_in binary.Subtract width has_sign a b = difference width a b
combined_in binary.ShiftLeft width has_sign a b = shifted_left width a b
combined_in binary.ShiftRight width has_sign a b = if has_sign then shifted_right_s width a b else shifted_right_u width a b
combined_in binary.Less width has_sign a b = truth (is_less_in width has_sign a b)
combined_in binary.Greater width has_sign a b = truth (is_less_in width has_sign b a)
combined_in binary.AtMost width has_sign a b = truth (not (is_less_in width has_sign b a))
combined_in binary.AtLeast width has_sign a b = truth (not (is_less_in width has_sign a b))
combined_in binary.Equal width has_sign a b = truth (a == b)
combined_in binary.NotEqual width has_sign a b = truth (not (a == b))
combined_in binary.BitAnd width has_sign a b = bit_and a b
combined_in binary.BitXor width has_sign a b = bit_xor a b
combined_in binary.BitOr width has_sign a b = bit_or a b
combined_in binary.And width has_sign a b = truth (is_true a && is_true b)
combined_in binary.Or width has_sign a b = truth (is_true a || is_true b)

abbrev pub prefixed_in : PrefixOperator → ℕ → ℕ → ℕ
prefixed_in prefix.Minus width a = difference width 0 a
prefixed_in prefix.Plus width a = a
prefixed_in prefix.Not width a = truth (not (is_true a))
prefixed_in prefix.Complement width a = all_ones width - a

-- ---- operators on the numbers of a scalar

abbrev pub is_less : Scalar → ℕ → ℕ → Bool
is_less s a b = is_less_in (width_of s) (is_signed s) a b

abbrev pub combined : BinaryOperator → Scalar → ℕ → ℕ → ℕ
combined operator s a b = combined_in operator (width_of s) (is_signed s) a b

abbrev pub prefixed : PrefixOperator → Scalar → ℕ → ℕ
prefixed operator s a = prefixed_in operator (width_of s) a

-- a number of the scalar's width as one of the scalar: a `bool` is 0 or 1
abbrev pub held_as : Scalar → ℕ → ℕ
held_as scalar.Bool n = truth (is_true n)
held_as s n = n

-- `++` and `--`; a `bool` is counted as an `int` and made `bool` again
abbrev pub stepped : StepOperator → Scalar → ℕ → ℕ
stepped step.Increment s a = held_as s (sum_of (width_of s) a 1)
stepped step.Decrement s a = held_as s (difference (width_of s) a 1)

-- ---- operators on the words of values, component by component

abbrev pub pairwise : (ℕ → ℕ → ℕ) → List ℕ → List ℕ → List ℕ
pairwise f [] ys = []
pairwise f (x ∷ xs) [] = []
pairwise f (x ∷ xs) (y ∷ ys) = f x y ∷ pairwise f xs ys

-- whether what the operator gives is a truth
abbrev pub gives_truth : BinaryOperator → Bool
gives_truth binary.Multiply = false
gives_truth binary.Divide = false
gives_truth binary.Remainder = false
gives_truth binary.Add = false
gives_truth binary.Subtract = false
gives_truth binary.ShiftLeft = false
gives_truth binary.ShiftRight = false
gives_truth binary.Less = true
gives_truth binary.Greater = true
gives_truth binary.AtMost = true
gives_truth binary.AtLeast = true
gives_truth binary.Equal = true
gives_truth binary.NotEqual = true
gives_truth binary.BitAnd = false
gives_truth binary.BitXor = false
gives_truth binary.BitOr = false
gives_truth binary.And = true
gives_truth binary.Or = true

abbrev pub is_shift : BinaryOperator → Bool
is_shift binary.ShiftLeft = true
is_shift binary.ShiftRight = true
is_shift _ = false

-- the scalar of what the operator gives on the scalar
abbrev pub result_scalar : BinaryOperator → Scalar → Scalar
result_scalar operator s = if gives_truth operator then scalar.Bool else s

-- A two-sided operator that reckons in the type, on two values. A shift's count may be of another type: it is read as the left value is, and
-- only its low bits count.
abbrev pub combined_words : BinaryOperator → TypeTree → List ℕ → List ℕ → List ℕ
combined_words operator t left right =
    words_for (result_scalar operator (scalar_of t)) (pairwise (combined operator (scalar_of t)) (numbers_in (scalar_of t) left) (numbers_in (scalar_of t) right))

-- a prefix operator on a value of the type
abbrev pub prefixed_words : PrefixOperator → TypeTree → List ℕ → List ℕ
prefixed_words operator t words = words_for (scalar_of t) (map (prefixed operator (scalar_of t)) (numbers_in (scalar_of t) words))

-- `++` and `--` of a value of the type
abbrev pub stepped_words : StepOperator → TypeTree → List ℕ → List ℕ
stepped_words operator t words = words_for (scalar_of t) (map (stepped operator (scalar_of t)) (numbers_in (scalar_of t) words))
