-- The calls of the language on numbers (HLSL Shader Model 6.8, intrinsics), on values of scalars and vectors.
use Rattle.std.specs.Prelude.{ℕ, Bool, true, false, ◌&&◌, ◌||◌, if◌then◌else◌, List, [], ◌∷◌, map, slice_get, unwrap_or}
use Rattle.wg_words.specs.Words.{sum_of, difference, product_of, set_bits, first_bit_high, first_bit_low, reversed}
use Rattle.wg_tree.specs.declared.expr.Scalar.{Scalar}
use Rattle.wg_typed.specs.declared.typed_expr.Intrinsic.{Intrinsic}
use Rattle.wg_typed.specs.declared.typed_expr.Intrinsic.TheVariants as intrinsic
use Rattle.wg_typed.specs.declared.types.TypeTree.{TypeTree}
use Rattle.wg_typed.specs.Operators.{scalar_of, width_of, is_less, pairwise, numbers_in, words_for}
use Rattle.wg_words.specs.Truth.{is_true, truth}

abbrev pub least : Scalar → ℕ → ℕ → ℕ
least s a b = if is_less s b a then b else a

abbrev pub greatest : Scalar → ℕ → ℕ → ℕ
greatest s a b = if is_less s a b then b else a

-- the least number of a signed scalar gives itself
abbrev pub absolute : Scalar → ℕ → ℕ
absolute s a = if is_less s a 0 then difference (width_of s) 0 a else a

abbrev pub is_any_true : List ℕ → Bool
is_any_true [] = false
is_any_true (x ∷ xs) = is_true x || is_any_true xs

abbrev pub are_all_true : List ℕ → Bool
are_all_true [] = true
are_all_true (x ∷ xs) = is_true x && are_all_true xs

abbrev pub selected : List ℕ → List ℕ → List ℕ → List ℕ
selected [] xs ys = []
selected (c ∷ cs) [] ys = []
selected (c ∷ cs) (x ∷ xs) [] = []
selected (c ∷ cs) (x ∷ xs) (y ∷ ys) = (if is_true c then x else y) ∷ selected cs xs ys

-- an argument by its place
abbrev pub argument : List (List ℕ) → ℕ → List ℕ
argument arguments at = unwrap_or (slice_get arguments at) []

-- what a call makes of its arguments' numbers, which are of the scalar
abbrev pub called_with : Intrinsic → Scalar → List (List ℕ) → List ℕ
called_with intrinsic.Min s arguments = pairwise (least s) (argument arguments 0) (argument arguments 1)
called_with intrinsic.Max s arguments = pairwise (greatest s) (argument arguments 0) (argument arguments 1)
called_with intrinsic.Clamp s arguments =
    pairwise (least s) (pairwise (greatest s) (argument arguments 0) (argument arguments 1)) (argument arguments 2)
called_with intrinsic.Abs s arguments = map (absolute s) (argument arguments 0)
called_with intrinsic.MultiplyAdd s arguments =
    pairwise (sum_of (width_of s)) (pairwise (product_of (width_of s)) (argument arguments 0) (argument arguments 1)) (argument arguments 2)
called_with intrinsic.CountBits s arguments = map (set_bits (width_of s)) (argument arguments 0)
called_with intrinsic.FirstBitHigh s arguments = map (first_bit_high (width_of s)) (argument arguments 0)
called_with intrinsic.FirstBitLow s arguments = map (first_bit_low (width_of s)) (argument arguments 0)
called_with intrinsic.ReverseBits s arguments = map (reversed (width_of s)) (argument arguments 0)
called_with intrinsic.Any s arguments = truth (is_any_true (argument arguments 0)) ∷ []
called_with intrinsic.All s arguments = truth (are_all_true (argument arguments 0)) ∷ []
called_with intrinsic.Select s arguments = selected (argument arguments 0) (argument arguments 1) (argument arguments 2)
called_with intrinsic.And s arguments =
    pairwise (λ a b. truth (is_true a && is_true b)) (argument arguments 0) (argument arguments 1)
called_with intrinsic.Or s arguments =
    pairwise (λ a b. truth (is_true a || is_true b)) (argument arguments 0) (argument arguments 1)

-- the numbers of the arguments of a call that reckons in the scalar; the test of `select` is of truths
abbrev pub argument_numbers : Intrinsic → Scalar → List (List ℕ) → List (List ℕ)
argument_numbers intrinsic.Select s [] = []
argument_numbers intrinsic.Select s (test ∷ values) = test ∷ map (numbers_in s) values
argument_numbers c s arguments = map (numbers_in s) arguments

-- what a call that reckons in the type makes of its arguments' words
abbrev pub called_words : Intrinsic → TypeTree → List (List ℕ) → List ℕ
called_words c t arguments = words_for (scalar_of t) (called_with c (scalar_of t) (argument_numbers c (scalar_of t) arguments))
