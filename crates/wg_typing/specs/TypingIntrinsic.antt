-- Calls of the intrinsics on numbers (HLSL Shader Model 6.8, intrinsics; which types `any`, `all`, `and`, `or` and the test of `select`
-- reckon in is own).
use Rattle.std.specs.Prelude.{ℕ, ◌==◌, Bool, true, false, ◌&&◌, List, [], ◌∷◌, length, map, Option, Some, None}
use Rattle.wg_words.specs.declared.place.Place.{Place}
use Rattle.wg_words.specs.Maybe.{◌>>=◌}
use Rattle.wg_typing.specs.Maybe.{where_true, all_of}
use Rattle.wg_typing.specs.Conversions.{numbers, type_of, is_number, is_uint, truths, common_size, chosen_scalar, size_fits}
use Rattle.wg_typing.specs.Layers.{all_typed_parts, convert, fixed}
use Rattle.wg_tree.specs.declared.expr.Scalar.TheVariants as scalar
use Rattle.wg_typed.specs.declared.types.TypeTree.{TypeTree}
use Rattle.wg_typed.specs.declared.typed_expr.Intrinsic.{Intrinsic}
use Rattle.wg_typed.specs.declared.typed_expr.Intrinsic.TheVariants as intrinsic
use Rattle.wg_typed.specs.declared.typed_expr.TypedExpr.{TypedExpr}
use Rattle.wg_typed.specs.declared.typed_expr.TypedKind.TheVariants as tree
use Rattle.wg_typing.specs.declared.scope.Value.{Value}
use Rattle.wg_tree.specs.declared.expr.Scalar.{Scalar}
use Rattle.wg_typed.specs.Operators.{counted, common_scalar}
use Rattle.wg_typing.specs.declared.numbers.Numbers.{Numbers}
use Rattle.wg_typing.specs.declared.part.Part.{Part}
use Rattle.wg_typing.specs.declared.part.TypedPart.{TypedPart}
use Rattle.wg_typing.specs.declared.numbers.Signature.{Signature}

abbrev pub arity_of : Intrinsic → ℕ
arity_of intrinsic.Min = 2
arity_of intrinsic.Max = 2
arity_of intrinsic.Clamp = 3
arity_of intrinsic.Abs = 1
arity_of intrinsic.MultiplyAdd = 3
arity_of intrinsic.CountBits = 1
arity_of intrinsic.FirstBitHigh = 1
arity_of intrinsic.FirstBitLow = 1
arity_of intrinsic.ReverseBits = 1
arity_of intrinsic.Any = 1
arity_of intrinsic.All = 1
arity_of intrinsic.Select = 3
arity_of intrinsic.And = 2
arity_of intrinsic.Or = 2

-- what it reckons in: the common type, `uint` alone, or truths
pub data Reckons : Type 0 where
  in_common : Reckons
  in_uint : Reckons
  to_one_truth : Reckons
  in_truths : Reckons
  choosing : Reckons

abbrev pub reckons : Intrinsic → Reckons
reckons intrinsic.Min = in_common
reckons intrinsic.Max = in_common
reckons intrinsic.Clamp = in_common
reckons intrinsic.Abs = in_common
reckons intrinsic.MultiplyAdd = in_common
reckons intrinsic.CountBits = in_uint
reckons intrinsic.FirstBitHigh = in_uint
reckons intrinsic.FirstBitLow = in_uint
reckons intrinsic.ReverseBits = in_uint
reckons intrinsic.Any = to_one_truth
reckons intrinsic.All = to_one_truth
reckons intrinsic.Select = choosing
reckons intrinsic.And = in_truths
reckons intrinsic.Or = in_truths

abbrev pub is_uint_number : Option Numbers → Bool
is_uint_number (Some n) = is_uint n.of
is_uint_number None = false

-- whether an argument may be of the type, whatever the others
abbrev pub argument_suits : Reckons → TypeTree → Bool
argument_suits in_common t = is_number t
argument_suits in_uint t = is_uint_number (numbers t)
argument_suits to_one_truth t = is_number t
argument_suits in_truths t = is_number t
argument_suits choosing t = is_number t

-- the common size of all
abbrev pub size_of_all : List Numbers → Option (Option ℕ)
size_of_all [] = Some None
size_of_all (n ∷ rest) = size_of_all rest >>= common_size n.size

abbrev pub all_fit_size : List Numbers → Option ℕ → Bool
all_fit_size [] size = true
all_fit_size (n ∷ rest) size = size_fits n size && all_fit_size rest size

-- the same, where all may be of it: a wide scalar is not taken with a vector
abbrev pub joined_size_of : List Numbers → Option (Option ℕ)
joined_size_of all = size_of_all all >>= (λ size. where_true (all_fit_size all size) size)

-- the common scalar of one number or more
abbrev pub scalar_of_all : List Numbers → Scalar
scalar_of_all [] = scalar.Int
scalar_of_all (n ∷ []) = counted n.of
scalar_of_all (n ∷ m ∷ rest) = common_scalar n.of (scalar_of_all (m ∷ rest))

-- every argument in the one type, which the result has too
abbrev pub alike : Numbers → List Numbers → Signature
alike n all = record { arguments = map (λ a. n) all; result = n }

abbrev pub choosing_between : Numbers → Signature
choosing_between n = record { arguments = truths n.size ∷ n ∷ n ∷ []; result = n }

abbrev pub chosen_of_size : List Numbers → Option ℕ → Option Signature
chosen_of_size (test ∷ a ∷ b ∷ []) size = Some (choosing_between (record { of = chosen_scalar a.of b.of; size = size }))
chosen_of_size _ size = None

abbrev pub truth_of_each : List Numbers → Signature
truth_of_each all = record { arguments = map (λ n. truths n.size) all; result = truths None }

-- none where they do not fit together
abbrev pub signature : Reckons → List Numbers → Option Signature
signature in_common all = joined_size_of all >>= (λ size. Some (alike (record { of = scalar_of_all all; size = size }) all))
signature in_uint all = joined_size_of all >>= (λ size. Some (alike (record { of = scalar.Uint; size = size }) all))
signature to_one_truth all = Some (truth_of_each all)
signature in_truths all = joined_size_of all >>= (λ size. Some (alike (truths size) all))
signature choosing all = joined_size_of all >>= chosen_of_size all

abbrev pub all_numbers : List TypedPart → Option (List Numbers)
all_numbers ts = all_of (map (λ t. numbers t.of) ts)

abbrev pub convert_all : List Numbers → List TypedPart → Option (List TypedExpr)
convert_all [] [] = Some []
convert_all [] (t ∷ ts) = None
convert_all (n ∷ ns) [] = None
convert_all (n ∷ ns) (t ∷ ts) = do
  first ← convert (type_of n) t
  others ← convert_all ns ts
  Some (first ∷ others)

abbrev pub all_suit : Reckons → List TypedPart → Bool
all_suit r [] = true
all_suit r (t ∷ rest) = argument_suits r t.of && all_suit r rest

-- the signature of a call with these arguments, where they suit and fit together
abbrev pub signature_on : Intrinsic → List TypedPart → Option Signature
signature_on i ts = do
  ns ← all_numbers ts
  signature (reckons i) ns

abbrev pub intrinsic_value : Place → Intrinsic → List Part → Option Value
intrinsic_value name i parts = do
  ts ← all_typed_parts parts
  s ← where_true (length ts == arity_of i && all_suit (reckons i) ts) ts >>= signature_on i
  arguments ← convert_all s.arguments ts
  fixed name (type_of s.result) (tree.Intrinsic i arguments)
