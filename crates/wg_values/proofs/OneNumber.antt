-- Numbers of scalars: those of 32 bits are their words, and a wide value is one number.
use Rattle.std.proofs.Common.{◌≡◌, ℕ, zero, suc, ◌+◌, ◌-◌, ◌*◌, ◌%◌, ◌^◌, ◌/◌, ◌<◌, ◌≤◌, List, [], ◌∷◌, length, map, take, refl, sym, ap, subst, ◌∙◌, arith, Bool, true, false}
use Rattle.std.specs.Prelude.{◌&&◌, not, if◌then◌else◌, slice_get, unwrap_or, Option, Some, None, nat_lt, ℤ, pos, negsuc, ◌+ℤ◌, ◌-ℤ◌}
use Rattle.std.specs.Option.{option_map}
use Rattle.std.proofs.lemmas.Int.{int_rem_euclid_is}
use Rattle.std.proofs.Math.IntN.{+ℤ_assoc, -ℤ-+ℤ_cancel}
use Rattle.std.specs.Int.RustNames.{unsigned_abs}
use Rattle.std.proofs.lemmas.Option.{slice_get-map}
use Rattle.wg_words.specs.Truth.{is_true, truth}
use Rattle.wg_words.specs.Words.{wrapped}
use Rattle.wg_tree.specs.declared.expr.Scalar.{Scalar}
use Rattle.wg_tree.specs.declared.expr.Scalar.TheVariants as scalar
use Rattle.wg_tree.specs.declared.expr.BinaryOperator.{BinaryOperator}
use Rattle.wg_tree.specs.declared.expr.BinaryOperator.TheVariants as binary
use Rattle.wg_tree.specs.declared.expr.PrefixOperator.{PrefixOperator}
use Rattle.wg_tree.specs.declared.stmt.StepOperator.{StepOperator}
use Rattle.wg_typed.specs.declared.types.TypeTree.{TypeTree}
use Rattle.wg_typed.specs.declared.types.TypeTree.TheVariants as type
use Rattle.wg_typed.specs.declared.typed_expr.Intrinsic.{Intrinsic}
use Rattle.wg_typed.specs.declared.typed_expr.Intrinsic.TheVariants as intrinsic
use Rattle.wg_typed.specs.Operators.{scalar_of, width_of, is_signed, is_wide, numbers_in, words_for, result_scalar, gives_truth, held_as, combined, prefixed, stepped, pairwise, combined_words, prefixed_words, stepped_words, converted_number, converted_numbers, filled, extended, whole_of, combined_in}
use Rattle.wg_typed.specs.Intrinsics.{argument, argument_numbers, called_with, called_words, selected}

-- ---- scalars of 32 bits

pub narrow_width : (s : Scalar) → is_wide s ≡ false → width_of s ≡ 32
narrow_width scalar.Bool e = refl
narrow_width scalar.Int e = refl
narrow_width scalar.Uint e = refl
narrow_width scalar.Int16 e = cc
narrow_width scalar.Uint16 e = cc
narrow_width scalar.Int64 e = cc
narrow_width scalar.Uint64 e = cc

pub combined_same : (operator : BinaryOperator) (s : Scalar) (a b : ℕ) → is_wide s ≡ false → combined_in operator 32 (is_signed s) a b ≡ combined operator s a b
combined_same operator scalar.Bool a b e = refl
combined_same operator scalar.Int a b e = refl
combined_same operator scalar.Uint a b e = refl
combined_same operator scalar.Int16 a b e = cc
combined_same operator scalar.Uint16 a b e = cc
combined_same operator scalar.Int64 a b e = cc
combined_same operator scalar.Uint64 a b e = cc

plain_words : (s : Scalar) (ns : List ℕ) → is_wide s ≡ false → words_for s ns ≡ ns
plain_words scalar.Bool ns e = refl
plain_words scalar.Int ns e = refl
plain_words scalar.Uint ns e = refl
plain_words scalar.Int16 ns e = cc
plain_words scalar.Uint16 ns e = cc
plain_words scalar.Int64 ns e = cc
plain_words scalar.Uint64 ns e = cc

plain_numbers : (s : Scalar) (words : List ℕ) → is_wide s ≡ false → numbers_in s words ≡ words
plain_numbers scalar.Bool ns e = refl
plain_numbers scalar.Int ns e = refl
plain_numbers scalar.Uint ns e = refl
plain_numbers scalar.Int16 ns e = cc
plain_numbers scalar.Uint16 ns e = cc
plain_numbers scalar.Int64 ns e = cc
plain_numbers scalar.Uint64 ns e = cc

plain_result : (g : Bool) (s : Scalar) (ns : List ℕ) → is_wide s ≡ false → words_for (if g then scalar.Bool else s) ns ≡ ns
plain_result true s ns e = refl
plain_result false s ns e = plain_words s ns e

pub combined_words_narrow : (operator : BinaryOperator) (t : TypeTree) (a b : List ℕ) → is_wide (scalar_of t) ≡ false → combined_words operator t a b ≡ pairwise (combined operator (scalar_of t)) a b
combined_words_narrow operator t a b e =
    plain_result (gives_truth operator) (scalar_of t) _ e
    ∙ ap (λ l. pairwise (combined operator (scalar_of t)) l (numbers_in (scalar_of t) b)) (plain_numbers (scalar_of t) a e)
    ∙ ap (pairwise (combined operator (scalar_of t)) a) (plain_numbers (scalar_of t) b e)

mapped : (f : ℕ → ℕ) (from to : Scalar) (words : List ℕ) → is_wide from ≡ false → is_wide to ≡ false → words_for to (map f (numbers_in from words)) ≡ map f words
mapped f from to words e g = plain_words to _ g ∙ ap (map f) (plain_numbers from words e)

pub prefixed_words_narrow : (operator : PrefixOperator) (t : TypeTree) (a : List ℕ) → is_wide (scalar_of t) ≡ false → prefixed_words operator t a ≡ map (prefixed operator (scalar_of t)) a
prefixed_words_narrow operator t a e = mapped (prefixed operator (scalar_of t)) (scalar_of t) (scalar_of t) a e e

pub stepped_words_narrow : (operator : StepOperator) (t : TypeTree) (a : List ℕ) → is_wide (scalar_of t) ≡ false → stepped_words operator t a ≡ map (stepped operator (scalar_of t)) a
stepped_words_narrow operator t a e = mapped (stepped operator (scalar_of t)) (scalar_of t) (scalar_of t) a e e

pub converted_words_narrow : (from : TypeTree) (to : Scalar) (words : List ℕ) → is_wide (scalar_of from) ≡ false → is_wide to ≡ false → words_for to (converted_numbers from to words) ≡ map (converted_number (scalar_of from) to) words
converted_words_narrow from to words e g = mapped (converted_number (scalar_of from) to) (scalar_of from) to words e g

pub filled_narrow : (from : TypeTree) (to : Scalar) (size : ℕ) (words : List ℕ) → is_wide (scalar_of from) ≡ false → is_wide to ≡ false → words_for to (filled from size (converted_numbers from to words)) ≡ filled from size (map (converted_number (scalar_of from) to) words)
filled_narrow from to size words e g =
    plain_words to _ g ∙ ap (λ l. filled from size (map (converted_number (scalar_of from) to) l)) (plain_numbers (scalar_of from) words e)

plain_arguments : (s : Scalar) (arguments : List (List ℕ)) → is_wide s ≡ false → map (numbers_in s) arguments ≡ arguments
plain_arguments s [] e = refl
plain_arguments s (a ∷ arguments) e = ap (λ x. x ∷ map (numbers_in s) arguments) (plain_numbers s a e) ∙ ap (λ l. a ∷ l) (plain_arguments s arguments e)

plain_select : (s : Scalar) (arguments : List (List ℕ)) → is_wide s ≡ false → argument_numbers intrinsic.Select s arguments ≡ arguments
plain_select s [] e = refl
plain_select s (test ∷ values) e = ap (λ l. test ∷ l) (plain_arguments s values e)

same_arguments : (call : Intrinsic) (s : Scalar) (arguments : List (List ℕ)) → is_wide s ≡ false → argument_numbers call s arguments ≡ arguments
same_arguments intrinsic.Select s arguments e = plain_select s arguments e
same_arguments intrinsic.Min s arguments e = plain_arguments s arguments e
same_arguments intrinsic.Max s arguments e = plain_arguments s arguments e
same_arguments intrinsic.Clamp s arguments e = plain_arguments s arguments e
same_arguments intrinsic.Abs s arguments e = plain_arguments s arguments e
same_arguments intrinsic.MultiplyAdd s arguments e = plain_arguments s arguments e
same_arguments intrinsic.CountBits s arguments e = plain_arguments s arguments e
same_arguments intrinsic.FirstBitHigh s arguments e = plain_arguments s arguments e
same_arguments intrinsic.FirstBitLow s arguments e = plain_arguments s arguments e
same_arguments intrinsic.ReverseBits s arguments e = plain_arguments s arguments e
same_arguments intrinsic.Any s arguments e = plain_arguments s arguments e
same_arguments intrinsic.All s arguments e = plain_arguments s arguments e
same_arguments intrinsic.And s arguments e = plain_arguments s arguments e
same_arguments intrinsic.Or s arguments e = plain_arguments s arguments e

pub called_narrow : (call : Intrinsic) (t : TypeTree) (arguments : List (List ℕ)) → is_wide (scalar_of t) ≡ false → called_words call t arguments ≡ called_with call (scalar_of t) arguments
called_narrow call t arguments e = plain_words (scalar_of t) _ e ∙ ap (called_with call (scalar_of t)) (same_arguments call (scalar_of t) arguments e)

-- ---- what fits

pub one_fits : (s : Scalar) → 1 < 2 ^ width_of s
one_fits scalar.Bool = omega arith
one_fits scalar.Int = omega arith
one_fits scalar.Uint = omega arith
one_fits scalar.Int16 = omega arith
one_fits scalar.Uint16 = omega arith
one_fits scalar.Int64 = omega arith
one_fits scalar.Uint64 = omega arith

pub held_wide : (s : Scalar) (n : ℕ) → is_wide s ≡ true → held_as s n ≡ n
held_wide scalar.Bool n e = cc
held_wide scalar.Int n e = refl
held_wide scalar.Uint n e = refl
held_wide scalar.Int16 n e = refl
held_wide scalar.Uint16 n e = refl
held_wide scalar.Int64 n e = refl
held_wide scalar.Uint64 n e = refl

-- ---- operators on one number

again : (b : Bool) → truth (is_true (truth b)) ≡ truth b
again true = refl
again false = refl

truth_again : (operator : BinaryOperator) (s : Scalar) (a b : ℕ) → gives_truth operator ≡ true → truth (is_true (combined operator s a b)) ≡ combined operator s a b
truth_again binary.Less s a b e = again _
truth_again binary.Greater s a b e = again _
truth_again binary.AtMost s a b e = again _
truth_again binary.AtLeast s a b e = again _
truth_again binary.Equal s a b e = again _
truth_again binary.NotEqual s a b e = again _
truth_again binary.And s a b e = again _
truth_again binary.Or s a b e = again _
truth_again binary.Multiply s a n e = cc
truth_again binary.Divide s a n e = cc
truth_again binary.Remainder s a n e = cc
truth_again binary.Add s a n e = cc
truth_again binary.Subtract s a n e = cc
truth_again binary.ShiftLeft s a n e = cc
truth_again binary.ShiftRight s a n e = cc
truth_again binary.BitAnd s a n e = cc
truth_again binary.BitXor s a n e = cc
truth_again binary.BitOr s a n e = cc

first_pair : (f : ℕ → ℕ → ℕ) (x y : ℕ) (ys : List ℕ) → take 1 ys ≡ y ∷ [] → pairwise f (x ∷ []) ys ≡ f x y ∷ []
first_pair f x y [] e = cc
first_pair f x y (z ∷ ys) e = ap (λ l. pairwise f (x ∷ []) l) e

one_pair : (operator : BinaryOperator) (s : Scalar) (a b : List ℕ) (x y : ℕ) → numbers_in s a ≡ x ∷ [] → take 1 (numbers_in s b) ≡ y ∷ [] → pairwise (combined operator s) (numbers_in s a) (numbers_in s b) ≡ combined operator s x y ∷ []
one_pair operator s a b x y is right = ap (λ l. pairwise (combined operator s) l (numbers_in s b)) is ∙ first_pair (combined operator s) x y (numbers_in s b) right

pub combined_truth : (operator : BinaryOperator) (s : Scalar) (a b : List ℕ) (x y n : ℕ) → gives_truth operator ≡ true → numbers_in s a ≡ x ∷ [] → take 1 (numbers_in s b) ≡ y ∷ [] → n ≡ combined operator s x y → truth (is_true n) ∷ [] ≡ words_for (result_scalar operator s) (pairwise (combined operator s) (numbers_in s a) (numbers_in s b))
combined_truth operator s a b x y n e is right h =
    ap (λ m. truth (is_true m) ∷ []) h
    ∙ ap (λ m. m ∷ []) (truth_again operator s x y e)
    ∙ sym (one_pair operator s a b x y is right)
    ∙ sym (ap (λ g. words_for (if g then scalar.Bool else s) (pairwise (combined operator s) (numbers_in s a) (numbers_in s b))) e)

pub combined_number : (operator : BinaryOperator) (s : Scalar) (a b : List ℕ) (x y n : ℕ) → gives_truth operator ≡ false → numbers_in s a ≡ x ∷ [] → take 1 (numbers_in s b) ≡ y ∷ [] → n ≡ combined operator s x y → words_for s (n ∷ []) ≡ words_for (result_scalar operator s) (pairwise (combined operator s) (numbers_in s a) (numbers_in s b))
combined_number operator s a b x y n e is right h =
    ap (λ m. words_for s (m ∷ [])) h
    ∙ ap (words_for s) (sym (one_pair operator s a b x y is right))
    ∙ sym (ap (λ g. words_for (if g then scalar.Bool else s) (pairwise (combined operator s) (numbers_in s a) (numbers_in s b))) e)

pub made_of_one : (f : ℕ → ℕ) (from to : Scalar) (words : List ℕ) (n m : ℕ) → numbers_in from words ≡ n ∷ [] → m ≡ f n → words_for to (m ∷ []) ≡ words_for to (map f (numbers_in from words))
made_of_one f from to words n m is h = ap (λ k. words_for to (k ∷ [])) h ∙ sym (ap (λ l. words_for to (map f l)) is)

-- ---- conversions

wrap_is : (v k : ℕ) (z : ℤ) (m : ℕ) → 0 < 2 ^ v → z +ℤ pos (k * 2 ^ v) ≡ pos m → wrapped v z ≡ m % 2 ^ v
wrap_is v k z m p e = ap unsigned_abs (int_rem_euclid_is z (pos (2 ^ v)) (2 ^ v) k m p refl e)

word_same : (h : Bool) (n : ℕ) → n < 2 ^ 32 → wrapped 32 (if h then pos n else pos n -ℤ pos (2 ^ 32)) ≡ n
word_same true n lt = omega (arith, lt)
word_same false n lt = wrap_is 32 1 (pos n -ℤ pos (2 ^ 32)) n (omega arith) (-ℤ-+ℤ_cancel (pos n) (pos (2 ^ 32))) ∙ omega (arith, lt)

narrow_same : (from : Scalar) (n : ℕ) → is_wide from ≡ false → n < 2 ^ 32 → wrapped 32 (whole_of from n) ≡ n
narrow_same scalar.Bool n e lt = word_same true n lt
narrow_same scalar.Int n e lt = word_same (nat_lt n (2 ^ 31)) n lt
narrow_same scalar.Uint n e lt = word_same true n lt
narrow_same scalar.Int16 n e lt = cc
narrow_same scalar.Uint16 n e lt = cc
narrow_same scalar.Int64 n e lt = cc
narrow_same scalar.Uint64 n e lt = cc

-- between scalars of 32 bits
pub converted_narrow : (from to : Scalar) (n : ℕ) → is_wide from ≡ false → is_wide to ≡ false → n < 2 ^ 32 → converted_number from to n ≡ held_as to n
converted_narrow from scalar.Bool n e g lt = refl
converted_narrow from scalar.Int n e g lt = narrow_same from n e lt
converted_narrow from scalar.Uint n e g lt = narrow_same from n e lt
converted_narrow from scalar.Int16 n e g lt = cc
converted_narrow from scalar.Uint16 n e g lt = cc
converted_narrow from scalar.Int64 n e g lt = cc
converted_narrow from scalar.Uint64 n e g lt = cc

below_16 : (z : ℤ) → wrapped 16 z < 2 ^ 16
below_16 (pos n) = omega arith
below_16 (negsuc n) = omega arith

below_32 : (z : ℤ) → wrapped 32 z < 2 ^ 32
below_32 (pos n) = omega arith
below_32 (negsuc n) = omega arith

below_64 : (z : ℤ) → wrapped 64 z < 2 ^ 64
below_64 (pos n) = omega arith
below_64 (negsuc n) = omega arith

truth_fits : (b : Bool) → truth b < 2 ^ 32
truth_fits true = omega arith
truth_fits false = omega arith

pub converted_fits : (from to : Scalar) (n : ℕ) → converted_number from to n < 2 ^ width_of to
converted_fits from scalar.Bool n = truth_fits (is_true n)
converted_fits from scalar.Int n = below_32 (whole_of from n)
converted_fits from scalar.Uint n = below_32 (whole_of from n)
converted_fits from scalar.Int16 n = below_16 (whole_of from n)
converted_fits from scalar.Uint16 n = below_16 (whole_of from n)
converted_fits from scalar.Int64 n = below_64 (whole_of from n)
converted_fits from scalar.Uint64 n = below_64 (whole_of from n)

high_word : (n : ℕ) → pos n -ℤ pos (2 ^ 16) +ℤ pos (2 ^ 32) ≡ pos (n + 4294901760)
high_word n =
    sym (+ℤ_assoc (pos n -ℤ pos (2 ^ 16)) (pos (2 ^ 16)) (pos 4294901760))
    ∙ ap (λ y. y +ℤ pos 4294901760) (-ℤ-+ℤ_cancel (pos n) (pos (2 ^ 16)))

extended_split : (h : Bool) (n : ℕ) → n < 2 ^ 16 → wrapped 32 (if h then pos n else pos n -ℤ pos (2 ^ 16)) ≡ (if h then n else n + 4294901760)
extended_split true n lt = omega (arith, lt)
extended_split false n lt = wrap_is 32 1 (pos n -ℤ pos (2 ^ 16)) (n + 4294901760) (omega arith) (high_word n) ∙ omega (arith, lt)

pub extended_is : (n : ℕ) → n < 2 ^ 16 → extended n ≡ (if nat_lt n (2 ^ 15) then n else n + 4294901760)
extended_is n lt = extended_split (nat_lt n (2 ^ 15)) n lt

-- ---- calls

pub argument_is : (s : Scalar) (arguments : List (List ℕ)) (at : ℕ) (words : List ℕ) (n : ℕ) → slice_get arguments at ≡ Some words → numbers_in s words ≡ n ∷ [] → argument (map (numbers_in s) arguments) at ≡ n ∷ []
argument_is s arguments at words n got is =
    ap (λ o. unwrap_or o []) (slice_get-map (numbers_in s) arguments at ∙ ap (option_map (numbers_in s)) got) ∙ is

pub single_is : (f : ℕ → ℕ) (xs : List ℕ) (a n : ℕ) → xs ≡ a ∷ [] → n ≡ f a → map f xs ≡ n ∷ []
single_is f xs a n x h = ap (map f) x ∙ ap (λ m. m ∷ []) (sym h)

pub pair_is : (f : ℕ → ℕ → ℕ) (xs ys : List ℕ) (a b n : ℕ) → xs ≡ a ∷ [] → ys ≡ b ∷ [] → n ≡ f a b → pairwise f xs ys ≡ n ∷ []
pair_is f xs ys a b n x y h = ap (λ l. pairwise f l ys) x ∙ ap (pairwise f (a ∷ [])) y ∙ ap (λ m. m ∷ []) (sym h)

pub pairs_are : (f g : ℕ → ℕ → ℕ) (xs ys zs : List ℕ) (a b c m n : ℕ) → xs ≡ a ∷ [] → ys ≡ b ∷ [] → zs ≡ c ∷ [] → m ≡ g a b → n ≡ f m c → pairwise f (pairwise g xs ys) zs ≡ n ∷ []
pairs_are f g xs ys zs a b c m n x y z h k = pair_is f (pairwise g xs ys) zs m c n (pair_is g xs ys a b m x y h) z k

pub selected_is : (s : Scalar) (arguments : List (List ℕ)) (test a b n : ℕ) → slice_get arguments 0 ≡ Some (test ∷ []) → argument (map (numbers_in s) arguments) 1 ≡ a ∷ [] → argument (map (numbers_in s) arguments) 2 ≡ b ∷ [] → n ≡ (if is_true test then a else b) → called_with intrinsic.Select s (argument_numbers intrinsic.Select s arguments) ≡ n ∷ []
selected_is s [] test a b n got x y h = cc
selected_is s (t ∷ values) test a b n got x y h =
    ap (λ o. selected (unwrap_or o []) (argument (map (numbers_in s) (t ∷ values)) 1) (argument (map (numbers_in s) (t ∷ values)) 2)) got
    ∙ ap (λ l. selected (test ∷ []) l (argument (map (numbers_in s) (t ∷ values)) 2)) x
    ∙ ap (selected (test ∷ []) (a ∷ [])) y
    ∙ ap (λ m. m ∷ []) (sym h)
