-- Numbers of scalars of 32 bits: they are the words of a value.
use Rattle.std.proofs.Common.{◌≡◌, ℕ, ◌+◌, ◌*◌, ◌%◌, ◌^◌, ◌<◌, List, map, refl, sym, ap, ◌∙◌, arith, Bool, true, false}
use Rattle.std.specs.Prelude.{not, IsTrue, if◌then◌else◌, nat_lt, ℤ, pos, ◌+ℤ◌, ◌-ℤ◌}
use Rattle.std.proofs.lemmas.Bool.{false≢true}
use Rattle.std.proofs.lemmas.Int.{int_rem_euclid_is}
use Rattle.std.proofs.Math.IntN.{ -ℤ-+ℤ_cancel}
use Rattle.std.specs.Int.RustNames.{unsigned_abs}
use Rattle.wg_words.specs.Words.{wrapped, sum_of}
use Rattle.wg_tree.specs.declared.expr.Scalar.{Scalar}
use Rattle.wg_tree.specs.declared.expr.Scalar.TheVariants as scalar
use Rattle.wg_tree.specs.declared.expr.BinaryOperator.{BinaryOperator}
use Rattle.wg_tree.specs.declared.expr.PrefixOperator.{PrefixOperator}
use Rattle.wg_typed.specs.Layout.{scalar_extent}
use Rattle.wg_typed.specs.Operators.{scalar_of, is_wide, numbers_in, words_for, result_scalar, gives_truth, combined, prefixed, pairwise, combined_words, prefixed_words, converted_number, whole_of}
use Rattle.wg_typed.specs.declared.types.TypeTree.{TypeTree}
use Rattle.wg_lowered.specs.Fits.{is_narrow}

pub narrow_is : (t : TypeTree) → IsTrue (is_narrow t) → is_wide (scalar_of t) ≡ false
narrow_is t h = go (is_wide (scalar_of t)) h
  where
    go : (b : Bool) → IsTrue (not b) → b ≡ false
    go true h = absurd (false≢true h)
    go false h = refl

pub plain_words : (s : Scalar) (ns : List ℕ) → is_wide s ≡ false → words_for s ns ≡ ns
plain_words scalar.Bool ns e = refl
plain_words scalar.Int ns e = refl
plain_words scalar.Uint ns e = refl
plain_words scalar.Int16 ns e = absurd (false≢true (sym e))
plain_words scalar.Uint16 ns e = absurd (false≢true (sym e))
plain_words scalar.Int64 ns e = absurd (false≢true (sym e))
plain_words scalar.Uint64 ns e = absurd (false≢true (sym e))

pub plain_numbers : (s : Scalar) (words : List ℕ) → is_wide s ≡ false → numbers_in s words ≡ words
plain_numbers scalar.Bool ns e = refl
plain_numbers scalar.Int ns e = refl
plain_numbers scalar.Uint ns e = refl
plain_numbers scalar.Int16 ns e = absurd (false≢true (sym e))
plain_numbers scalar.Uint16 ns e = absurd (false≢true (sym e))
plain_numbers scalar.Int64 ns e = absurd (false≢true (sym e))
plain_numbers scalar.Uint64 ns e = absurd (false≢true (sym e))

pub one_size : (s : Scalar) → is_wide s ≡ false → (scalar_extent s).words ≡ 1
one_size scalar.Bool e = refl
one_size scalar.Int e = refl
one_size scalar.Uint e = refl
one_size scalar.Int16 e = refl
one_size scalar.Uint16 e = refl
one_size scalar.Int64 e = absurd (false≢true (sym e))
one_size scalar.Uint64 e = absurd (false≢true (sym e))

pub plain_combined : (op : BinaryOperator) (t : TypeTree) (left right : List ℕ) → is_wide (scalar_of t) ≡ false → combined_words op t left right ≡ pairwise (combined op (scalar_of t)) left right
plain_combined op t left right e =
    plain_words (result_scalar op (scalar_of t)) _ (go (gives_truth op)) ∙ rw (plain_numbers (scalar_of t) left e, plain_numbers (scalar_of t) right e) refl
  where
    go : (b : Bool) → is_wide (if b then scalar.Bool else scalar_of t) ≡ false
    go true = refl
    go false = e

pub plain_prefixed : (op : PrefixOperator) (t : TypeTree) (words : List ℕ) → is_wide (scalar_of t) ≡ false → prefixed_words op t words ≡ map (prefixed op (scalar_of t)) words
plain_prefixed op t words e = plain_words (scalar_of t) _ e ∙ ap (map (prefixed op (scalar_of t))) (plain_numbers (scalar_of t) words e)

pub plain_converted : (from to : Scalar) (words : List ℕ) → is_wide from ≡ false → is_wide to ≡ false → words_for to (map (converted_number from to) (numbers_in from words)) ≡ map (converted_number from to) words
plain_converted from to words e g = plain_words to _ g ∙ ap (map (converted_number from to)) (plain_numbers from words e)

-- a number of 32 bits, signed or not, is its word modulo 2 ^ 32
wrap_is : (v k : ℕ) (z : ℤ) (m : ℕ) → 0 < 2 ^ v → z +ℤ pos (k * 2 ^ v) ≡ pos m → wrapped v z ≡ m % 2 ^ v
wrap_is v k z m p e = ap unsigned_abs (int_rem_euclid_is z (pos (2 ^ v)) (2 ^ v) k m p refl e)

wrap_word : (h : Bool) (n : ℕ) → wrapped 32 (if h then pos n else pos n -ℤ pos (2 ^ 32)) ≡ n % 2 ^ 32
wrap_word true n = refl
wrap_word false n = wrap_is 32 1 (pos n -ℤ pos (2 ^ 32)) n (omega arith) (-ℤ-+ℤ_cancel (pos n) (pos (2 ^ 32)))

pub whole_word : (s : Scalar) (n : ℕ) → is_wide s ≡ false → wrapped 32 (whole_of s n) ≡ sum_of 32 0 n
whole_word s n e = go s e ∙ (let z : n ≡ 0 + n = omega arith in ap (λ m. m % 2 ^ 32) z)
  where
    go : (s : Scalar) → is_wide s ≡ false → wrapped 32 (whole_of s n) ≡ n % 2 ^ 32
    go scalar.Bool e = refl
    go scalar.Int e = wrap_word (nat_lt n (2 ^ 31)) n
    go scalar.Uint e = refl
    go scalar.Int16 e = absurd (false≢true (sym e))
    go scalar.Uint16 e = absurd (false≢true (sym e))
    go scalar.Int64 e = absurd (false≢true (sym e))
    go scalar.Uint64 e = absurd (false≢true (sym e))
