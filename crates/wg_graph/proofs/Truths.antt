-- The words that hold a truth, found by reading twos.
use Rattle.std.proofs.Common.{◌≡◌, ℕ, zero, suc, ◌+◌, ◌<◌, ◌≤◌, Bool, true, false, cond, ◌==◌, List, [], ◌∷◌, ◌++◌, length, replicate, filter, refl, sym, ap, ap₂, ◌∙◌, arith, Some}
use Rattle.std.specs.Prelude.{slice_index, slice_index_or}
use Rattle.std.specs.List.{range_with_len}
use Rattle.wg_typed.specs.Marks.{cleaned, cleaned_word, marks_in}
use Rattle.wg_typed.specs.Layout.{words_of}
use Rattle.wg_typed.specs.declared.typed.TypedStruct.{TypedStruct}
use Rattle.wg_typed.specs.declared.types.TypeTree.TheVariants.{Struct}
use Rattle.wg_typed.specs.declared.types.WordMark.{WordMark}
use Rattle.wg_typed.specs.declared.types.WordMark.TheVariants.{Plain, Truth, Signed16, Unsigned16, Between}
use Rattle.wg_shapes.specs.Records.{is_truth, bool_words}
use Rattle.wg_graph.specs.Ones.{places_of_ones}

-- ---- lists that grow at their end

filter_more : (test : ℕ → Bool) (at n : ℕ) → filter test (range_with_len at (suc n)) ≡ filter test (range_with_len at n) ++ cond (test (at + n)) ((at + n) ∷ []) []
filter_more test at zero = let e : at ≡ at + 0 = omega arith in ap (λ k. cond (test k) (k ∷ []) []) e
filter_more test at (suc n) = go (filter_more test (at + 1) n) (test at) refl
  where
    rest : filter test (range_with_len (at + 1) (suc n)) ≡ filter test (range_with_len (at + 1) n) ++ cond (test (at + 1 + n)) ((at + 1 + n) ∷ []) [] → filter test (range_with_len (at + 1) (suc n)) ≡ filter test (range_with_len (at + 1) n) ++ cond (test (at + suc n)) ((at + suc n) ∷ []) []
    rest h = let e : at + 1 + n ≡ at + suc n = omega arith in h ∙ ap (λ k. filter test (range_with_len (at + 1) n) ++ cond (test k) (k ∷ []) []) e

    go : filter test (range_with_len (at + 1) (suc n)) ≡ filter test (range_with_len (at + 1) n) ++ cond (test (at + 1 + n)) ((at + 1 + n) ∷ []) [] → (b : Bool) → test at ≡ b → cond (test at) (at ∷ filter test (range_with_len (at + 1) (suc n))) (filter test (range_with_len (at + 1) (suc n))) ≡ cond (test at) (at ∷ filter test (range_with_len (at + 1) n)) (filter test (range_with_len (at + 1) n)) ++ cond (test (at + suc n)) ((at + suc n) ∷ []) []
    go h true t =
        ap (λ b. cond b (at ∷ filter test (range_with_len (at + 1) (suc n))) (filter test (range_with_len (at + 1) (suc n)))) t
        ∙ (ap (λ l. at ∷ l) (rest h) ∙ ap (λ b. cond b (at ∷ filter test (range_with_len (at + 1) n)) (filter test (range_with_len (at + 1) n)) ++ cond (test (at + suc n)) ((at + suc n) ∷ []) []) (sym t))
    go h false t =
        ap (λ b. cond b (at ∷ filter test (range_with_len (at + 1) (suc n))) (filter test (range_with_len (at + 1) (suc n)))) t
        ∙ (rest h ∙ ap (λ b. cond b (at ∷ filter test (range_with_len (at + 1) n)) (filter test (range_with_len (at + 1) n)) ++ cond (test (at + suc n)) ((at + suc n) ∷ []) []) (sym t))

from_none : (test : ℕ → Bool) (n : ℕ) → filter test (range_with_len 0 (n + 1)) ≡ filter test (range_with_len 0 n) ++ cond (test n) (n ∷ []) []
from_none test n =
    (let s : n + 1 ≡ suc n = omega arith in ap (λ k. filter test (range_with_len 0 k)) s)
    ∙ (filter_more test 0 n ∙ (let z : 0 + n ≡ n = omega arith in ap (λ k. filter test (range_with_len 0 n) ++ cond (test k) (k ∷ []) []) z))

-- one more place, where the word there is 1
pub ones_more : (words : List ℕ) (n : ℕ) (places new : List ℕ) (wanted : Bool) → places ≡ filter (λ at. slice_index words at == 1) (range_with_len 0 n) → wanted ≡ (slice_index words n == 1) → new ≡ places ++ cond wanted (n ∷ []) []
    → new ≡ filter (λ at. slice_index words at == 1) (range_with_len 0 (n + 1))
ones_more words n places new wanted is t e =
    e ∙ (ap (λ l. l ++ cond wanted (n ∷ []) []) is
    ∙ (ap (λ b. filter (λ at. slice_index words at == 1) (range_with_len 0 n) ++ cond b (n ∷ []) []) t
    ∙ sym (from_none (λ at. slice_index words at == 1) n)))

abbrev two : ℕ
two = 2

-- ---- twos as they are read

mark_told : (m : WordMark) → (cleaned_word m 2 == 1) ≡ is_truth m
mark_told Plain = refl
mark_told Truth = refl
mark_told Signed16 = refl
mark_told Unsigned16 = refl
mark_told Between = refl

read_size : (marks : List WordMark) (words : List ℕ) → length (cleaned marks words) ≡ length words
read_size marks [] = refl
read_size [] (word ∷ words) = refl
read_size (m ∷ marks) (word ∷ words) = ap suc (read_size marks words)

size_twos : (n : ℕ) → length (replicate n two) ≡ n
size_twos zero = refl
size_twos (suc n) = ap suc (size_twos n)

two_there : (n at : ℕ) → at < n → slice_index (replicate n 2) at ≡ 2
two_there zero at lt = absurd (omega (arith, lt))
two_there (suc n) zero lt = refl
two_there (suc n) (suc at) lt = two_there n at (omega (arith, lt))

word_told : (marks : List WordMark) (n at : ℕ) → at < n → (slice_index (cleaned marks (replicate n 2)) at == 1) ≡ is_truth (slice_index_or marks at Plain)
word_told marks zero at lt = absurd (omega (arith, lt))
word_told [] (suc n) at lt = ap (λ w. w == 1) (two_there (suc n) at lt)
word_told (m ∷ marks) (suc n) zero lt = mark_told m
word_told (m ∷ marks) (suc n) (suc at) lt = word_told marks n at (omega (arith, lt))

filter_same : (f g : ℕ → Bool) (at n : ℕ) → ((i : ℕ) → at ≤ i → i < at + n → f i ≡ g i) → filter f (range_with_len at n) ≡ filter g (range_with_len at n)
filter_same f g at zero h = refl
filter_same f g at (suc n) h =
    ap₂ (λ b l. cond b (at ∷ l) l) (h at (omega arith) (omega arith)) (filter_same f g (at + 1) n (λ i le lt. h i (omega (arith, le)) (omega (arith, lt))))

pub few_read : (structs : List TypedStruct) (number count : ℕ) (words read : List ℕ) → words ≡ replicate count 2 → read ≡ cleaned (marks_in structs (Struct number)) words → length read ≡ count
few_read structs number count words read w r = ap length r ∙ (read_size (marks_in structs (Struct number)) words ∙ (ap length w ∙ size_twos count))

pub bools_told : (structs : List TypedStruct) (number count : ℕ) (words read places : List ℕ) → count ≡ words_of structs (Struct number) → words ≡ replicate count 2 → read ≡ cleaned (marks_in structs (Struct number)) words → places ≡ places_of_ones read
    → places ≡ bool_words structs (Some number)
bools_told structs number count words read places c w r p =
    let is : read ≡ cleaned (marks_in structs (Struct number)) (replicate count 2) = r ∙ ap (cleaned (marks_in structs (Struct number))) w in
    let size : length read ≡ count = ap length is ∙ (read_size (marks_in structs (Struct number)) (replicate count 2) ∙ size_twos count) in
    p ∙ (ap (λ n. filter (λ at. slice_index read at == 1) (range_with_len 0 n)) size
    ∙ (ap (λ l. filter (λ at. slice_index l at == 1) (range_with_len 0 count)) is
    ∙ (filter_same (λ at. slice_index (cleaned (marks_in structs (Struct number)) (replicate count 2)) at == 1) (λ at. is_truth (slice_index_or (marks_in structs (Struct number)) at Plain)) 0 count (λ i le lt. word_told (marks_in structs (Struct number)) count i (omega (arith, lt)))
    ∙ ap (λ n. filter (λ at. is_truth (slice_index_or (marks_in structs (Struct number)) at Plain)) (range_with_len 0 n)) c)))
