-- Words read from registers and from a lane's variables.
use Rattle.std.proofs.Common.{◌≡◌, ℕ, zero, suc, ◌+◌, ◌<◌, ◌≤◌, List, [], ◌∷◌, ◌++◌, map, length, Bool, true, false, refl, sym, ap, ◌∙◌, subst, arith, length-append}
use Rattle.std.proofs.lemmas.Bool.{false≢true}
use Rattle.std.proofs.lemmas.List.{get_or_append_left, get_or-append-add}
use Rattle.std.specs.Prelude.{slice_index, IsTrue, ◌&&◌}
use Rattle.wg_typed.specs.Layout.{put}
use Rattle.wg_semantics.specs.Places.{words_from}
use Rattle.wg_state.specs.WordLists.{list_at, zeros}
use Rattle.wg_lowered.specs.Where.{run}
use Rattle.wg_lowered.specs.Where.{base_of, total}
use Rattle.wg_lowered.specs.Holding.{Below}
use Rattle.wg_lowered.proofs.Straight.{Every}

pub and_left : (a b : Bool) → IsTrue (a && b) → IsTrue a
and_left true b h = refl
and_left false b h = h

pub and_right : (a b : Bool) → IsTrue (a && b) → IsTrue b
and_right true b h = h
and_right false b h = absurd (false≢true h)

-- registers below, read again
pub reads_same : (d : ℕ) (a b rs : List ℕ) → Below d a b → Every (λ r. r < d) rs → map (slice_index b) rs ≡ map (slice_index a) rs
reads_same d a b [] h e = refl
reads_same d a b (r ∷ rs) h e = rw (h.kept r e.0, reads_same d a b rs h e.1) refl

-- registers one after another
pub run_reads : (xs : List ℕ) (at n : ℕ) → map (slice_index xs) (run at n) ≡ words_from xs at n
run_reads xs at zero = refl
run_reads xs at (suc n) = ap (λ l. slice_index xs at ∷ l) (run_reads xs (suc at) n)

pub run_below : (at n d : ℕ) → at + n ≤ d → Every (λ r. r < d) (run at n)
run_below at zero d le = tt
run_below at (suc n) d le = (omega arith, run_below (suc at) n d (omega arith))

pub run_below_if : (at n d : ℕ) → (0 < n → at + n ≤ d) → Every (λ r. r < d) (run at n)
run_below_if at zero d h = tt
run_below_if at (suc n) d h = run_below at (suc n) d (h (omega arith))

pub run_length : (at n : ℕ) → length (run at n) ≡ n
run_length at zero = refl
run_length at (suc n) = ap suc (run_length (suc at) n)

pub from_length : (xs : List ℕ) (at n : ℕ) → length (words_from xs at n) ≡ n
from_length xs at zero = refl
from_length xs at (suc n) = ap suc (from_length xs (suc at) n)

-- words that are equal one by one
pub from_same : (xs ys : List ℕ) (a b n : ℕ) → ((j : ℕ) → j < n → slice_index xs (a + j) ≡ slice_index ys (b + j)) → words_from xs a n ≡ words_from ys b n
from_same xs ys a b zero h = refl
from_same xs ys a b (suc n) h =
    let ea : a + 0 ≡ a = omega arith in
    let eb : b + 0 ≡ b = omega arith in
    let first : slice_index xs a ≡ slice_index ys b = ap (slice_index xs) (sym ea) ∙ h 0 (omega arith) ∙ ap (slice_index ys) eb in
    let rest : words_from xs (suc a) n ≡ words_from ys (suc b) n = from_same xs ys (suc a) (suc b) n (λ j lt.
    let sa : suc a + j ≡ a + suc j = omega arith in
    let sb : suc b + j ≡ b + suc j = omega arith in
    ap (slice_index xs) sa ∙ h (suc j) (omega arith) ∙ ap (slice_index ys) (sym sb)) in
    rw (first, rest) refl

pub from_zeros : (xs : List ℕ) (a n : ℕ) → ((j : ℕ) → j < n → slice_index xs (a + j) ≡ 0) → words_from xs a n ≡ zeros n
from_zeros xs a zero h = refl
from_zeros xs a (suc n) h =
    let ea : a + 0 ≡ a = omega arith in
    let first : slice_index xs a ≡ 0 = ap (slice_index xs) (sym ea) ∙ h 0 (omega arith) in
    let rest : words_from xs (suc a) n ≡ zeros n = from_zeros xs (suc a) n (λ j lt. let sa : suc a + j ≡ a + suc j = omega arith in ap (slice_index xs) sa ∙ h (suc j) (omega arith)) in
    rw (first, rest) refl

-- a word of a variable, where all variables stand one after another
pub base_below : (sizes : List ℕ) (x : ℕ) → base_of sizes x + slice_index sizes x ≤ total sizes
base_below [] x = omega arith
base_below (n ∷ sizes) zero = omega arith
base_below (n ∷ sizes) (suc x) = omega (arith, base_below sizes x)

pub flat_deep : (lists : List (List ℕ)) (x j : ℕ) → j < slice_index (map length lists) x → slice_index (put lists) (base_of (map length lists) x + j) ≡ slice_index (list_at lists x) j
flat_deep [] x j lt = absurd (let h : ⊥ = omega arith in h)
flat_deep (l ∷ lists) zero j lt = let z : 0 + j ≡ j = omega arith in ap (slice_index (l ++ put lists)) z ∙ get_or_append_left l (put lists) 0 j lt
flat_deep (l ∷ lists) (suc x) j lt =
    let a : length l + base_of (map length lists) x + j ≡ length l + (base_of (map length lists) x + j) = omega arith in
    ap (slice_index (l ++ put lists)) a ∙ get_or-append-add l (put lists) (base_of (map length lists) x + j) 0 ∙ flat_deep lists x j lt

pub flat_word : (lists : List (List ℕ)) (sizes : List ℕ) (x j : ℕ) → map length lists ≡ sizes → j < slice_index sizes x → slice_index (put lists) (base_of sizes x + j) ≡ slice_index (list_at lists x) j
flat_word lists sizes x j e lt =
    subst (λ l. j < slice_index l x → slice_index (put lists) (base_of l x + j) ≡ slice_index (list_at lists x) j) e (flat_deep lists x j) lt

pub put_length : (lists : List (List ℕ)) → length (put lists) ≡ total (map length lists)
put_length [] = refl
put_length (l ∷ lists) = length-append l (put lists) ∙ ap (λ n. length l + n) (put_length lists)
