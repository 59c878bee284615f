-- Bits of words as flags of places.
use Rattle.std.proofs.Common.{◌≡◌, ◌≢◌, ℕ, zero, suc, ◌+◌, ◌-◌, ◌*◌, ◌/◌, ◌%◌, ◌^◌, ◌<◌, ◌≤◌, Bool, true, false, List, [], ◌∷◌, length, get_or, set, slice_index, Some, None, refl, sym, ◌∙◌, ap, subst, arith, inl, inr, w64}
use Rattle.std.specs.Int.{bit_at, bit_not, trailing_zeros}
use Rattle.std.specs.Int.RustNames.{bit_or}
use Rattle.std.proofs.Common.{bit_and}
use Rattle.std.proofs.Math.Nat.{div-div-eq-div-mul}
use Rattle.std.proofs.lemmas.Bool.{cases_lt}
use Rattle.std.proofs.lemmas.Bool.Decides.{eqb_tells}
use Rattle.std.proofs.lemmas.List.{length-set, get_or-set_same, get_or-set_other}
use Rattle.std.proofs.lemmas.Nat.{pow-add}
use Rattle.std.proofs.lemmas.Nat.Bits.{bit_at-zero, bit_at_above, bit_at-trailing_zeros, bit_at_set_same, bit_at_set_other, bit_at_clear_same, bit_at_clear_other}
use Rattle.wg_words.specs.Words.{is_bit_set}
use Rattle.wg_pick.specs.Row.{is_flagged, IsFlagSet, IsFirstFrom}

not_set : (a k : ℕ) → bit_at a k ≡ 0 → is_bit_set a k ≡ false
not_set a k e = rw e refl

is_set : (a k : ℕ) → bit_at a k ≡ 1 → is_bit_set a k ≡ true
is_set a k e = rw e refl

same_bit : (a b k : ℕ) → bit_at a k ≡ bit_at b k → is_bit_set a k ≡ is_bit_set b k
same_bit a b k e = rw e refl

-- ---- the next bit of a word

bits_after : (word low k : ℕ) → low ≤ k → bit_at word k ≡ bit_at (word / 2 ^ low) (k - low)
bits_after word low k h =
    let e : k ≡ low + (k - low) = omega (arith, h) in
    let P : ℕ → Type 0 = λ x. word / 2 ^ x % 2 ≡ word / 2 ^ low / 2 ^ (k - low) % 2 in
    subst P (sym e) (rw (pow-add 2 low (k - low), div-div-eq-div-mul word (2 ^ low) (2 ^ (k - low))) refl)

pub no_bit : (word low : ℕ) → word / 2 ^ low ≡ 0 → IsFirstFrom (is_bit_set word) low 64 None
no_bit word low e k from below =
    not_set word k (bits_after word low k from ∙ ap (λ (x : ℕ). bit_at x (k - low)) e ∙ bit_at-zero (k - low))

pub first_bit : (word low : ℕ) → word < 2 ^ 64 → word / 2 ^ low < 2 ^ 64 → 0 < word / 2 ^ low
    → IsFirstFrom (is_bit_set word) low 64 (Some (low + trailing_zeros w64 (word / 2 ^ low)))
first_bit word low fits less some =
    let rest = word / 2 ^ low in
    let t = trailing_zeros w64 rest in
    let found = bit_at-trailing_zeros w64 rest some less in
    let back : low + t - low ≡ t = omega arith in
    let one : bit_at word (low + t) ≡ 1 = bits_after word low (low + t) (omega arith) ∙ ap (λ (x : ℕ). bit_at rest x) back ∙ found.1 in
    let inside : low + t < 64 = elim (cases_lt (low + t) 64) [
      | inl below ↦ below
      | inr past ↦ let none = bit_at_above word 64 (low + t) fits past in absurd (omega (arith, one, none))
    ] in (
      omega arith,
      inside,
      is_set word (low + t) one,
      λ k from below. not_set word k (bits_after word low k from ∙ found.2 (k - low) (omega (arith, from, below))),
    )

-- ---- the next flag

flag_of_bit : (flags : List ℕ) (w j : ℕ) → j < 64 → is_flagged flags (64 * w + j) ≡ is_bit_set (slice_index flags w) j
flag_of_bit flags w j few =
    let d : (64 * w + j) / 64 ≡ w = omega (arith, few) in
    let m : (64 * w + j) % 64 ≡ j = omega (arith, few) in
    rw (d, m) refl

-- no flag from one place on, below a bit of a word
pub record AreNone (flags : List ℕ) (from word low : ℕ) : Type 0 where
  pub few : low < 64
  pub start : from ≤ 64 * word + low
  pub none : (k : ℕ) → from ≤ k → k < 64 * word + low → is_flagged flags k ≡ false

pub none_yet : (flags : List ℕ) (from : ℕ) → AreNone flags from (from / 64) (from % 64)
none_yet flags from = record { few = omega arith; start = omega arith; none = λ k h below. absurd (omega (arith, h, below)) }

in_word : (flags : List ℕ) (from word low k : ℕ) → AreNone flags from word low → (end : ℕ)
    → ((j : ℕ) → low ≤ j → j < end → is_bit_set (slice_index flags word) j ≡ false) → end ≤ 64
    → from ≤ k → k < 64 * word + end → is_flagged flags k ≡ false
in_word flags from word low k are end none most start below =
    elim (cases_lt k (64 * word + low)) [
      | inl before ↦ are.none k start before
      | inr here ↦
          let j = k - 64 * word in
          let e : k ≡ 64 * word + j = omega (arith, here) in
          let P : ℕ → Type 0 = λ x. is_flagged flags x ≡ false in
          subst P (sym e) (flag_of_bit flags word j (omega (arith, below, most)) ∙ none j (omega (arith, here)) (omega (arith, below)))
    ]

pub none_in_word : (flags : List ℕ) (from word low : ℕ) → AreNone flags from word low → IsFirstFrom (is_bit_set (slice_index flags word)) low 64 None
    → AreNone flags from (word + 1) 0
none_in_word flags from word low are none =
    record {
      few = omega arith;
      start = omega (arith, are.start, are.few);
      none = λ k start below. in_word flags from word low k are 64 none (omega arith) start (omega (arith, below));
    }

pub found_in_word : (flags : List ℕ) (from word low bit : ℕ) → AreNone flags from word low → word < length flags
    → IsFirstFrom (is_bit_set (slice_index flags word)) low 64 (Some bit) → IsFirstFrom (is_flagged flags) from (64 * length flags) (Some (64 * word + bit))
found_in_word flags from word low bit are within found = (
  omega (arith, are.start, found.0),
  omega (arith, within, found.1),
  flag_of_bit flags word bit found.1 ∙ found.2,
  λ k start below. in_word flags from word low k are bit found.3 (omega (arith, found.1)) start below,
)

pub none_at_all : (flags : List ℕ) (from word low : ℕ) → AreNone flags from word low → length flags ≤ word → IsFirstFrom (is_flagged flags) from (64 * length flags) None
none_at_all flags from word low are past k start below = are.none k start (omega (arith, past, below))

-- ---- one flag set or cleared

-- a read within a list, whatever stands for one past it
pub same_read : (xs : List ℕ) (k d e : ℕ) → k < length xs → get_or xs k d ≡ get_or xs k e
same_read [] k d e h = absurd (omega (arith, h))
same_read (x ∷ xs) zero d e h = refl
same_read (x ∷ xs) (suc k) d e h = same_read xs k d e (omega (arith, h))

replaced : (flags : List ℕ) (place new : ℕ) (b : Bool) → place < 64 * length flags
    → is_bit_set new (place % 64) ≡ b
    → ((j : ℕ) → j < 64 → j ≢ place % 64 → is_bit_set new j ≡ is_bit_set (slice_index flags (place / 64)) j)
    → IsFlagSet flags (set flags (place / 64) new) place b
replaced flags place new b within here others =
    record {
      same_length = length-set flags (place / 64) new;
      here = rw (get_or-set_same flags (place / 64) new 0 (omega (arith, within))) here;
      others = other_flag;
    }
  where
    other_flag : (other : ℕ) → other ≢ place → is_flagged (set flags (place / 64) new) other ≡ is_flagged flags other
    other_flag other differs =
        elim (eqb_tells (other / 64) (place / 64)) [
          | inl same ↦
              let apart : other % 64 ≢ place % 64 = λ e. differs (omega (arith, e, same.1)) in
              rw (same.1, get_or-set_same flags (place / 64) new 0 (omega (arith, within))) (others (other % 64) (omega arith) apart)
          | inr apart ↦ rw (get_or-set_other flags (place / 64) (other / 64) new 0 apart.1) refl
        ]

pub flag_on : (flags : List ℕ) (place old : ℕ) → place < 64 * length flags → old ≡ get_or flags (place / 64) old
    → IsFlagSet flags (set flags (place / 64) (bit_or old (1 * 2 ^ (place % 64) % 2 ^ 64))) place true
flag_on flags place old within is =
    let k = place % 64 in
    let new = bit_or old (1 * 2 ^ k % 2 ^ 64) in
    let e : old ≡ slice_index flags (place / 64) = is ∙ same_read flags (place / 64) old 0 (omega (arith, within)) in
    replaced flags place new true within (is_set new k (bit_at_set_same w64 old k (omega arith)))
    (λ j few differs. same_bit new old j (bit_at_set_other w64 old k (omega arith) j differs) ∙ ap (λ (x : ℕ). is_bit_set x j) e)

pub flag_off : (flags : List ℕ) (place old : ℕ) → place < 64 * length flags → old ≡ get_or flags (place / 64) old
    → IsFlagSet flags (set flags (place / 64) (bit_and old (bit_not w64 (1 * 2 ^ (place % 64) % 2 ^ 64)))) place false
flag_off flags place old within is =
    let k = place % 64 in
    let new = bit_and old (bit_not w64 (1 * 2 ^ k % 2 ^ 64)) in
    let e : old ≡ slice_index flags (place / 64) = is ∙ same_read flags (place / 64) old 0 (omega (arith, within)) in
    replaced flags place new false within (not_set new k (bit_at_clear_same w64 old k (omega arith)))
    (λ j few differs. same_bit new old j (bit_at_clear_other w64 old k (omega arith) j few differs) ∙ ap (λ (x : ℕ). is_bit_set x j) e)
