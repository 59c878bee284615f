-- Start words set one by one over zeros.
use Rattle.std.proofs.Common.{◌≡◌, ℕ, ◌+◌, ◌-◌, ◌<◌, ◌≤◌, List, length, get_or, set, replicate, refl, sym, ◌∙◌, arith, inl, inr, length-append}
use Rattle.std.proofs.lemmas.Bool.{cases_lt}
use Rattle.std.proofs.lemmas.Bool.Decides.{eqb_tells}
use Rattle.std.proofs.lemmas.List.{length-set, get_or_append_left, get_or-append_right, get_or-set_same, get_or-set_other, get_or_past, ext_get_or, length-replicate, get_or-replicate}
use Rattle.wg_buffers.specs.Start.{padded}

pub record AreStarted (words : List ℕ) (size : ℕ) (start : List ℕ) (i : ℕ) : Type 0 where
  pub size_is : length words ≡ size
  pub below : (k : ℕ) → k < i → get_or words k 0 ≡ get_or start k 0
  pub past : (k : ℕ) → i ≤ k → get_or words k 0 ≡ 0

abbrev zeros : ℕ → List ℕ
zeros n = replicate n 0

zero_at : (n k : ℕ) → get_or (zeros n) k 0 ≡ 0
zero_at n k =
    elim (cases_lt k n) [
      | inl below ↦ get_or-replicate {A = ℕ} n k 0 0 below
      | inr past ↦ get_or_past (zeros n) k 0 (omega (arith, length-replicate {A = ℕ} n 0, past))
    ]

pub none_started : (size : ℕ) (start : List ℕ) → AreStarted (replicate size 0) size start 0
none_started size start =
    record { size_is = length-replicate {A = ℕ} size 0; below = λ k h. absurd (omega (arith, h)); past = λ k h. zero_at size k }

pub one_started : (words : List ℕ) (size : ℕ) (start : List ℕ) (i v : ℕ) → AreStarted words size start i → i < size → v ≡ get_or start i 0
    → AreStarted (set words i v) size start (i + 1)
one_started words size start i v are within is =
    record {
      size_is = length-set words i v ∙ are.size_is;
      below = λ k h. elim (eqb_tells k i) [
        | inl same ↦ rw same.1 (get_or-set_same words i v 0 (omega (arith, are.size_is, within)) ∙ is)
        | inr other ↦ get_or-set_other words i k v 0 other.1 ∙ are.below k (lower k h other.1)
      ];
      past = λ k h. get_or-set_other words i k v 0 (λ e. absurd (omega (arith, e, h))) ∙ are.past k (omega (arith, h));
    }
  where
    lower : (k : ℕ) → k < i + 1 → (k ≡ i → ⊥) → k < i
    lower k h differs = elim (cases_lt k i) [ inl below ↦ below | inr past ↦ absurd (differs (omega (arith, h, past))) ]

pub all_started : (words : List ℕ) (size : ℕ) (start : List ℕ) → AreStarted words size start (length start) → length start ≤ size → words ≡ padded start size
all_started words size start are few =
    ext_get_or 0 words (padded start size) (omega (arith, are.size_is, few, length-append start (zeros (size - length start)), length-replicate {A = ℕ} (size - length start) 0))
    (λ k h. each k)
  where
    each : (k : ℕ) → get_or words k 0 ≡ get_or (padded start size) k 0
    each k =
        elim (cases_lt k (length start)) [
          | inl below ↦ are.below k below ∙ sym (get_or_append_left start (zeros (size - length start)) 0 k below)
          | inr past ↦ are.past k past ∙ sym (get_or-append_right start (zeros (size - length start)) (length start) k 0 refl past ∙ zero_at (size - length start) (k - length start))
        ]
