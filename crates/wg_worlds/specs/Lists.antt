-- Facts of lists, by their elements.
use Rattle.std.proofs.Common.{◌≡◌, ℕ, zero, suc, ◌≤◌, false, List, [], ◌∷◌, ◌++◌, length, Some, refl, ap, subst, arith}
use Rattle.std.specs.Prelude.{◌==◌, slice_get, slice_index, slice_set, replicate}
use Rattle.std.proofs.lemmas.Bool.Decides.{nat_tests}
use Rattle.std.proofs.lemmas.List.{length-set}
use Rattle.wg_words.specs.Each.{Each}
use Rattle.wg_machine.specs.Buffers.{lengths_of, buffer_at, with_word}

pub each_append : {A : Type 0} (P : A → Type 0) (xs ys : List A) → Each P xs → Each P ys → Each P (xs ++ ys)
each_append P [] ys f g = g
each_append P (x ∷ xs) ys f g = (f.0, each_append P xs ys f.1 g)

pub each_set : {A : Type 0} (P : A → Type 0) (xs : List A) (at : ℕ) (y : A) → Each P xs → P y → Each P (slice_set xs at y)
each_set P [] at y f g = tt
each_set P (x ∷ xs) zero y f g = (g, f.1)
each_set P (x ∷ xs) (suc at) y f g = (f.0, each_set P xs at y f.1 g)

pub each_at : {A : Type 0} (P : A → Type 0) (xs : List A) (at : ℕ) (x : A) → Each P xs → slice_get xs at ≡ Some x → P x
each_at P [] at x f e = absurd (cc)
each_at P (y ∷ xs) zero x f e = subst P (inside y x e) f.0
  where
    inside : {A : Type 0} (y x : A) → Some y ≡ Some x → y ≡ x
    inside y x e = cc
each_at P (y ∷ xs) (suc at) x f e = each_at P xs at x f.1 e

pub each_replicate : {A : Type 0} (P : A → Type 0) (n : ℕ) (x : A) → P x → Each P (replicate n x)
each_replicate P zero x p = tt
each_replicate P (suc n) x p = (p, each_replicate P n x p)

pub index_set_same : (xs : List ℕ) (at v : ℕ) → 1 ≤ slice_index xs at → slice_index (slice_set xs at v) at ≡ v
index_set_same [] at v some = absurd (omega (arith, some))
index_set_same (x ∷ xs) zero v some = refl
index_set_same (x ∷ xs) (suc at) v some = index_set_same xs at v some

pub index_set_other : (xs : List ℕ) (at b v : ℕ) → (at == b) ≡ false → slice_index (slice_set xs at v) b ≡ slice_index xs b
index_set_other [] at b v other = refl
index_set_other (x ∷ xs) zero zero v other = absurd (cc)
index_set_other (x ∷ xs) zero (suc b) v other = refl
index_set_other (x ∷ xs) (suc at) zero v other = refl
index_set_other (x ∷ xs) (suc at) (suc b) v other = index_set_other xs at b v (grind (arith, nat_tests, other))

lengths_set : (lists : List (List ℕ)) (at : ℕ) (new : List ℕ) → length new ≡ length (buffer_at lists at) → lengths_of (slice_set lists at new) ≡ lengths_of lists
lengths_set [] at new e = refl
lengths_set (x ∷ lists) zero new e = ap (λ (n : ℕ). n ∷ lengths_of lists) e
lengths_set (x ∷ lists) (suc at) new e = ap (λ (ns : List ℕ). length x ∷ ns) (lengths_set lists at new e)

-- a word that is set leaves the lengths
pub lengths_written : (lists : List (List ℕ)) (list at value : ℕ) → lengths_of (with_word lists list at value) ≡ lengths_of lists
lengths_written lists list at value = lengths_set lists list _ (length-set (buffer_at lists list) at value)
