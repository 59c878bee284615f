-- Where variables begin.
use Rattle.std.proofs.Common.{◌≡◌, ℕ, zero, suc, ◌+◌, ◌<◌, ◌≤◌, List, [], ◌∷◌, length, refl, ap, ◌∙◌, arith, zero-add, add_assoc}
use Rattle.std.specs.Prelude.{slice_index}
use Rattle.wg_lowered.specs.Where.{base_of, total}
use Rattle.wg_lower_expressions.specs.Begins.{begins}

begins_at : (xs : List ℕ) (at n : ℕ) → n < length xs → slice_index (begins at xs) n ≡ at + base_of xs n
begins_at [] at n lt = absurd (let h : ⊥ = omega (arith, lt) in h)
begins_at (x ∷ xs) at zero lt = omega arith
begins_at (x ∷ xs) at (suc n) lt = begins_at xs (at + x) n (omega (arith, lt)) ∙ add_assoc at x (base_of xs n)

pub begin_of : (xs : List ℕ) (n : ℕ) → n < length xs → slice_index (begins 0 xs) n ≡ base_of xs n
begin_of xs n lt = begins_at xs 0 n lt ∙ zero-add (base_of xs n)

pub as_many : (xs : List ℕ) (at : ℕ) → length (begins at xs) ≡ length xs
as_many [] at = refl
as_many (x ∷ xs) at = ap suc (as_many xs (at + x))

pub begin_past : (xs : List ℕ) (n : ℕ) → length xs ≤ n → base_of xs n ≡ total xs
begin_past [] n le = refl
begin_past (x ∷ xs) zero le = absurd (let h : ⊥ = omega (arith, le) in h)
begin_past (x ∷ xs) (suc n) le = ap (λ m. x + m) (begin_past xs n (omega (arith, le)))
