-- Arguments and results of calls.
use Rattle.std.proofs.Common.{◌≡◌, ℕ, zero, suc, ◌+◌, ◌<◌, ◌≤◌, List, [], ◌∷◌, ◌++◌, length, map, take, drop, replicate, get_or, refl, sym, ap, ◌∙◌, arith, add-one, length-append}
use Rattle.std.specs.Prelude.{slice_index, slice_set}
use Rattle.std.proofs.lemmas.List.{length-replicate}
use Rattle.wg_code.specs.Functions.{first_registers}
use Rattle.wg_code.specs.Lane.{set_all}

pub mapped_at : (f : ℕ → ℕ) (xs : List ℕ) (i x : ℕ) → x ≡ get_or xs i x → i < length xs → slice_index (map f xs) i ≡ f x
mapped_at f [] i x e lt = absurd (let z : i < 0 = lt in omega (arith, z))
mapped_at f (y ∷ xs) zero x e lt = ap f (sym e)
mapped_at f (y ∷ xs) (suc i) x e lt = mapped_at f xs i x e (let z : suc i < suc (length xs) = lt in omega (arith, z))

pub mapped_past : (f : ℕ → ℕ) (xs : List ℕ) (i : ℕ) → length xs ≤ i → slice_index (map f xs) i ≡ 0
mapped_past f [] i le = refl
mapped_past f (y ∷ xs) zero le = absurd (let z : suc (length xs) ≤ 0 = le in omega (arith, z))
mapped_past f (y ∷ xs) (suc i) le = mapped_past f xs i (let z : suc (length xs) ≤ suc i = le in omega (arith, z))

zero_at : (n i : ℕ) → slice_index (replicate n 0) i ≡ 0
zero_at zero i = refl
zero_at (suc n) zero = refl
zero_at (suc n) (suc i) = zero_at n i

before_zeros : (xs : List ℕ) (n i : ℕ) → slice_index (xs ++ replicate n 0) i ≡ slice_index xs i
before_zeros [] n i = zero_at n i
before_zeros (x ∷ xs) n zero = refl
before_zeros (x ∷ xs) n (suc i) = before_zeros xs n i

take_next : (xs : List ℕ) (i : ℕ) → i < length xs → take (suc i) xs ≡ take i xs ++ slice_index xs i ∷ []
take_next [] i lt = absurd (let z : i < 0 = lt in omega (arith, z))
take_next (x ∷ xs) zero lt = refl
take_next (x ∷ xs) (suc i) lt = ap (λ l. x ∷ l) (take_next xs i (let z : suc i < suc (length xs) = lt in omega (arith, z)))

-- one register more
pub next_register : (args : List ℕ) (n i v : ℕ) (list : List ℕ) → i < n → v ≡ slice_index args i → list ≡ take i (args ++ replicate n 0) → list ++ v ∷ [] ≡ take (i + 1) (args ++ replicate n 0)
next_register args n i v list lt is so_far =
    let long : length (args ++ replicate n 0) ≡ length args + n = length-append args (replicate n 0) ∙ ap (λ k. length args + k) (length-replicate {A = ℕ} n 0) in
    let here : i < length (args ++ replicate n 0) = omega (arith, lt, long) in
    ap (λ l. l ++ v ∷ []) so_far
    ∙ ap (λ w. take i (args ++ replicate n 0) ++ w ∷ []) (is ∙ sym (before_zeros args n i))
    ∙ sym (take_next (args ++ replicate n 0) i here)
    ∙ ap (λ k. take k (args ++ replicate n 0)) (sym (add-one i))

pub set_all_nothing : (words rs : List ℕ) → set_all words rs [] ≡ words
set_all_nothing words [] = refl
set_all_nothing words (r ∷ rs) = refl
