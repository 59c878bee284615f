-- The greatest number of a list that grows by one.
use Rattle.std.proofs.Common.{◌≡◌, ℕ, zero, suc, ◌+◌, ◌<◌, max, List, [], ◌∷◌, length, map, take, get_or, ap, ◌∙◌, arith, add-one}
use Rattle.wg_machine.specs.Need.{greatest}

max_assoc : (a b c : ℕ) → max a (max b c) ≡ max (max a b) c
max_assoc a b c = omega arith

greatest_suc : {A : Type 0} (f : A → ℕ) (xs : List A) (i : ℕ) (x : A) → i < length xs → x ≡ get_or xs i x → greatest (map f (take (suc i) xs)) ≡ max (greatest (map f (take i xs))) (f x)
greatest_suc f [] i x h e = absurd (omega arith)
greatest_suc f (y ∷ xs) zero x h e = rw e (omega arith)
greatest_suc f (y ∷ xs) (suc i) x h e =
    ap (λ n. max (f y) n) (greatest_suc f xs i x (omega arith) e) ∙ max_assoc (f y) (greatest (map f (take i xs))) (f x)

pub greatest_more : {A : Type 0} (f : A → ℕ) (xs : List A) (i : ℕ) (x : A) → i < length xs → x ≡ get_or xs i x → greatest (map f (take (i + 1) xs)) ≡ max (greatest (map f (take i xs))) (f x)
greatest_more f xs i x h e = rw add-one (greatest_suc f xs i x h e)
