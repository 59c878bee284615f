-- Sums over lists, as far as a walk has come.
use Rattle.std.proofs.Common.{◌≡◌, ℕ, zero, suc, ◌+◌, ◌<◌, ◌≤◌, sym, ap, ◌∙◌, List, [], ◌∷◌, length, map, drop, get_or, arith}
use Rattle.std.proofs.lemmas.List.{drop_more, drop_all}
use Rattle.wg_typed.specs.Weight.{total, raised}

-- an item is no more than the sum
pub item_within : {X : Type 0} (f : X → ℕ) (xs : List X) (i : ℕ) (x : X) → x ≡ get_or xs i x → i < length xs → f x ≤ total (map f xs)
item_within f [] i x at within = omega arith
item_within f (y ∷ rest) zero x at within = let e : f x ≡ f y = ap f at in omega (arith, e)
item_within f (y ∷ rest) (suc i) x at within = let h = item_within f rest i x at (omega arith) in omega (arith, h)

total_at : {X : Type 0} (f : X → ℕ) (xs : List X) (i : ℕ) (x : X) → x ≡ get_or xs i x → i < length xs → total (map f (drop i xs)) ≡ f x + total (map f (drop (i + 1) xs))
total_at f xs i x at within = ap (λ l. total (map f l)) (drop_more xs i x within) ∙ ap (λ y. f y + total (map f (drop (i + 1) xs))) (sym at)

pub weighed_on : {X : Type 0} (f : X → ℕ) (xs : List X) (i : ℕ) (x : X) (s after whole : ℕ) → x ≡ get_or xs i x → i < length xs → after ≡ raised s (f x) → raised s (total (map f (drop i xs))) ≡ whole
    → (after ≤ 65537) × (raised after (total (map f (drop (i + 1) xs))) ≡ whole)
weighed_on f xs i x s after whole at within is says = let e = total_at f xs i x at within in (omega (arith, is), omega (arith, is, e, says))

pub weighed_all : {X : Type 0} (f : X → ℕ) (xs : List X) (i : ℕ) (s whole : ℕ) → length xs ≤ i → s ≤ 65537 → raised s (total (map f (drop i xs))) ≡ whole → s ≡ whole
weighed_all f xs i s whole le bound says = let e : total (map f (drop i xs)) ≡ 0 = ap (λ l. total (map f l)) (drop_all i xs le) in omega (arith, e, says)
