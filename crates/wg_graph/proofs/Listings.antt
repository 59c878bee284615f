-- Budgets, names and targets, found one after another.
use Rattle.std.proofs.Common.{◌≡◌, ℕ, zero, suc, ◌+◌, ◌<◌, max, Bool, true, false, cond, not, ◌&&◌, ◌||◌, ◌==◌, List, [], ◌∷◌, ◌++◌, length, map, take, drop, get_or, refl, sym, ap, ap₂, ◌∙◌, arith}
use Rattle.std.specs.List.{list_any, range_with_len}
use Rattle.std.proofs.lemmas.Bool.{cond-true, cond-false}
use Rattle.std.proofs.lemmas.List.{at_drop_more, take_more}
use Rattle.std.proofs.lemmas.List.FromFn.{map-range_with_len_more}
use Rattle.wg_node_attributes.specs.declared.attributes.OutputAttr.{OutputAttr}
use Rattle.wg_node_attributes.specs.declared.attributes.NodeAttrs.{NodeAttrs}
use Rattle.wg_shapes.specs.Naming.{targets}
use Rattle.wg_shapes.specs.ShapeOf.{budget_count, most_of}

-- ---- budgets

pub count_more : (os : List OutputAttr) (i : ℕ) (o : OutputAttr) (count new : ℕ) → i < length os → o ≡ get_or os i o → new ≡ max count (o.budget + 1) → max count (budget_count (drop i os)) ≡ budget_count os → max new (budget_count (drop (i + 1) os)) ≡ budget_count os
count_more os i o count new lt is e h =
    let s = at_drop_more budget_count os i o lt ∙ ap (λ (x : OutputAttr). max (suc x.budget) (budget_count (drop (i + 1) os))) (sym is) in
    omega (arith, s, e, h)

pub most_here : (os : List OutputAttr) (i : ℕ) (o : OutputAttr) (budget : ℕ) → i < length os → o ≡ get_or os i o → (o.budget == budget) ≡ true → most_of (drop i os) budget ≡ o.most
most_here os i o budget lt is t =
    at_drop_more (λ l. most_of l budget) os i o lt ∙ (ap (λ (x : OutputAttr). cond (x.budget == budget) x.most (most_of (drop (i + 1) os) budget)) (sym is) ∙ cond-true (o.budget == budget) o.most (most_of (drop (i + 1) os) budget) t)

pub most_later : (os : List OutputAttr) (i : ℕ) (o : OutputAttr) (budget : ℕ) → i < length os → o ≡ get_or os i o → (o.budget == budget) ≡ false → most_of (drop i os) budget ≡ most_of (drop (i + 1) os) budget
most_later os i o budget lt is f =
    at_drop_more (λ l. most_of l budget) os i o lt ∙ (ap (λ (x : OutputAttr). cond (x.budget == budget) x.most (most_of (drop (i + 1) os) budget)) (sym is) ∙ cond-false (o.budget == budget) o.most (most_of (drop (i + 1) os) budget) f)

pub budget_more : (os : List OutputAttr) (n : ℕ) (list new : List ℕ) (x : ℕ) → list ≡ map (most_of os) (range_with_len 0 n) → x ≡ most_of os n → new ≡ list ++ x ∷ [] → new ≡ map (most_of os) (range_with_len 0 (n + 1))
budget_more os n list new x is found e = e ∙ (ap₂ (λ l y. l ++ y ∷ []) is found ∙ sym (map-range_with_len_more (most_of os) 0 n n (omega arith)))

-- ---- names

pub name_more : {A B : Type 0} (f : A → B) (xs : List A) (i : ℕ) (x : A) (names new : List B) (name : B) → i < length xs → x ≡ get_or xs i x → names ≡ map f (take i xs) → name ≡ f x → new ≡ names ++ name ∷ [] → new ≡ map f (take (i + 1) xs)
name_more f xs i x names new name lt is h e n =
    n ∙ (ap₂ (λ l y. l ++ y ∷ []) h e ∙ (sym (map_push f (take i xs) x) ∙ ap (map f) (sym (take_more xs i x lt ∙ ap (λ y. take i xs ++ y ∷ []) (sym is)))))
  where
    map_push : {A B : Type 0} (f : A → B) (xs : List A) (y : A) → map f (xs ++ y ∷ []) ≡ map f xs ++ f y ∷ []
    map_push f [] y = refl
    map_push f (x ∷ xs) y = ap (λ l. f x ∷ l) (map_push f xs y)

-- ---- numbers that pass a test

pub one_passes : (f : ℕ → Bool) (at n i : ℕ) → i < n → f (at + i) ≡ true → list_any f (range_with_len at n) ≡ true
one_passes f at zero i lt t = absurd (omega (arith, lt))
one_passes f at (suc n) zero lt t = let e : at + 0 ≡ at = omega arith in ap (λ b. b || list_any f (range_with_len (at + 1) n)) (ap f (sym e) ∙ t)
one_passes f at (suc n) (suc i) lt t =
    let e : at + 1 + i ≡ at + suc i = omega arith in
    ap (λ b. f at || b) (one_passes f (at + 1) n i (omega (arith, lt)) (ap f e ∙ t)) ∙ or_true (f at)
  where
    or_true : (b : Bool) → (b || true) ≡ true
    or_true true = refl
    or_true false = refl

pub none_passes : (f : ℕ → Bool) (at n : ℕ) → ((i : ℕ) → i < n → f (at + i) ≡ false) → list_any f (range_with_len at n) ≡ false
none_passes f at zero h = refl
none_passes f at (suc n) h =
    let e : at + 0 ≡ at = omega arith in
    ap₂ (λ a b. a || b) (ap f (sym e) ∙ h 0 (omega arith)) (none_passes f (at + 1) n (λ i lt. let g : at + 1 + i ≡ at + suc i = omega arith in ap f g ∙ h (suc i) (omega (arith, lt))))

-- another node that targets this one
pub passes_here : (nodes : List NodeAttrs) (m n : ℕ) (b : Bool) → b ≡ targets nodes m n → (not (m == n) && b) ≡ true → (not (0 + m == n) && targets nodes (0 + m) n) ≡ true
passes_here nodes m n b e t = let z : 0 + m ≡ m = omega arith in ap (λ k. not (k == n) && targets nodes k n) z ∙ (ap (λ c. not (m == n) && c) (sym e) ∙ t)
