-- Counts, and tests of some element, by one more element.
use Rattle.std.proofs.Common.{◌≡◌, ℕ, zero, suc, ◌+◌, ◌<◌, ◌≤◌, Bool, true, false, ◌||◌, cond, List, [], ◌∷◌, ◌++◌, length, refl, ap, ◌∙◌, subst, arith}
use Rattle.std.specs.Prelude.{if◌then◌else◌, count_by, Contains, slice_index_or}
use Rattle.std.specs.List.{list_any}
use Rattle.std.proofs.lemmas.List.Sums.{sum_by-cons}
use Rattle.wg_words.specs.Each.{Each}

abbrev pub pay : Bool → ℕ → ℕ
pay b n = if b then n else 0

pub count_cons : {X : Type 0} → (p : X → Bool) (x : X) (xs : List X) → count_by p (x ∷ xs) ≡ (if p x then 1 else 0) + count_by p xs
count_cons p x xs = sum_by-cons (λ y. cond (p y) 1 0) x xs

-- a test that one element passes is passed by some
pub any_contained : {X : Type 0} → (p : X → Bool) (xs : List X) (x : X) → Contains xs x → p x ≡ true → list_any p xs ≡ true
any_contained {X = X} p xs x c h = go xs c.0 c.1 c.2
  where
    at_head : (y : X) (ys : List X) → y ≡ x → p y || list_any p ys ≡ true
    at_head y ys e = ap (λ (b : Bool). b || list_any p ys) (ap p e ∙ h)

    later : (b : Bool) (r : Bool) → r ≡ true → b || r ≡ true
    later true r e = refl
    later false r e = e

    go : (ys : List X) (k : ℕ) → k < length ys → slice_index_or ys k x ≡ x → list_any p ys ≡ true
    go [] k l e = absurd (omega arith)
    go (y ∷ ys) zero l e = at_head y ys e
    go (y ∷ ys) (suc k) l e = later (p y) (list_any p ys) (go ys k (omega arith) e)

-- some element passes, with what each has
pub record Passing {X : Type 0} (p : X → Bool) (P : X → Type 0) : Type 0 where
  pub element : X
  pub passes : p element ≡ true
  pub has : P element

pub any_passing : {X : Type 0} → (p : X → Bool) (P : X → Type 0) (xs : List X) → list_any p xs ≡ true → Each P xs → Passing p P
any_passing p P [] h each = absurd (cc)
any_passing p P (x ∷ xs) h each = choice (λ g. any_passing p P xs g each.1) (p x) refl h
  where
    choice : (list_any p xs ≡ true → Passing p P) → (b : Bool) → p x ≡ b → b || list_any p xs ≡ true → Passing p P
    choice rest true e g = record { element = x; passes = e; has = each.0 }
    choice rest false e g = rest g

pub count_append : {X : Type 0} → (p : X → Bool) (xs ys : List X) → count_by p (xs ++ ys) ≡ count_by p xs + count_by p ys
count_append p [] ys = omega arith
count_append p (x ∷ xs) ys =
    let a = count_cons p x xs in
    let b = count_cons p x (xs ++ ys) in
    let c = count_append p xs ys in
    omega (arith, a, b, c)

some_if : (n : ℕ) (b : Bool) (m : ℕ) → b ≡ true → n ≡ (if b then 1 else 0) + m → 1 ≤ n
some_if n true m e c = omega arith
some_if n false m e c = absurd (cc)

pub any_counted : {X : Type 0} → (p : X → Bool) (xs : List X) → list_any p xs ≡ true → 1 ≤ count_by p xs
any_counted p [] h = absurd (cc)
any_counted p (x ∷ xs) h = choice (λ k. any_counted p xs k) (p x) refl h
  where
    choice : (list_any p xs ≡ true → 1 ≤ count_by p xs) → (b : Bool) → p x ≡ b → (b || list_any p xs) ≡ true → 1 ≤ count_by p (x ∷ xs)
    choice later true e h = some_if (count_by p (x ∷ xs)) (p x) (count_by p xs) e (count_cons p x xs)
    choice later false e h =
        let c = count_cons p x xs in
        let k = later h in
        omega (arith, c, k)

-- what each element has, one has that is contained
pub each_contained : {X : Type 0} → (P : X → Type 0) (xs : List X) (x : X) → Contains xs x → Each P xs → P x
each_contained {X = X} P xs x c each = go xs c.0 c.1 c.2 each
  where
    go : (ys : List X) (k : ℕ) → k < length ys → slice_index_or ys k x ≡ x → Each P ys → P x
    go [] k l e all = absurd (omega arith)
    go (y ∷ ys) zero l e all = subst P e all.0
    go (y ∷ ys) (suc k) l e all = go ys k (omega arith) e all.1
