-- Tests over lists, and over two lists side by side.
use Rattle.std.proofs.Common.{◌≡◌, ℕ, zero, suc, Bool, true, false, ◌&&◌, ◌||◌, List, [], ◌∷◌, length, map, refl, sym, ap, subst, ◌∙◌, ◌⊎◌, inl, inr, ⊎_elim, IsTrue, IsFalse, slice_get, Some, true≢false}
use Rattle.std.specs.List.{AllZip, list_any}
use Rattle.std.proofs.lemmas.Option.{same_Some}
use Rattle.wg_words.specs.Each.{Each}

pub and_first : (a b : Bool) → IsTrue (a && b) → IsTrue a
and_first true b h = refl
and_first false b h = h

pub and_second : (a b : Bool) → IsTrue (a && b) → IsTrue b
and_second true b h = h
and_second false b h = absurd (true≢false (sym h))

pub and_both : (a b : Bool) → IsTrue a → IsTrue b → IsTrue (a && b)
and_both true b p q = q
and_both false b p q = p

pub or_first : (a b : Bool) → IsTrue a → IsTrue (a || b)
or_first true b h = refl
or_first false b h = absurd (true≢false (sym h))

pub or_second : (a b : Bool) → IsTrue b → IsTrue (a || b)
or_second true b h = refl
or_second false b h = h

pub or_cases : (a b : Bool) → IsTrue (a || b) → IsTrue a ⊎ IsTrue b
or_cases true b h = inl refl
or_cases false b h = inr h

pub neither_first : (a b : Bool) → IsFalse (a || b) → IsFalse a
neither_first true b h = h
neither_first false b h = refl

pub neither_second : (a b : Bool) → IsFalse (a || b) → IsFalse b
neither_second true b h = absurd (true≢false h)
neither_second false b h = h

pub not_both : {P : Type 0} (b : Bool) → IsTrue b → IsFalse b → P
not_both b t f = absurd (true≢false (sym t ∙ f))

pub true_of_not_false : (b : Bool) → (IsFalse b → ⊥) → IsTrue b
true_of_not_false true h = refl
true_of_not_false false h = absurd (h refl)

-- one of two lists side by side, at which the second passes a test
pub record Found {A B : Type 0} (R : A → B → Type 0) (xs : List A) (g : B → Bool) : Type 0 where
  pub first : A
  pub second : B
  pub related : R first second
  pub passes : IsTrue (g second)
  pub among : (f : A → Bool) → IsTrue (f first) → IsTrue (list_any f xs)

pub found : {A B : Type 0} (R : A → B → Type 0) (g : B → Bool) (xs : List A) (ys : List B) → AllZip R xs ys → IsTrue (list_any g ys) → Found R xs g
found R g [] [] all any = absurd (true≢false (sym any))
found R g [] (y ∷ ys) all any = absurd all
found R g (x ∷ xs) [] all any = absurd all
found R g (x ∷ xs) (y ∷ ys) all any = ⊎_elim
    (λ here. record { first = x; second = y; related = all.0; passes = here; among = λ f t. or_first (f x) (list_any f xs) t })
    (λ later. (let r = found R g xs ys all.1 later in record { first = r.first; second = r.second; related = r.related; passes = r.passes; among = λ f t. or_second (f x) (list_any f xs) (r.among f t) }))
    (or_cases (g y) (list_any g ys) any)

-- the other way round
pub any_beside : {A B : Type 0} (R : A → B → Type 0) (f : A → Bool) (g : B → Bool) (xs : List A) (ys : List B) → AllZip R xs ys → ((x : A) (y : B) → R x y → IsTrue (f x) → IsTrue (g y)) → IsTrue (list_any f xs) → IsTrue (list_any g ys)
any_beside R f g [] ys all h any = absurd (true≢false (sym any))
any_beside R f g (x ∷ xs) [] all h any = absurd all
any_beside R f g (x ∷ xs) (y ∷ ys) all h any = ⊎_elim
    (λ here. or_first (g y) (list_any g ys) (h x y all.0 here))
    (λ later. or_second (g y) (list_any g ys) (any_beside R f g xs ys all.1 h later))
    (or_cases (f x) (list_any f xs) any)

pub any_at : {A : Type 0} (f : A → Bool) (xs : List A) (k : ℕ) (x : A) → slice_get xs k ≡ Some x → IsTrue (f x) → IsTrue (list_any f xs)
any_at f [] k x e t = absurd cc
any_at f (y ∷ xs) zero x e t = or_first (f y) (list_any f xs) (ap f (same_Some y x e) ∙ t)
any_at f (y ∷ xs) (suc k) x e t = or_second (f y) (list_any f xs) (any_at f xs k x e t)

pub zip_length : {A B : Type 0} (R : A → B → Type 0) (xs : List A) (ys : List B) → AllZip R xs ys → length ys ≡ length xs
zip_length R [] [] all = refl
zip_length R [] (y ∷ ys) all = absurd all
zip_length R (x ∷ xs) [] all = absurd all
zip_length R (x ∷ xs) (y ∷ ys) all = ap suc (zip_length R xs ys all.1)

pub each_at : {A : Type 0} (P : A → Type 0) (xs : List A) (k : ℕ) (x : A) → Each P xs → slice_get xs k ≡ Some x → P x
each_at P [] k x all e = absurd cc
each_at P (y ∷ xs) zero x all e = subst P (same_Some y x e) all.0
each_at P (y ∷ xs) (suc k) x all e = each_at P xs k x all.1 e

pub each_map : {A B : Type 0} (P : B → Type 0) (f : A → B) (xs : List A) → Each (λ x. P (f x)) xs → Each P (map f xs)
each_map P f [] all = tt
each_map P f (x ∷ xs) all = (all.0, each_map P f xs all.1)

pub each_then : {A : Type 0} (P Q : A → Type 0) (xs : List A) → ((x : A) → P x → Q x) → Each P xs → Each Q xs
each_then P Q [] h all = tt
each_then P Q (x ∷ xs) h all = (h x all.0, each_then P Q xs h all.1)

-- what stands beside one of the second of two lists
pub record Beside {A B : Type 0} (R : A → B → Type 0) (xs : List A) (k : ℕ) (y : B) : Type 0 where
  pub first : A
  pub there : slice_get xs k ≡ Some first
  pub related : R first y

pub beside : {A B : Type 0} (R : A → B → Type 0) (xs : List A) (ys : List B) (k : ℕ) (y : B) → AllZip R xs ys → slice_get ys k ≡ Some y → Beside R xs k y
beside R [] [] k y all e = absurd cc
beside R [] (z ∷ ys) k y all e = absurd all
beside R (x ∷ xs) [] k y all e = absurd all
beside R (x ∷ xs) (z ∷ ys) zero y all e = record { first = x; there = refl; related = subst (R x) (same_Some z y e) all.0 }
beside R (x ∷ xs) (z ∷ ys) (suc k) y all e = let b = beside R xs ys k y all.1 e in record { first = b.first; there = b.there; related = b.related }

pub each_of : {A : Type 0} (P : A → Type 0) (xs : List A) → ((k : ℕ) (x : A) → slice_get xs k ≡ Some x → P x) → Each P xs
each_of P [] h = tt
each_of P (x ∷ xs) h = (h zero x refl, each_of P xs (λ k y e. h (suc k) y e))
