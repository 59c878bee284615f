-- Lists that grow, and what stands at their ends.
use Rattle.std.proofs.Common.{◌≡◌, ℕ, zero, suc, Bool, true, List, [], ◌∷◌, ◌++◌, length, Option, Some, refl, sym, ap, ◌∙◌, subst, nat_lt, ◌<◌, arith}
use Rattle.std.specs.Prelude.{slice_get}
use Rattle.wg_typing.specs.Maybe.{all_of}
use Rattle.wg_facts.specs.Tests.{if_any, every}
use Rattle.wg_facts.proofs.Basics.{and_left, and_right, both, some_value, all_first, less_so, so_less}

pub nothing_more : {A : Type 0} (xs : List A) → xs ≡ xs ++ []
nothing_more [] = refl
nothing_more (x ∷ xs) = ap (λ ys. x ∷ ys) (nothing_more xs)

pub joined : {A : Type 0} (xs ys zs : List A) → (xs ++ ys) ++ zs ≡ xs ++ (ys ++ zs)
joined [] ys zs = refl
joined (x ∷ xs) ys zs = ap (λ ws. x ∷ ws) (joined xs ys zs)

pub at_end : {A : Type 0} (xs : List A) (x : A) (more : List A) → slice_get (xs ++ x ∷ more) (length xs) ≡ Some x
at_end [] x more = refl
at_end (y ∷ xs) x more = at_end xs x more

-- what stands in a list stands there when it has grown
pub still : {A : Type 0} (xs more : List A) (n : ℕ) (x : A) → slice_get xs n ≡ Some x → slice_get (xs ++ more) n ≡ Some x
still [] more n x e = absurd (cc)
still (y ∷ xs) more zero x e = e
still (y ∷ xs) more (suc n) x e = still xs more n x e

pub at_end_of : {A : Type 0} (xs : List (Option A)) (o : Option A) (more : List (Option A)) (ys : List A) → all_of (xs ++ o ∷ more) ≡ Some ys → (a : A) × (o ≡ Some a) × (slice_get ys (length xs) ≡ Some a)
at_end_of [] o more ys e = let f = all_first o more ys e in (f.0, f.1, ap (λ zs. slice_get zs 0) f.2.2)
at_end_of (x ∷ xs) o more ys e =
    let f = all_first x (xs ++ o ∷ more) ys e in
    let r = at_end_of xs o more f.2.0 f.2.1 in
    (r.0, r.1, ap (λ zs. slice_get zs (length (x ∷ xs))) f.2.2 ∙ r.2)

-- what holds of each element, and of one more
pub pushed : {A : Type 0} (p : ℕ → A → Type 0) (xs : List A) (x : A) → ((n : ℕ) (y : A) → slice_get xs n ≡ Some y → p n y) → p (length xs) x → (n : ℕ) (y : A) → slice_get (xs ++ x ∷ []) n ≡ Some y → p n y
pushed p [] x h k zero y e = subst (p 0) (some_value e) k
pushed p [] x h k (suc n) y e = absurd (cc)
pushed p (z ∷ xs) x h k zero y e = h zero y e
pushed p (z ∷ xs) x h k (suc n) y e = pushed (λ m. p (suc m)) xs x (λ m w f. h (suc m) w f) k n y e

pub every_all : {A : Type 0} (p : A → Bool) (os : List (Option A)) (xs : List A) → all_of os ≡ Some xs → every (if_any p) os ≡ true → every p xs ≡ true
every_all p [] xs e h = subst (λ ys. every p ys ≡ true) (some_value e) refl
every_all p (o ∷ os) xs e h =
    let f = all_first o os xs e in
    subst (λ ys. every p ys ≡ true) (sym f.2.2) (both (ap (if_any p) (sym f.1) ∙ and_left (if_any p o) _ h) (every_all p os f.2.0 f.2.1 (and_right (if_any p o) _ h)))

pub all_at : {A : Type 0} (os : List (Option A)) (xs : List A) (n : ℕ) (x : A) → all_of os ≡ Some xs → slice_get xs n ≡ Some x → slice_get os n ≡ Some (Some x)
all_at [] xs n x e h = let q : slice_get [] n ≡ Some x = subst (λ ys. slice_get ys n ≡ Some x) (sym (some_value e)) h in absurd (cc)
all_at (o ∷ os) xs zero x e h =
    let f = all_first o os xs e in
    ap Some (f.1 ∙ subst (λ ys. slice_get ys 0 ≡ Some x) f.2.2 h)
all_at (o ∷ os) xs (suc n) x e h =
    let f = all_first o os xs e in
    all_at os f.2.0 n x f.2.1 (subst (λ ys. slice_get ys (suc n) ≡ Some x) f.2.2 h)

pub front : {A : Type 0} (xs ys : List A) (n : ℕ) → nat_lt n (length xs) ≡ true → slice_get (xs ++ ys) n ≡ slice_get xs n
front [] ys n h = let l : n < 0 = so_less n 0 h in absurd (omega (arith, l))
front (x ∷ xs) ys zero h = refl
front (x ∷ xs) ys (suc n) h = let l : suc n < length (x ∷ xs) = so_less (suc n) (length (x ∷ xs)) h in front xs ys n (less_so n (length xs) (omega (arith, l)))
