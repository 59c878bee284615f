-- Facts on places where no rule is broken, on truths, and on what may be absent.
use Rattle.std.proofs.Common.{◌≡◌, Bool, true, false, not, cond, List, [], ◌∷◌, ◌++◌, Option, Some, None, inl, refl, sym, subst}
use Rattle.std.specs.Prelude.{◌&&◌, ◌||◌, is_some, is_none}
use Rattle.wg_words.specs.declared.place.Place.{Place}
use Rattle.wg_words.specs.Maybe.{◌>>=◌}
use Rattle.wg_typing.specs.Maybe.{where_true}
use Rattle.wg_typing.specs.Sites.{In, at_if}

-- ---- places

-- no place
abbrev pub Empty : List Place → Type 0
Empty [] = Unit {0}
Empty (p ∷ rest) = ⊥

pub none_in : (xs : List Place) → ((p : Place) → In xs p → ⊥) → Empty xs
none_in [] h = tt
none_in (p ∷ rest) h = h p (inl refl)

pub empty_left : (xs ys : List Place) → Empty (xs ++ ys) → Empty xs
empty_left [] ys h = tt
empty_left (p ∷ xs) ys h = h

pub empty_right : (xs ys : List Place) → Empty (xs ++ ys) → Empty ys
empty_right [] ys h = h
empty_right (p ∷ xs) ys h = absurd h

pub is_false : (b : Bool) (p : Place) → Empty (at_if b p) → b ≡ false
is_false true p h = absurd h
is_false false p h = refl

-- a place where a test holds
pub holds_nowhere : (b : Bool) (p : Place) → b ≡ true → Empty (at_if b p) → ⊥
holds_nowhere true p e h = h
holds_nowhere false p e h = cc

pub empty_if : (b : Bool) (xs : List Place) → b ≡ true → Empty (cond b xs []) → Empty xs
empty_if true xs e h = h
empty_if false xs e h = absurd (cc)

-- what is said where a test holds, and else this place
pub first_only : (b : Bool) (xs : List Place) (p : Place) → Empty (cond b xs (p ∷ [])) → (b ≡ true) × Empty xs
first_only true xs p h = (refl, h)
first_only false xs p h = absurd h

-- ---- truths

pub not_false : (b : Bool) → not b ≡ false → b ≡ true
not_false true e = refl
not_false false e = cc

pub not_true : (b : Bool) → not b ≡ true → b ≡ false
not_true true e = cc
not_true false e = refl

pub and_left : (a b : Bool) → (a && b) ≡ true → a ≡ true
and_left true b e = refl
and_left false b e = e

pub and_right : (a b : Bool) → (a && b) ≡ true → b ≡ true
and_right true b e = e
and_right false b e = absurd (cc)

pub both : (a b : Bool) → a ≡ true → b ≡ true → (a && b) ≡ true
both true b e f = f
both false b e f = e

-- what follows from the one, where the one holds and not the other one fails
pub implied : (a b : Bool) → a ≡ true → (a && not b) ≡ false → b ≡ true
implied true b e f = not_false b f
implied false b e f = absurd (cc)

pub or_right : (a b : Bool) → b ≡ true → (a || b) ≡ true
or_right true b e = refl
or_right false b e = e

-- ---- what may be absent

-- it is there
abbrev pub Has : {A : Type 0} → Option A → Type 0
Has None = ⊥
Has (Some a) = Unit {0}

pub some_value : {A : Type 0} {a b : A} → Some a ≡ Some b → a ≡ b
some_value {A} {a} {b} e = cc

-- what stands behind a value that is there
pub then_some : {A B : Type 0} (o : Option A) (f : A → Option B) (b : B) → ◌>>=◌ o f ≡ Some b → (a : A) × (o ≡ Some a) × (f a ≡ Some b)
then_some None f b e = absurd (cc)
then_some (Some a) f b e = (a, refl, e)

pub has_then : {A B : Type 0} (o : Option A) (f : A → Option B) → Has o → ((a : A) → o ≡ Some a → Has (f a)) → Has (◌>>=◌ o f)
has_then None f h k = absurd h
has_then (Some a) f h k = k a refl

pub has_where : {A : Type 0} (b : Bool) (a : A) → b ≡ true → Has (where_true b a)
has_where true a e = tt
has_where false a e = absurd (cc)

pub where_is : {A : Type 0} (b : Bool) (a : A) → b ≡ true → where_true b a ≡ Some a
where_is true a e = refl
where_is false a e = absurd (cc)

pub where_same : {A : Type 0} (b : Bool) (a x : A) → where_true b a ≡ Some x → a ≡ x
where_same true a x e = some_value e
where_same false a x e = absurd (cc)

pub where_passes : {A : Type 0} (b : Bool) (a x : A) → where_true b a ≡ Some x → b ≡ true
where_passes true a x e = refl
where_passes false a x e = absurd (cc)

pub through_where : {A B : Type 0} (b : Bool) (a : A) (f : A → Option B) → b ≡ true → ◌>>=◌ (where_true b a) f ≡ f a
through_where true a f e = refl
through_where false a f e = absurd (cc)

pub has_through : {A B : Type 0} (b : Bool) (a : A) (f : A → Option B) → b ≡ true → Has (f a) → Has (◌>>=◌ (where_true b a) f)
has_through b a f e h = subst Has (sym (through_where b a f e)) h

pub has_is_some : {A : Type 0} (o : Option A) → is_some o ≡ true → Has o
has_is_some None e = absurd (cc)
has_is_some (Some a) e = tt

pub has_is_none : {A : Type 0} (o : Option A) → is_none o ≡ false → Has o
has_is_none None e = absurd (cc)
has_is_none (Some a) e = tt

pub is_some_has : {A : Type 0} (o : Option A) → Has o → is_some o ≡ true
is_some_has None h = absurd h
is_some_has (Some a) h = refl

pub some_of : {A : Type 0} (o : Option A) → Has o → (a : A) × o ≡ Some a
some_of None h = absurd h
some_of (Some a) h = (a, refl)
