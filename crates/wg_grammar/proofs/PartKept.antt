-- The reader of a grammar gives what depends on what it took and on the next token alone.
use Rattle.std.proofs.Common.{◌≡◌, ℕ, zero, suc, ◌||◌, ◌&&◌, not, Bool, true, false, List, [], length, refl, sym, ap, subst, if◌then◌else◌}
use Rattle.wg_grammar.specs.Reading.{Reading, Got, Wrong, Deep, Reader, read_on, ◌>>=◌, pure, sees, too_deep, many_from}
use Rattle.wg_grammar.specs.Productions.{Production, give, token, apply, either, list, sub, of, Edges, Readers, read_token, nullable, first, reads, decides}
use Rattle.wg_grammar.proofs.Sets.{both_true, both_false, not_true, sees_none}
use Rattle.wg_grammar.proofs.Kept.{Persists, persists_pure, persists_bind, persists_next, persists_take_if, persists_deep, persists_many, not_taken, Eats, falls, falls_bind, falls_pure, eats_first, eats_second, eats_next, eats_take_if, eats_deep}

deep_refused : {T X : Type 0} (test : T → Bool) (ts : List T) → sees test ts ≡ false → too_deep {X = X} test ts ≡ Wrong ts
deep_refused test ts e = ap (λ z. if z then Deep ts else Wrong ts) e

-- E gives no more than E'
pub record Grows {T N : Type 0} {Of : N → Type 0} (E E' : Readers T N Of) : Type 0 where
  pub room : E.room ≡ true → E'.room ≡ true
  pub kept : (n : N) → Persists (E.read n) (E'.read n)
  pub eats : (n : N) → Eats (E.read n)

pub token_kept : {T X : Type 0} (inner room room' : Bool) (test : T → Bool) (value : T → X) → (room ≡ true → room' ≡ true) → Persists (read_token inner room test value) (read_token inner room' test value)
token_kept false room room' test value h = persists_take_if test value
token_kept true true true test value h = persists_take_if test value
token_kept true true false test value h = absurd (let e = h refl in cc)
token_kept true false true test value h = persists_deep test (λ ts. not_taken test value ts)
token_kept true false false test value h = persists_deep test (deep_refused test)

pub token_eats : {T X : Type 0} (inner room : Bool) (test : T → Bool) (value : T → X) → Eats (read_token inner room test value)
token_eats false room test value = eats_take_if test value
token_eats true true test value = eats_take_if test value
token_eats true false test value = eats_deep test

-- what comes of a part that does not begin here
abbrev pub Missed : {T X : Type 0} → Bool → Reading T X → List T → Type 0
Missed {X = X} true o ts = (x : X) × (o ≡ Got x ts)
Missed false o ts = o ≡ Wrong ts

last_missed : {T A B : Type 0} (w : Bool) (f : A → B) (o : Reading T A) (ts : List T) → Missed w o ts → Missed w (read_on o (λ x. pure (f x))) ts
last_missed true f o ts m = (f m.0, ap (λ z. read_on z (λ x. pure (f x))) m.1)
last_missed false f o ts m = ap (λ z. read_on z (λ x. pure (f x))) m

then_missed : {T A B : Type 0} (v w : Bool) (o : Reading T (A → B)) (q : Reader T A) (ts : List T) → Missed v o ts → (v ≡ true → Missed w (q ts) ts) → Missed (v && w) (read_on o (λ f. q >>= λ x. pure (f x))) ts
then_missed true w o q ts m k = subst (λ z. Missed w z ts) (sym (ap (λ z. read_on z (λ f. q >>= λ x. pure (f x))) m.1)) (last_missed w m.0 (q ts) ts (k refl))
then_missed false w o q ts m k = ap (λ z. read_on z (λ f. q >>= λ x. pure (f x))) m

either_missed : {T A : Type 0} (v w : Bool) (o : Reading T A) (ts : List T) → v ≡ false → Missed w o ts → Missed (v || w) o ts
either_missed true w o ts n m = absurd (cc)
either_missed false w o ts n m = m

module _ {T N : Type 0} {Of : N → Type 0} (class : T → ℕ) (edges : Edges N) (example : ℕ → T) where
  module _ (E E' : Readers T N Of) (h : Grows E E') where
    abbrev Good : {X : Type 0} → Production T N Of X → Type 0
    Good g = Persists (reads class edges E g) (reads class edges E' g) × (nullable g ≡ false → Eats (reads class edges E g))

    apply_eats : {X Y : Type 0} (p : Production T N Of (X → Y)) (q : Production T N Of X) (v : Bool) → nullable p ≡ v → Good p → Good q → (v && nullable q) ≡ false → Eats (reads class edges E (apply p q))
    apply_eats p q true e P Q n = eats_second (falls P.0) (λ f. eats_first (Q.1 n) (λ x. falls_pure (f x)))
    apply_eats p q false e P Q n = eats_first (P.1 e) (λ f. falls_bind (falls Q.0) (λ x. falls_pure (f x)))

    good : {X : Type 0} (g : Production T N Of X) → decides class edges example g ≡ true → Good g
    good (give x) d = (persists_pure x, λ e. absurd (cc))
    good (token inner set value) d = (token_kept inner E.room E'.room (of class set) value h.room, λ e. token_eats inner E.room (of class set) value)
    good (apply p q) d =
        let a = both_true (decides class edges example p) _ d in
        let b = both_true (decides class edges example q) _ a.1 in
        let P = good p a.0 in
        let Q = good q b.0 in
        (persists_bind P.0 (λ f. persists_bind Q.0 (λ x. persists_pure (f x))), apply_eats p q (nullable p) refl P Q)
    good (either p q) d =
        let a = both_true (decides class edges example p) _ d in
        let b = both_true (decides class edges example q) _ a.1 in
        let P = good p a.0 in
        let Q = good q b.0 in
        (persists_next (of class (first edges p)) P.0 Q.0, λ e. let n = both_false (nullable p) (nullable q) e in eats_next (of class (first edges p)) (P.1 n.0) (Q.1 n.1))
    good (list p) d =
        let a = both_true (decides class edges example p) _ d in
        let n = not_true (nullable p) (both_true (not (nullable p)) _ a.1).0 in
        let P = good p a.0 in
        (persists_many (of class (first edges p)) P.0 (P.1 n), λ e. absurd (cc))
    good (sub n) d = (h.kept n, λ e. h.eats n)

    pub part_persists : {X : Type 0} (g : Production T N Of X) → decides class edges example g ≡ true → Persists (reads class edges E g) (reads class edges E' g)
    part_persists g d = (good g d).0

    pub part_eats : {X : Type 0} (g : Production T N Of X) → decides class edges example g ≡ true → nullable g ≡ false → Eats (reads class edges E g)
    part_eats g d n = (good g d).1 n

  module _ (E : Readers T N Of) (refuses : (n : N) (ts : List T) → sees (of class (edges.first n)) ts ≡ false → E.read n ts ≡ Wrong ts) where
    token_missed : {X : Type 0} (inner room : Bool) (test : T → Bool) (value : T → X) (ts : List T) → sees test ts ≡ false → read_token inner room test value ts ≡ Wrong ts
    token_missed false room test value ts e = not_taken test value ts e
    token_missed true true test value ts e = not_taken test value ts e
    token_missed true false test value ts e = deep_refused test ts e

    none_read : {X : Type 0} (test : T → Bool) (item : Reader T X) (n : ℕ) (ts : List T) → sees test ts ≡ false → many_from test item n ts ≡ Got [] ts
    none_read test item zero ts e = refl
    none_read test item (suc n) ts e = rw e refl

    pub missed : {X : Type 0} (g : Production T N Of X) (ts : List T) → decides class edges example g ≡ true → sees (of class (first edges g)) ts ≡ false → Missed (nullable g) (reads class edges E g ts) ts
    missed (give x) ts d e = (x, refl)
    missed (token inner set value) ts d e = token_missed inner E.room (of class set) value ts e
    missed (apply p q) ts d e =
        let a = both_true (decides class edges example p) _ d in
        let b = both_true (decides class edges example q) _ a.1 in
        let s = sees_none class (first edges p) (if nullable p then first edges q else []) ts e in
        then_missed (nullable p) (nullable q) (reads class edges E p ts) (reads class edges E q) ts (missed p ts a.0 s.0)
        (λ h. missed q ts b.0 (subst (λ v. sees (of class (if v then first edges q else [])) ts ≡ false) h s.1))
    missed (either p q) ts d e =
        let a = both_true (decides class edges example p) _ d in
        let b = both_true (decides class edges example q) _ a.1 in
        let n = not_true (nullable p) (both_true (not (nullable p)) _ b.1).0 in
        let s = sees_none class (first edges p) (first edges q) ts e in
        subst (λ z. Missed (nullable p || nullable q) z ts) (sym (ap (λ z. if z then reads class edges E p ts else reads class edges E q ts) s.0))
        (either_missed (nullable p) (nullable q) (reads class edges E q ts) ts n (missed q ts b.0 s.1))
    missed (list p) ts d e = ([], none_read (of class (first edges p)) (reads class edges E p) (length ts) ts e)
    missed (sub n) ts d e = refuses n ts e

    pub part_refuses : {X : Type 0} (g : Production T N Of X) → decides class edges example g ≡ true → nullable g ≡ false → (ts : List T) → sees (of class (first edges g)) ts ≡ false → reads class edges E g ts ≡ Wrong ts
    part_refuses g d n ts e = subst (λ v. Missed v (reads class edges E g ts) ts) n (missed g ts d e)
