-- Sets of classes.
use Rattle.std.proofs.Common.{subst, ◌≡◌, ℕ, ◌==◌, ◌||◌, ◌&&◌, not, Bool, true, false, List, [], ◌∷◌, ◌++◌, refl, sym, ◌∙◌, ap}
use Rattle.std.proofs.lemmas.Bool.{eqb-true}
use Rattle.wg_grammar.specs.Reading.{sees}
use Rattle.wg_grammar.specs.Productions.{member, apart, covered, of}

pub both_true : (a b : Bool) → (a && b) ≡ true → (a ≡ true) × (b ≡ true)
both_true true b h = (refl, h)
both_true false b h = absurd (cc)

pub both_false : (a b : Bool) → (a || b) ≡ false → (a ≡ false) × (b ≡ false)
both_false true b h = absurd (cc)
both_false false b h = (refl, h)

pub not_true : (a : Bool) → not a ≡ true → a ≡ false
not_true true h = absurd (cc)
not_true false h = refl

pub or_left : (a b : Bool) → a ≡ true → (a || b) ≡ true
or_left true b h = refl
or_left false b h = absurd (cc)

pub or_right : (a b : Bool) → b ≡ true → (a || b) ≡ true
or_right true b h = refl
or_right false b h = h

or_assoc : (a b c : Bool) → (a || (b || c)) ≡ ((a || b) || c)
or_assoc true b c = refl
or_assoc false b c = refl

pub member-append : (c : ℕ) (cs ds : List ℕ) → member c (cs ++ ds) ≡ (member c cs || member c ds)
member-append c [] ds = refl
member-append c (x ∷ cs) ds = ap (λ z. (c == x) || z) (member-append c cs ds) ∙ or_assoc (c == x) (member c cs) (member c ds)

module _ {T : Type 0} (class : T → ℕ) where
  pub sees-append : (cs ds : List ℕ) (ts : List T) → sees (of class (cs ++ ds)) ts ≡ (sees (of class cs) ts || sees (of class ds) ts)
  sees-append cs ds [] = refl
  sees-append cs ds (t ∷ ts) = member-append (class t) cs ds

  pub sees_left : (cs ds : List ℕ) (ts : List T) → sees (of class cs) ts ≡ true → sees (of class (cs ++ ds)) ts ≡ true
  sees_left cs ds ts h = sees-append cs ds ts ∙ or_left _ _ h

  pub sees_right : (cs ds : List ℕ) (ts : List T) → sees (of class ds) ts ≡ true → sees (of class (cs ++ ds)) ts ≡ true
  sees_right cs ds ts h = sees-append cs ds ts ∙ or_right (sees (of class cs) ts) (sees (of class ds) ts) h

  pub sees_none : (cs ds : List ℕ) (ts : List T) → sees (of class (cs ++ ds)) ts ≡ false → (sees (of class cs) ts ≡ false) × (sees (of class ds) ts ≡ false)
  sees_none cs ds ts h = both_false (sees (of class cs) ts) (sees (of class ds) ts) (sym (sees-append cs ds ts) ∙ h)

  same_member : (c d : ℕ) (ds : List ℕ) → (c == d) ≡ true → member c ds ≡ member d ds
  same_member c d ds h = ap (λ z. member z ds) (eqb-true c d h)

  apart_member : (c : ℕ) (cs ds : List ℕ) → apart cs ds ≡ true → member c cs ≡ true → member c ds ≡ false
  apart_member c [] ds h m = absurd (cc)
  apart_member c (x ∷ cs) ds h m = let q = both_true (not (member x ds)) (apart cs ds) h in go (c == x) refl m q.0 (λ k. apart_member c cs ds q.1 k)
    where
      go : (v : Bool) → (c == x) ≡ v → (v || member c cs) ≡ true → not (member x ds) ≡ true → (member c cs ≡ true → member c ds ≡ false) → member c ds ≡ false
      go true e m a b = same_member c x ds e ∙ not_true (member x ds) a
      go false e m a b = b m

  pub apart_sees : (cs ds : List ℕ) (ts : List T) → apart cs ds ≡ true → sees (of class cs) ts ≡ true → sees (of class ds) ts ≡ false
  apart_sees cs ds [] h m = absurd (cc)
  apart_sees cs ds (t ∷ ts) h m = apart_member (class t) cs ds h m

  pub apart_other : (cs ds : List ℕ) (ts : List T) → apart cs ds ≡ true → sees (of class ds) ts ≡ true → sees (of class cs) ts ≡ false
  apart_other cs ds ts h m = go (sees (of class cs) ts) refl
    where
      go : (v : Bool) → sees (of class cs) ts ≡ v → v ≡ false
      go true e = let n = apart_sees cs ds ts h e in absurd (cc)
      go false e = refl

  covered_member : (c : ℕ) (cs ds : List ℕ) → covered cs ds ≡ true → member c cs ≡ true → member c ds ≡ true
  covered_member c [] ds h m = absurd (cc)
  covered_member c (x ∷ cs) ds h m = let q = both_true (member x ds) (covered cs ds) h in go (c == x) refl m q.0 (λ k. covered_member c cs ds q.1 k)
    where
      go : (v : Bool) → (c == x) ≡ v → (v || member c cs) ≡ true → member x ds ≡ true → (member c cs ≡ true → member c ds ≡ true) → member c ds ≡ true
      go true e m a b = same_member c x ds e ∙ a
      go false e m a b = b m

  pub covered_sees : (cs ds : List ℕ) (ts : List T) → covered cs ds ≡ true → sees (of class ds) ts ≡ false → sees (of class cs) ts ≡ false
  covered_sees cs ds [] h m = refl
  covered_sees cs ds (t ∷ ts) h m = go (member (class t) cs) refl
    where
      go : (v : Bool) → member (class t) cs ≡ v → v ≡ false
      go true e = let n = covered_member (class t) cs ds h e in absurd (cc)
      go false e = refl

  pub covered_true : (cs ds : List ℕ) (ts : List T) → covered cs ds ≡ true → sees (of class cs) ts ≡ true → sees (of class ds) ts ≡ true
  covered_true cs ds [] h m = absurd (cc)
  covered_true cs ds (t ∷ ts) h m = covered_member (class t) cs ds h m

-- what holds of each class holds of a member
abbrev pub Each : List ℕ → (ℕ → Type 0) → Type 0
Each [] P = Unit {0}
Each (c ∷ cs) P = P c × Each cs P

pub each : (P : ℕ → Type 0) (c : ℕ) (cs : List ℕ) → member c cs ≡ true → Each cs P → P c
each P c [] m h = absurd (cc)
each P c (x ∷ cs) m h = go (c == x) refl m h (λ k. each P c cs k h.1)
  where
    go : (v : Bool) → (c == x) ≡ v → (v || member c cs) ≡ true → Each (x ∷ cs) P → (member c cs ≡ true → P c) → P c
    go true e m h k = subst P (sym (eqb-true c x e)) h.0
    go false e m h k = k m
