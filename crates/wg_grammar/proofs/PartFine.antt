-- What the reader of a grammar reads is spelled so, and what it read before a fault can be completed.
use Rattle.std.proofs.Common.{◌≡◌, ℕ, ◌||◌, not, Bool, true, false, List, [], ◌∷◌, ◌++◌, refl, sym, ◌∙◌, subst, if◌then◌else◌, inl, inr}
use Rattle.wg_grammar.specs.Spans.{Span, Seq, None_of, Leaf}
use Rattle.wg_grammar.specs.Reading.{sees}
use Rattle.wg_grammar.specs.Productions.{Production, give, token, apply, either, list, sub, member, of, first_of, Edges, Readers, Rules, read_token, spell_token, nullable, first, reads, spells, decides}
use Rattle.wg_grammar.proofs.Sets.{both_true, not_true, member-append}
use Rattle.wg_grammar.proofs.Fine as f
use Rattle.wg_grammar.proofs.Fine.{Words, Opens, then_opens, opens_then}

pub opens_as : {A X : Type 0} (P Q : X → Span A) (a : List A) → ((x : X) (i r : List A) → P x i r → Q x i r) → Opens P a → Opens Q a
opens_as P Q a h o = (o.0, o.1, λ s. h o.1 _ s (o.2 s))

leaf_opens : {T D X : Type 0} (test : T → Bool) (value : T → X) (d : D) (t : T) → test t ≡ true → Opens (Leaf test value d) []
leaf_opens test value d t e = ((t, d) ∷ [], value t, λ s. (t, e, refl, refl))

leaf_starts : {T D X : Type 0} (test : T → Bool) (value : T → X) (d : D) (t : T) → test t ≡ true → Opens (Leaf test value d) ((t, d) ∷ [])
leaf_starts test value d t e = ([], value t, λ s. (t, e, refl, refl))

pub or_starts : {A : Type 0} (c : ℕ) (cs ds : List ℕ) → member c (cs ++ ds) ≡ true → (member c cs ≡ true → A) → (member c ds ≡ true → A) → A
or_starts {A = A} c cs ds m h k = go (member c cs) refl (sym (member-append c cs ds) ∙ m)
  where
    go : (v : Bool) → member c cs ≡ v → (v || member c ds) ≡ true → A
    go true e u = h e
    go false e u = k u

module _ (ok : Type 0) {T D N : Type 0} {Of : N → Type 0} (class : T → ℕ) (edges : Edges N) (example : ℕ → T) (Within : D → Type 0) (R : Rules T D N Of) where
  token_opens : {X : Type 0} (inner room : Bool) (here below : D) (set : List ℕ) (value : T → X) → room ≡ true → of class set (example (first_of set)) ≡ true → Opens (spell_token inner room here below (of class set) value) []
  token_opens false room here below set value e d = leaf_opens (of class set) value here (example (first_of set)) d
  token_opens true true here below set value e d = leaf_opens (of class set) value below (example (first_of set)) d
  token_opens true false here below set value e d = absurd (cc)

  module _ (roomy : ok → R.room ≡ true) (opens : ok → (n : N) → Opens (R.rule n) []) where
    -- each part spells something
    pub part_opens : ok → {X : Type 0} (g : Production T N Of X) → decides class edges example g ≡ true → Opens (spells class R g) []
    part_opens z (give x) d = ([], x, λ s. (refl, refl))
    part_opens z (token inner set value) d = token_opens inner R.room R.here R.below set value (roomy z) d
    part_opens z (apply p q) d =
        let a = both_true (decides class edges example p) _ d in
        let b = both_true (decides class edges example q) _ a.1 in
        let Q = part_opens z q b.0 in
        opens_then (spells class R p) (λ f. Seq (spells class R q) (λ x. None_of (f x))) [] (part_opens z p a.0) (λ f. opens_then (spells class R q) (λ x. None_of (f x)) [] Q (λ x. ([], f x, λ s. (refl, refl))))
    part_opens z (either p q) d =
        let a = both_true (decides class edges example p) _ d in
        opens_as (spells class R p) (spells class R (either p q)) [] (λ x i r. inl) (part_opens z p a.0)
    part_opens z (list p) d = ([], [], λ s. refl)
    part_opens z (sub n) d = opens z n

    -- the least that a part spells
    blank_then : {X Y : Type 0} (p : Production T N Of (X → Y)) (q : Production T N Of X) → ((f : X → Y) × Words (spells class R p) f []) → ((x : X) × Words (spells class R q) x []) → (y : Y) × Words (spells class R (apply p q)) y []
    blank_then p q a b = (a.0 b.0, λ s. (a.0, s, a.1 s, (b.0, s, b.1 s, (refl, refl))))

    blank : {X : Type 0} (g : Production T N Of X) → decides class edges example g ≡ true → nullable g ≡ true → (x : X) × Words (spells class R g) x []
    blank (give x) d n = (x, λ s. (refl, refl))
    blank (token inner set value) d n = absurd (cc)
    blank (apply p q) d n =
        let a = both_true (decides class edges example p) _ d in
        let b = both_true (decides class edges example q) _ a.1 in
        let m = both_true (nullable p) (nullable q) n in
        blank_then p q (blank p a.0 m.0) (blank q b.0 m.1)
    blank (either p q) d n =
        let a = both_true (decides class edges example p) _ d in
        let b = both_true (decides class edges example q) _ a.1 in
        let c = not_true (nullable p) (both_true (not (nullable p)) _ b.1).0 in
        let k = blank q b.0 (subst (λ v. (v || nullable q) ≡ true) c n) in
        (k.0, λ s. inr (k.1 s))
    blank (list p) d n = ([], λ s. refl)
    blank (sub n) d e = absurd (cc)

    module _ (Beyond : D → Type 0) (here : Beyond R.here) (below : Beyond R.below)
        (starts : (n : N) (t : T) → member (class t) (edges.first n) ≡ true → (d : D) × Beyond d × (ok → Opens (R.rule n) ((t, d) ∷ []))) where
      -- a token with which a part begins, too deep, can be completed
      abbrev Started : {X : Type 0} → (X → Span (T × D)) → T → Type 0
      Started P t = (d : D) × Beyond d × (ok → Opens P ((t, d) ∷ []))

      token_starts : {X : Type 0} (inner room : Bool) (set : List ℕ) (value : T → X) (t : T) → (ok → room ≡ true) → of class set t ≡ true → Started (spell_token inner room R.here R.below (of class set) value) t
      token_starts false room set value t e d = (R.here, here, λ z. leaf_starts (of class set) value R.here t d)
      token_starts true true set value t e d = (R.below, below, λ z. leaf_starts (of class set) value R.below t d)
      token_starts true false set value t e d = (R.below, below, λ z. absurd (let k = e z in cc))

      second_starts : {X Y : Type 0} (p : Production T N Of (X → Y)) (q : Production T N Of X) (t : T) (v : Bool) → nullable p ≡ v → decides class edges example p ≡ true → (member (class t) (first edges q) ≡ true → Started (spells class R q) t)
          → member (class t) (if v then first edges q else []) ≡ true → Started (spells class R (apply p q)) t
      second_starts p q t true e d h m =
          let k = h m in
          let b = blank p d e in
          (k.0, k.1, λ z. then_opens (spells class R p) (λ f. Seq (spells class R q) (λ x. None_of (f x))) b.0 [] ((t, k.0) ∷ []) b.1 (opens_then (spells class R q) (λ x. None_of (b.0 x)) ((t, k.0) ∷ []) (k.2 z) (λ x. ([], b.0 x, λ s. (refl, refl)))))
      second_starts p q t false e d h m = absurd (cc)

      pub part_starts : {X : Type 0} (g : Production T N Of X) → decides class edges example g ≡ true → (t : T) → member (class t) (first edges g) ≡ true → Started (spells class R g) t
      part_starts (give x) d t m = absurd (cc)
      part_starts (token inner set value) d t m = token_starts inner R.room set value t roomy m
      part_starts (apply p q) d t m =
          let a = both_true (decides class edges example p) _ d in
          let b = both_true (decides class edges example q) _ a.1 in
          or_starts (class t) (first edges p) (if nullable p then first edges q else []) m
          (λ m. let k = part_starts p a.0 t m in
          (k.0, k.1, λ z. opens_then (spells class R p) (λ f. Seq (spells class R q) (λ x. None_of (f x))) ((t, k.0) ∷ []) (k.2 z) (λ f. opens_then (spells class R q) (λ x. None_of (f x)) [] (part_opens z q b.0) (λ x. ([], f x, λ s. (refl, refl))))))
          (λ m. second_starts p q t (nullable p) refl a.0 (λ m. part_starts q b.0 t m) m)
      part_starts (either p q) d t m =
          let a = both_true (decides class edges example p) _ d in
          let b = both_true (decides class edges example q) _ a.1 in
          or_starts (class t) (first edges p) (first edges q) m
          (λ m. let k = part_starts p a.0 t m in (k.0, k.1, λ z. opens_as (spells class R p) (spells class R (either p q)) ((t, k.0) ∷ []) (λ x i r. inl) (k.2 z)))
          (λ m. let k = part_starts q b.0 t m in (k.0, k.1, λ z. opens_as (spells class R q) (spells class R (either p q)) ((t, k.0) ∷ []) (λ x i r. inr) (k.2 z)))
      part_starts (list p) d t m =
          let a = both_true (decides class edges example p) _ d in
          let k = part_starts p a.0 t m in
          (k.0, k.1, λ z. let o = k.2 z in (o.0, o.1 ∷ [], λ s. (s, o.2 s, refl)))
      part_starts (sub n) d t m = starts n t m

  module _ (E : Readers T N Of) (roomy : ok → R.room ≡ true) (grows : E.room ≡ true → R.room ≡ true) (here : Within R.here) (shallow : E.room ≡ true → Within R.below) (deep : E.room ≡ false → Within R.below → ⊥)
      (fine : (n : N) → f.Fine ok Within (E.read n) (R.rule n)) where
    token_fine : {X : Type 0} (inner room room' : Bool) (set : List ℕ) (value : T → X) → of class set (example (first_of set)) ≡ true → (ok → room' ≡ true) → (room ≡ true → room' ≡ true) → (room ≡ true → Within R.below) → (room ≡ false → Within R.below → ⊥)
        → f.Fine ok Within (read_token inner room (of class set) value) (spell_token inner room' R.here R.below (of class set) value)
    token_fine false room room' set value d o g s n = f.fine_take ok Within (of class set) value R.here (example (first_of set)) d here
    token_fine true true true set value d o g s n = f.fine_take ok Within (of class set) value R.below (example (first_of set)) d (s refl)
    token_fine true true false set value d o g s n = absurd (let e = g refl in cc)
    token_fine true false true set value d o g s n = f.fine_deep ok Within (of class set) (λ z. leaf_opens (of class set) value R.below (example (first_of set)) d) (λ t e. (R.below, n refl, λ z. leaf_starts (of class set) value R.below t e))
    token_fine true false false set value d o g s n = f.fine_deep ok Within (of class set) (λ z. absurd (let e = o z in cc)) (λ t e. (R.below, n refl, λ z. absurd (let e = o z in cc)))

    pub part_fine : {X : Type 0} (g : Production T N Of X) → decides class edges example g ≡ true → f.Fine ok Within (reads class edges E g) (spells class R g)
    part_fine (give x) d = f.fine_pure ok Within x
    part_fine (token inner set value) d = token_fine inner E.room R.room set value d roomy grows shallow deep
    part_fine (apply p q) d =
        let a = both_true (decides class edges example p) _ d in
        let b = both_true (decides class edges example q) _ a.1 in
        let Q = part_fine q b.0 in
        f.fine_bind ok Within {Q = λ h. Seq (spells class R q) (λ x. None_of (h x))} (part_fine p a.0) (λ h. f.fine_bind ok Within {Q = λ x. None_of (h x)} Q (λ x. f.fine_pure ok Within (h x)))
    part_fine (either p q) d =
        let a = both_true (decides class edges example p) _ d in
        let b = both_true (decides class edges example q) _ a.1 in
        f.fine_if ok Within (sees (of class (first edges p))) {p = reads class edges E p} {q = reads class edges E q}
        (f.fine_as ok Within {P = spells class R p} (λ x i r. inl) (part_fine p a.0)) (f.fine_as ok Within {P = spells class R q} (λ x i r. inr) (part_fine q b.0))
    part_fine (list p) d =
        let a = both_true (decides class edges example p) _ d in
        f.fine_many ok Within (of class (first edges p)) (part_fine p a.0)
    part_fine (sub n) d = fine n
