-- What a grammar spells, its reader reads.
use Rattle.std.proofs.Common.{◌≡◌, ℕ, ◌||◌, ◌&&◌, not, Bool, true, false, List, [], ◌∷◌, ◌++◌, refl, sym, ◌∙◌, ap, subst, if◌then◌else◌, inl, inr, ◌⊎◌}
use Rattle.wg_grammar.specs.Reading.{sees}
use Rattle.wg_grammar.specs.Depths.{plain}
use Rattle.wg_grammar.specs.Productions.{Production, give, token, apply, either, list, sub, apart, of, Edges, Readers, Rules, read_token, spell_token, nullable, first, stops, reads, spells, decides}
use Rattle.wg_grammar.proofs.Sets.{both_true, not_true, sees_none, sees_left, sees_right, apart_other}
use Rattle.wg_grammar.proofs.Full.{Full, full_pure, full_bind, full_take, full_for, full_many}
use Rattle.wg_grammar.proofs.PartKept.{Grows, part_eats}

-- it takes a token of these classes, or nothing where v
abbrev pub Begun : {T D : Type 0} → (T → Bool) → Bool → List (T × D) → List (T × D) → Type 0
Begun test v i r = ((v ≡ true) × (i ≡ r)) ⊎ (sees test (plain i) ≡ true)

begun_token : {T D X : Type 0} (inner room : Bool) (here below : D) (test : T → Bool) (value : T → X) (x : X) (i r : List (T × D)) → spell_token inner room here below test value x i r → sees test (plain i) ≡ true
begun_token false room here below test value x i r h = ap (λ z. sees test (plain z)) h.3 ∙ h.1
begun_token true true here below test value x i r h = ap (λ z. sees test (plain z)) h.3 ∙ h.1
begun_token true false here below test value x i r h = absurd h

full_token : {T D X : Type 0} (inner room room' : Bool) (here below : D) (test : T → Bool) (value : T → X) {F : X → List T → Type 0} → room ≡ room' → Full (read_token inner room test value) (spell_token inner room' here below test value) F
full_token false room room' here below test value e = full_take test value
full_token true true true here below test value e = full_take test value
full_token true false false here below test value e = record { reads = λ x i r h k. absurd h }
full_token true true false here below test value e = absurd (cc)
full_token true false true here below test value e = absurd (cc)

module _ {T D N : Type 0} {Of : N → Type 0} (class : T → ℕ) (edges : Edges N) (example : ℕ → T) (R : Rules T D N Of) where
  module _ (begins_with : (n : N) (x : Of n) (i r : List (T × D)) → R.rule n x i r → sees (of class (edges.first n)) (plain i) ≡ true) where
    begun_then : (v w : Bool) (cs ds : List ℕ) (i m r : List (T × D)) → Begun (of class cs) v i m → Begun (of class ds) w m r → Begun (of class (cs ++ (if v then ds else []))) (v && w) i r
    begun_then v w cs ds i m r (inr s) k = inr (sees_left class cs (if v then ds else []) (plain i) s)
    begun_then true w cs ds i m r (inl a) (inl b) = inl (b.0, a.1 ∙ b.1)
    begun_then true w cs ds i m r (inl a) (inr s) = inr (sees_right class cs ds (plain i) (ap (λ z. sees (of class ds) (plain z)) a.1 ∙ s))
    begun_then false w cs ds i m r (inl a) k = absurd (let e = a.0 in cc)

    begun_left : (v w : Bool) (cs ds : List ℕ) (i r : List (T × D)) → v ≡ false → Begun (of class cs) v i r → Begun (of class (cs ++ ds)) (v || w) i r
    begun_left v w cs ds i r n (inl a) = absurd (let e = a.0 in cc)
    begun_left v w cs ds i r n (inr s) = inr (sees_left class cs ds (plain i) s)

    begun_right : (v w : Bool) (cs ds : List ℕ) (i r : List (T × D)) → v ≡ false → Begun (of class ds) w i r → Begun (of class (cs ++ ds)) (v || w) i r
    begun_right true w cs ds i r n k = absurd (cc)
    begun_right false w cs ds i r n (inl a) = inl a
    begun_right false w cs ds i r n (inr s) = inr (sees_right class cs ds (plain i) s)

    pub begun_some : (v : Bool) (cs : List ℕ) (i r : List (T × D)) → v ≡ false → Begun (of class cs) v i r → sees (of class cs) (plain i) ≡ true
    begun_some v cs i r n (inl a) = absurd (let e = a.0 in cc)
    begun_some v cs i r n (inr s) = s

    pub begun : {X : Type 0} (g : Production T N Of X) → decides class edges example g ≡ true → (x : X) (i r : List (T × D)) → spells class R g x i r → Begun (of class (first edges g)) (nullable g) i r
    begun (give y) d x i r h = inl (refl, h.1)
    begun (token inner set value) d x i r h = inr (begun_token inner R.room R.here R.below (of class set) value x i r h)
    begun (apply p q) d x i r h =
        let a = both_true (decides class edges example p) _ d in
        let b = both_true (decides class edges example q) _ a.1 in
        let k = h.3 in
        begun_then (nullable p) (nullable q) (first edges p) (first edges q) i h.1 r (begun p a.0 h.0 i h.1 h.2) (subst (λ z. Begun (of class (first edges q)) (nullable q) h.1 z) k.3.1 (begun q b.0 k.0 h.1 k.1 k.2))
    begun (either p q) d x i r (inl h) =
        let a = both_true (decides class edges example p) _ d in
        let b = both_true (decides class edges example q) _ a.1 in
        begun_left (nullable p) (nullable q) (first edges p) (first edges q) i r (not_true (nullable p) (both_true (not (nullable p)) _ b.1).0) (begun p a.0 x i r h)
    begun (either p q) d x i r (inr h) =
        let a = both_true (decides class edges example p) _ d in
        let b = both_true (decides class edges example q) _ a.1 in
        begun_right (nullable p) (nullable q) (first edges p) (first edges q) i r (not_true (nullable p) (both_true (not (nullable p)) _ b.1).0) (begun q b.0 x i r h)
    begun (list p) d [] i r h = inl (refl, h)
    begun (list p) d (x ∷ xs) i r h =
        let a = both_true (decides class edges example p) _ d in
        inr (begun_some (nullable p) (first edges p) i h.0 (not_true (nullable p) (both_true (not (nullable p)) _ a.1).0) (begun p a.0 x i h.0 h.1))
    begun (sub n) d x i r h = inr (begins_with n x i r h)

    pub part_begins : {X : Type 0} (g : Production T N Of X) → decides class edges example g ≡ true → nullable g ≡ false → (x : X) (i r : List (T × D)) → spells class R g x i r → sees (of class (first edges g)) (plain i) ≡ true
    part_begins g d n x i r h = begun_some (nullable g) (first edges g) i r n (begun g d x i r h)

    -- the first part stops before the second
    pub between : (v : Bool) (ps cs ds : List ℕ) (m r : List (T × D)) → apart ps ds ≡ true → Begun (of class ds) v m r → sees (of class (cs ++ (if v then ps else []))) (plain r) ≡ false → sees (of class ps) (plain m) ≡ false
    between v ps cs ds m r a (inr s) f = apart_other class ps ds (plain m) a s
    between true ps cs ds m r a (inl e) f = ap (λ z. sees (of class ps) (plain z)) e.1 ∙ (sees_none class cs ps (plain r) f).1
    between false ps cs ds m r a (inl e) f = absurd (let q = e.0 in cc)

    -- the second alternative
    pub past : (v : Bool) (cs ds ps qs : List ℕ) (i r : List (T × D)) → apart cs ds ≡ true → Begun (of class ds) v i r → sees (of class (ps ++ (qs ++ (if v then cs else [])))) (plain r) ≡ false → sees (of class cs) (plain i) ≡ false
    past v cs ds ps qs i r a (inr s) f = apart_other class cs ds (plain i) a s
    past true cs ds ps qs i r a (inl e) f = ap (λ z. sees (of class cs) (plain z)) e.1 ∙ (sees_none class qs cs (plain r) (sees_none class ps (qs ++ cs) (plain r) f).1).1
    past false cs ds ps qs i r a (inl e) f = absurd (let q = e.0 in cc)

    module _ (E : Readers T N Of) (room : E.room ≡ R.room) (self : Grows E E)
        (whole : (n : N) → Full (E.read n) (R.rule n) (λ _ ts. sees (of class (edges.stops n)) ts ≡ false)) where
      pub part_full : {X : Type 0} (g : Production T N Of X) → decides class edges example g ≡ true → Full (reads class edges E g) (spells class R g) (λ _ ts. sees (of class (stops edges g)) ts ≡ false)
      part_full (give x) d = full_pure x
      part_full (token inner set value) d = full_token inner E.room R.room R.here R.below (of class set) value room
      part_full (apply p q) d =
          let a = both_true (decides class edges example p) _ d in
          let b = both_true (decides class edges example q) _ a.1 in
          full_bind (part_full p a.0) (λ f. full_bind (part_full q b.0) (λ x. full_pure (f x))
          (λ x y m r h k. subst (λ z. sees (of class (stops edges q)) (plain z) ≡ false) (sym h.1) (sees_none class (stops edges q) (if nullable q then stops edges p else []) (plain r) k).0))
          (λ f y m r h k. between (nullable q) (stops edges p) (stops edges q) (first edges q) m r b.1 (subst (λ z. Begun (of class (first edges q)) (nullable q) m z) h.3.1 (begun q b.0 h.0 m h.1 h.2)) k)
      part_full (either p q) d =
          let a = both_true (decides class edges example p) _ d in
          let b = both_true (decides class edges example q) _ a.1 in
          let c = both_true (not (nullable p)) _ b.1 in
          let P = part_full p a.0 in
          let Q = part_full q b.0 in
          record {
            reads = λ x i r h k.
                let s = sees_none class (stops edges p) (stops edges q ++ (if nullable q then first edges p else [])) (plain r) k in
                elim h [
                  | inl u ↦ ap (λ z. if z then reads class edges E p (plain i) else reads class edges E q (plain i)) (begun_some (nullable p) (first edges p) i r (not_true (nullable p) c.0) (begun p a.0 x i r u)) ∙ P.reads x i r u s.0
                  | inr u ↦ ap (λ z. if z then reads class edges E p (plain i) else reads class edges E q (plain i)) (past (nullable q) (first edges p) (first edges q) (stops edges p) (stops edges q) i r c.1 (begun q b.0 x i r u) k)
                      ∙ Q.reads x i r u (sees_none class (stops edges q) (if nullable q then first edges p else []) (plain r) s.1).0
                ];
          }
      part_full (list p) d =
          let a = both_true (decides class edges example p) _ d in
          let c = both_true (not (nullable p)) _ a.1 in
          let n = not_true (nullable p) c.0 in
          full_for (λ x ts k. sees_none class (first edges p) (stops edges p) ts k)
          (full_many (of class (first edges p)) (part_full p a.0) (part_eats class edges example E E self p a.0 n) (part_begins p a.0 n) (λ m s. apart_other class (stops edges p) (first edges p) m c.1 s))
      part_full (sub n) d = whole n
