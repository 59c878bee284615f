-- What a grammar spells, its reader reads, or it stops at the first token that is too deep.
use Rattle.std.proofs.Common.{◌≡◌, ℕ, ◌||◌, ◌&&◌, not, Bool, true, false, List, [], ◌∷◌, ◌++◌, refl, sym, ◌∙◌, subst, if◌then◌else◌, inl, inr, ◌⊎◌}
use Rattle.wg_grammar.specs.Reading.{sees}
use Rattle.wg_grammar.specs.Spans.{Seq, None_of}
use Rattle.wg_grammar.specs.Depths.{plain}
use Rattle.wg_grammar.specs.Productions.{Production, give, token, apply, either, list, sub, of, Edges, Readers, Rules, read_token, spell_token, nullable, first, stops, reads, spells, decides}
use Rattle.wg_grammar.proofs.Sets.{both_true, not_true, or_left, or_right, sees_none, apart_other}
use Rattle.wg_grammar.proofs.PartKept.{Grows, part_persists, part_eats}
use Rattle.wg_grammar.proofs.PartFull.{Begun, begun, begun_some, part_begins, between, past}
use Rattle.wg_grammar.proofs.Limits.{Limits, limits_pure, limits_bind, limits_take, limits_deep, limits_for, limits_next, limits_many}

-- it begins with a token at such a depth, or is nothing where v
abbrev pub Ahead : {T D : Type 0} → (D → Type 0) → Bool → List (T × D) → List (T × D) → Type 0
Ahead {T = T} {D = D} Beyond v i r = ((v ≡ true) × (i ≡ r)) ⊎ ((t : T) × (d : D) × (rest : List (T × D)) × (i ≡ (t, d) ∷ rest) × Beyond d)

module _ {T D : Type 0} (Beyond : D → Type 0) where
  ahead_token : {X : Type 0} (inner room : Bool) (here below : D) (test : T → Bool) (value : T → X) → Beyond here → Beyond below → (x : X) (i r : List (T × D)) → spell_token inner room here below test value x i r → Ahead Beyond false i r
  ahead_token false room here below test value a b x i r h = inr (h.0, here, r, h.3, a)
  ahead_token true true here below test value a b x i r h = inr (h.0, below, r, h.3, b)
  ahead_token true false here below test value a b x i r h = absurd h

  pub ahead_then : (v w : Bool) (i m r : List (T × D)) → Ahead Beyond v i m → Ahead Beyond w m r → Ahead Beyond (v && w) i r
  ahead_then v w i m r (inr a) k = inr a
  ahead_then true w i m r (inl a) (inl b) = inl (b.0, a.1 ∙ b.1)
  ahead_then true w i m r (inl a) (inr b) = inr (b.0, b.1, b.2, a.1 ∙ b.3, b.4)
  ahead_then false w i m r (inl a) k = absurd (let e = a.0 in cc)

  ahead_left : (v w : Bool) (i r : List (T × D)) → Ahead Beyond v i r → Ahead Beyond (v || w) i r
  ahead_left v w i r (inl a) = inl (or_left v w a.0, a.1)
  ahead_left v w i r (inr a) = inr a

  ahead_right : (v w : Bool) (i r : List (T × D)) → Ahead Beyond w i r → Ahead Beyond (v || w) i r
  ahead_right v w i r (inl a) = inl (or_right v w a.0, a.1)
  ahead_right v w i r (inr a) = inr a

  pub ahead_some : (v : Bool) (i r : List (T × D)) → v ≡ false → Ahead Beyond v i r → Ahead Beyond false i r
  ahead_some v i r n k = subst (λ z. Ahead Beyond z i r) n k

  module _ {N : Type 0} {Of : N → Type 0} (class : T → ℕ) (edges : Edges N) (example : ℕ → T) (R : Rules T D N Of) (here : Beyond R.here) (below : Beyond R.below)
      (heads : (n : N) (x : Of n) (i r : List (T × D)) → R.rule n x i r → Ahead Beyond false i r) where
    -- what is spelled where all is too deep begins too deep
    pub part_ahead : {X : Type 0} (g : Production T N Of X) → decides class edges example g ≡ true → (x : X) (i r : List (T × D)) → spells class R g x i r → Ahead Beyond (nullable g) i r
    part_ahead (give y) d x i r h = inl (refl, h.1)
    part_ahead (token inner set value) d x i r h = ahead_token inner R.room R.here R.below (of class set) value here below x i r h
    part_ahead (apply p q) d x i r h =
        let a = both_true (decides class edges example p) _ d in
        let b = both_true (decides class edges example q) _ a.1 in
        let k = h.3 in
        ahead_then (nullable p) (nullable q) i h.1 r (part_ahead p a.0 h.0 i h.1 h.2) (subst (λ z. Ahead Beyond (nullable q) h.1 z) k.3.1 (part_ahead q b.0 k.0 h.1 k.1 k.2))
    part_ahead (either p q) d x i r (inl h) = let a = both_true (decides class edges example p) _ d in ahead_left (nullable p) (nullable q) i r (part_ahead p a.0 x i r h)
    part_ahead (either p q) d x i r (inr h) =
        let a = both_true (decides class edges example p) _ d in
        let b = both_true (decides class edges example q) _ a.1 in
        ahead_right (nullable p) (nullable q) i r (part_ahead q b.0 x i r h)
    part_ahead (list p) d [] i r h = inl (refl, h)
    part_ahead (list p) d (x ∷ xs) i r h =
        let a = both_true (decides class edges example p) _ d in
        let n = not_true (nullable p) (both_true (not (nullable p)) _ a.1).0 in
        begins_some i h.0 (ahead_some (nullable p) i h.0 n (part_ahead p a.0 x i h.0 h.1))
      where
        begins_some : (i m : List (T × D)) → Ahead Beyond false i m → Ahead Beyond true i r
        begins_some i m (inl k) = absurd (let e = k.0 in cc)
        begins_some i m (inr k) = inr k
    part_ahead (sub n) d x i r h = heads n x i r h

token_limits : {T D X : Type 0} (Within : D → Type 0) (inner room room' : Bool) (here below : D) (test : T → Bool) (value : T → X) {F : X → List T → Type 0} → Within here → (room ≡ true → Within below) → (room ≡ false → Within below → ⊥)
    → Limits Within (read_token inner room test value) (spell_token inner room' here below test value) F
token_limits Within false room room' here below test value h s n = limits_take Within test value h
token_limits Within true true true here below test value h s n = limits_take Within test value (s refl)
token_limits Within true true false here below test value h s n = record { ends = λ x i r k f. absurd k }
token_limits Within true false true here below test value h s n = limits_deep Within test (λ x i r k. (k.0, below, r, k.3, n refl, k.1))
token_limits Within true false false here below test value h s n = record { ends = λ x i r k f. absurd k }

module _ {T D N : Type 0} {Of : N → Type 0} (Within : D → Type 0) (class : T → ℕ) (edges : Edges N) (example : ℕ → T) (R : Rules T D N Of)
    (begins_with : (n : N) (x : Of n) (i r : List (T × D)) → R.rule n x i r → sees (of class (edges.first n)) (plain i) ≡ true)
    (E : Readers T N Of) (here : Within R.here) (shallow : E.room ≡ true → Within R.below) (deep : E.room ≡ false → Within R.below → ⊥) (self : Grows E E)
    (whole : (n : N) → Limits Within (E.read n) (R.rule n) (λ _ ts. sees (of class (edges.stops n)) ts ≡ false)) where
  begun_by : {X : Type 0} (g : Production T N Of X) → decides class edges example g ≡ true → (x : X) (i r : List (T × D)) → spells class R g x i r → Begun (of class (first edges g)) (nullable g) i r
  begun_by g d x i r h = begun class edges example R begins_with g d x i r h

  pub part_limits : {X : Type 0} (g : Production T N Of X) → decides class edges example g ≡ true → Limits Within (reads class edges E g) (spells class R g) (λ _ ts. sees (of class (stops edges g)) ts ≡ false)
  part_limits (give x) d = limits_pure Within x
  part_limits (token inner set value) d = token_limits Within inner E.room R.room R.here R.below (of class set) value here shallow deep
  part_limits (apply p q) d =
      let a = both_true (decides class edges example p) _ d in
      let b = both_true (decides class edges example q) _ a.1 in
      limits_bind Within {Q = λ f. Seq (spells class R q) (λ x. None_of (f x))} (part_persists class edges example E E self p a.0) (part_limits p a.0)
      (λ f. limits_bind Within {Q = λ x. None_of (f x)} (part_persists class edges example E E self q b.0) (part_limits q b.0) (λ x. limits_pure Within (f x))
      (λ x y m r h k. subst (λ z. sees (of class (stops edges q)) (plain z) ≡ false) (sym h.1) (sees_none class (stops edges q) (if nullable q then stops edges p else []) (plain r) k).0))
      (λ f y m r h k. between class edges example R begins_with (nullable q) (stops edges p) (stops edges q) (first edges q) m r b.1 (subst (λ z. Begun (of class (first edges q)) (nullable q) m z) h.3.1 (begun_by q b.0 h.0 m h.1 h.2)) k)
  part_limits (either p q) d =
      let a = both_true (decides class edges example p) _ d in
      let b = both_true (decides class edges example q) _ a.1 in
      let c = both_true (not (nullable p)) _ b.1 in
      let n = not_true (nullable p) c.0 in
      limits_next Within (of class (first edges p)) (limits_for Within (λ x ts k. (sees_none class (stops edges p) (stops edges q ++ (if nullable q then first edges p else [])) ts k).0) (part_limits p a.0))
      (limits_for Within (λ x ts k. (sees_none class (stops edges q) (if nullable q then first edges p else []) ts (sees_none class (stops edges p) (stops edges q ++ (if nullable q then first edges p else [])) ts k).1).0) (part_limits q b.0))
      (λ x i r u k. begun_some class edges example R begins_with (nullable p) (first edges p) i r n (begun_by p a.0 x i r u))
      (λ x i r u k. past class edges example R begins_with (nullable q) (first edges p) (first edges q) (stops edges p) (stops edges q) i r c.1 (begun_by q b.0 x i r u) k)
  part_limits (list p) d =
      let a = both_true (decides class edges example p) _ d in
      let c = both_true (not (nullable p)) _ a.1 in
      let n = not_true (nullable p) c.0 in
      limits_for Within (λ x ts k. sees_none class (first edges p) (stops edges p) ts k)
      (limits_many Within (of class (first edges p)) (part_persists class edges example E E self p a.0) (part_limits p a.0) (part_eats class edges example E E self p a.0 n) (part_begins class edges example R begins_with p a.0 n) (λ m s. apart_other class (stops edges p) (first edges p) m c.1 s))
  part_limits (sub n) d = whole n
