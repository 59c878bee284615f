-- A reader that reads exactly what is spelled.
use Rattle.std.proofs.Common.{◌++◌, Bool, suc, [], ◌∷◌, length, refl, ◌∙◌, inl, inr, subst, ap, sym, if◌then◌else◌, ◌≡◌, ℕ, true, false, List}
use Rattle.wg_grammar.specs.Spans.{Span, Seq, None_of, Never, ◌or◌}
use Rattle.wg_grammar.specs.Reading.{Wrong, Deep, Reader, read_on, ◌>>=◌, pure, sees, begins_with, look, by_next, too_deep}
use Rattle.wg_grammar.specs.Depths.{plain}
use Rattle.wg_grammar.specs.TakesTokens.{TakesTokens, matched}
use Rattle.wg_grammar.specs.Productions.{Production, of, apart, covered, Edges, Readers, Rules, nullable, first, stops, reads, spells, decides}
use Rattle.wg_grammar.proofs.Kept.{Persists, Eats, persists_deep, eats_deep, persists_next, persists_bind, persists_pure, eats_next, eats_first, falls_pure}
use Rattle.wg_grammar.proofs.Full.{Full, full_for, full_next, full_bind, full_pure}
use Rattle.wg_grammar.proofs.Sets.{covered_sees, covered_true, apart_other, sees_left, sees_right, sees_none}
use Rattle.wg_grammar.proofs.Look.{persists_look, eats_look, full_look}
use Rattle.wg_grammar.proofs.Inverse.{begins_not}
use Rattle.wg_grammar.proofs.PartKept.{Grows, part_persists, part_eats, part_refuses}
use Rattle.wg_grammar.proofs.PartFull.{part_full, part_begins}

-- starts: the classes with which it begins; ends: those that must not follow
pub record Exact {T D X : Type 0} (class : T → ℕ) (starts ends : List ℕ) (p : Reader T X) (P : X → Span (T × D)) : Type 0 where
  pub self : Persists p p
  pub eats : Eats p
  pub refuses : (ts : List T) → sees (of class starts) ts ≡ false → p ts ≡ Wrong ts
  pub begins_with : (x : X) (i r : List (T × D)) → P x i r → sees (of class starts) (plain i) ≡ true
  pub full : Full p P (λ _ ts. sees (of class ends) ts ≡ false)

module _ {T D N : Type 0} {Of : N → Type 0} (class : T → ℕ) (edges : Edges N) (example : ℕ → T) (E : Readers T N Of) (R : Rules T D N Of) (room : E.room ≡ R.room)
    (parts : (n : N) → Exact class (edges.first n) (edges.stops n) (E.read n) (R.rule n)) where
  pub grows_self : Grows E E
  grows_self = record { room = λ e. e; kept = λ n. (parts n).self; eats = λ n. (parts n).eats }

  pub exact_part : {X : Type 0} (g : Production T N Of X) → decides class edges example g ≡ true → nullable g ≡ false → Exact class (first edges g) (stops edges g) (reads class edges E g) (spells class R g)
  exact_part g d n = record {
    self = part_persists class edges example E E grows_self g d;
    eats = part_eats class edges example E E grows_self g d n;
    refuses = part_refuses class edges example E (λ n. (parts n).refuses) g d n;
    begins_with = part_begins class edges example R (λ n. (parts n).begins_with) g d n;
    full = part_full class edges example R (λ n. (parts n).begins_with) E room grows_self (λ n. (parts n).full) g d;
  }

pub exact_for : {T D X : Type 0} (class : T → ℕ) (starts ends more : List ℕ) {p : Reader T X} {P : X → Span (T × D)} → covered ends more ≡ true → Exact class starts ends p P → Exact class starts more p P
exact_for class starts ends more c h = record {
  self = h.self;
  eats = h.eats;
  refuses = h.refuses;
  begins_with = h.begins_with;
  full = full_for (λ x ts k. covered_sees class ends more ts c k) h.full;
}

-- where there is no room
pub exact_never : {T D X : Type 0} (class : T → ℕ) (starts ends : List ℕ) → Exact {D = D} {X = X} class starts ends (too_deep (of class starts)) Never
exact_never {T = T} {X = X} class starts ends = record {
  self = persists_deep (of class starts) refuses;
  eats = eats_deep (of class starts);
  refuses = refuses;
  begins_with = λ x i r h. absurd h;
  full = record { reads = λ x i r h k. absurd h };
}
  where
    refuses : (ts : List T) → sees (of class starts) ts ≡ false → too_deep {X = X} (of class starts) ts ≡ Wrong ts
    refuses ts e = ap (λ z. if z then Deep ts else Wrong ts) e

-- the one or the other, told apart by several tokens
module _ {T D X : Type 0} (class : T → ℕ) (set s1 s2 ends : List ℕ) (tests : List (T → Bool)) {p q : Reader T X} {P Q : X → Span (T × D)} where
  pub exact_look : covered s1 s2 ≡ true → covered set s1 ≡ true → Exact class s1 ends p P → Exact class s2 ends q Q
      → ((ts : List T) → begins_with (of class set ∷ tests) ts ≡ true → (n : ℕ) → suc (length tests) ≡ suc n → TakesTokens n ts (p ts))
      → ((ts : List T) → begins_with (of class set ∷ tests) ts ≡ false → TakesTokens (matched (of class set ∷ tests) ts) ts (q ts))
      → ((x : X) (i r : List (T × D)) → P x i r → begins_with (of class set ∷ tests) (plain i) ≡ true)
      → ((x : X) (i r : List (T × D)) → Q x i r → sees (of class ends) (plain r) ≡ false → begins_with (of class set ∷ tests) (plain i) ≡ false)
      → Exact class s2 ends (look (of class set ∷ tests) p q) (P or Q)
  exact_look c d a b taken other first second = record {
    self = persists_look (of class set ∷ tests) a.self b.self taken other;
    eats = eats_look (of class set ∷ tests) a.eats b.eats;
    refuses = λ ts e. ap (λ z. if z then p ts else q ts) (begins_not (of class set) tests ts (covered_sees class set s1 ts d (covered_sees class s1 s2 ts c e))) ∙ b.refuses ts e;
    begins_with = λ x i r h. elim h [ inl u ↦ covered_true class s1 s2 (plain i) c (a.begins_with x i r u) | inr u ↦ b.begins_with x i r u ];
    full = full_look (of class set ∷ tests) a.full b.full first second;
  }

-- the one or the other, by the next token
pub exact_next : {T D X : Type 0} (class : T → ℕ) (s1 s2 ends : List ℕ) {p q : Reader T X} {P Q : X → Span (T × D)} → apart s1 s2 ≡ true → Exact class s1 ends p P → Exact class s2 ends q Q
    → Exact class (s1 ++ s2) ends (by_next (of class s1) p q) (P or Q)
exact_next {T = T} class s1 s2 ends {p = p} {q = q} {P = P} {Q = Q} c a b = record {
  self = persists_next (of class s1) a.self b.self;
  eats = eats_next (of class s1) a.eats b.eats;
  refuses = λ ts e. let n = sees_none class s1 s2 ts e in ap (λ z. if z then p ts else q ts) n.0 ∙ b.refuses ts n.1;
  begins_with = λ x i r h. elim h [ inl u ↦ sees_left class s1 s2 (plain i) (a.begins_with x i r u) | inr u ↦ sees_right class s1 s2 (plain i) (b.begins_with x i r u) ];
  full = full_next (of class s1) a.full b.full a.begins_with (λ x i r h. apart_other class s1 s2 (plain i) c (b.begins_with x i r h));
}

-- the same with another value
pub exact_map : {T D X Y : Type 0} (class : T → ℕ) (starts ends : List ℕ) {p : Reader T X} {P : X → Span (T × D)} (f : X → Y) → Exact class starts ends p P → Exact class starts ends (p >>= λ x. pure (f x)) (Seq P (λ x. None_of (f x)))
exact_map class starts ends {p = p} f h = record {
  self = persists_bind h.self (λ x. persists_pure (f x));
  eats = eats_first h.eats (λ x. falls_pure (f x));
  refuses = λ ts e. ap (λ z. read_on z (λ x. pure (f x))) (h.refuses ts e);
  begins_with = λ y i r k. h.begins_with k.0 i k.1 k.2;
  full = full_bind h.full (λ x. full_pure (f x)) (λ x y m r q k. subst (λ z. sees (of class ends) (plain z) ≡ false) (sym q.1) k);
}

-- nothing is in the empty set
pub none_seen : {T : Type 0} (class : T → ℕ) (ts : List T) → sees (of class []) ts ≡ false
none_seen class [] = refl
none_seen class (t ∷ ts) = refl
