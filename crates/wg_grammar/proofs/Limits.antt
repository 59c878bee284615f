-- What is spelled is read, or reading stops at the first token that is too deep, whatever follows that token.
use Rattle.std.proofs.Common.{◌≡◌, ℕ, zero, suc, ◌≤◌, Bool, true, false, List, [], ◌∷◌, ◌++◌, length, refl, sym, ◌∙◌, ap, subst, append_assoc, length-append, arith, if◌then◌else◌, inl, inr, ◌⊎◌}
use Rattle.std.proofs.lemmas.List.{map-append}
use Rattle.wg_grammar.specs.Reading.{Reading, Got, Wrong, Deep, Reader, read_on, ◌>>=◌, pure, sees, begins_with, take_if, too_deep, by_next, look, many_from, many}
use Rattle.wg_grammar.specs.Spans.{Span, Seq, None_of, Leaf, Many, ◌or◌}
use Rattle.wg_grammar.specs.Depths.{plain, Shallow}
use Rattle.wg_grammar.proofs.Kept.{SameHead, Kept, Persists, Eats, same_front, same_sees}
use Rattle.wg_grammar.proofs.Full.{Ends}
use Rattle.wg_grammar.proofs.Far.{StopsOn, StopsOff}
use Rattle.wg_grammar.proofs.Fine.{shallow-append}

pub cancel : {T : Type 0} (a b c : List T) → a ++ c ≡ b ++ c → a ≡ b
cancel [] [] c e = refl
cancel [] (t ∷ b) c e = absurd (omega (arith, ap length e, length-append b c))
cancel (t ∷ a) [] c e = absurd (omega (arith, ap length e, length-append a c))
cancel (t ∷ a) (u ∷ b) c e = let same : t ≡ u = cc in let rest : a ++ c ≡ b ++ c = cc in let r = cancel a b c rest in cc

-- what was read stays, whatever follows the next token
pub got_stays : {T X : Type 0} {p q : Reader T X} → Persists p q → (front m : List T) (x : X) → p (front ++ m) ≡ Got x m → (b : List T) → SameHead m b → q (front ++ b) ≡ Got x b
got_stays {T = T} {X = X} {p = p} {q = q} h front m x e b s = go (p (front ++ m)) e (h.at (front ++ m))
  where
    go : (o : Reading T X) → o ≡ Got x m → Kept (λ i o. q i ≡ o) (front ++ m) o → q (front ++ b) ≡ Got x b
    go (Got y c) g k = let same : c ≡ m = cc in let tree : y ≡ x = cc in
        let f : k.0 ≡ front = cancel k.0 front m (ap (λ z. k.0 ++ z) (sym same) ∙ sym k.1) in
        ap (λ z. q (z ++ b)) (sym f) ∙ k.2 b (subst (λ z. SameHead z b) (sym same) s) ∙ ap (λ z. Got z b) tree
    go (Wrong c) g k = absurd (cc)
    go (Deep c) g k = absurd (cc)

module _ {D : Type 0} (Within : D → Type 0) where
  -- no token is too deep, and all is read
  abbrev pub Through : {T X : Type 0} → Reader T X → X → List (T × D) → List (T × D) → Type 0
  Through {T = T} p x i r = (front : List (T × D)) × (i ≡ front ++ r) × Shallow Within front × (p (plain i) ≡ Got x (plain r))

  -- the first token that is too deep, where reading stops
  abbrev pub Stuck : {T X : Type 0} → Reader T X → List (T × D) → Type 0
  Stuck {T = T} p i = (front : List (T × D)) × (t : T) × (d : D) × (rest : List (T × D)) × (i ≡ front ++ (t, d) ∷ rest) × Shallow Within front × (Within d → ⊥) × ((ts : List T) → p (plain front ++ t ∷ ts) ≡ Deep (t ∷ ts))

  -- F: what may follow a tree
  pub record Limits {T X : Type 0} (p : Reader T X) (P : X → Span (T × D)) (F : X → List T → Type 0) : Type 0 where
    pub ends : (x : X) (i r : List (T × D)) → P x i r → F x (plain r) → Through p x i r ⊎ Stuck p i

  pub limits_pure : {T X : Type 0} (x : X) {F : X → List T → Type 0} → Limits (pure x) (None_of x) F
  limits_pure x = record { ends = λ y i r h f. inl ([], h.1, tt, rw (h.0, h.1) refl) }

  pub limits_for : {T X : Type 0} {p : Reader T X} {P : X → Span (T × D)} {F G : X → List T → Type 0} → ((x : X) (ts : List T) → G x ts → F x ts) → Limits p P F → Limits p P G
  limits_for h a = record { ends = λ x i r k g. a.ends x i r k (h x (plain r) g) }

  pub limits_as : {T X : Type 0} {p : Reader T X} {P Q : X → Span (T × D)} {F : X → List T → Type 0} → ((x : X) (i r : List (T × D)) → Q x i r → P x i r) → Limits p P F → Limits p Q F
  limits_as h a = record { ends = λ x i r k f. a.ends x i r (h x i r k) f }

  pub limits_take : {T X : Type 0} {d : D} (test : T → Bool) (value : T → X) {F : X → List T → Type 0} → Within d → Limits (take_if test value) (Leaf test value d) F
  limits_take {d = d} test value w = record { ends = λ x i r h k. inl ((h.0, d) ∷ [], h.3, (w, tt), ap (λ z. take_if test value (plain z)) h.3 ∙ ap (λ z. if z then Got (value h.0) (plain r) else Wrong (h.0 ∷ plain r)) h.1 ∙ ap (λ z. Got z (plain r)) (sym h.2)) }

  -- there is no room for what begins with one of these
  pub limits_deep : {T X : Type 0} (test : T → Bool) {P : X → Span (T × D)} {F : X → List T → Type 0} → ((x : X) (i r : List (T × D)) → P x i r → (t : T) × (d : D) × (rest : List (T × D)) × (i ≡ (t, d) ∷ rest) × (Within d → ⊥) × (test t ≡ true)) → Limits (too_deep test) P F
  limits_deep test h = record { ends = λ x i r k f. let g = h x i r k in inr ([], g.0, g.1, g.2, g.3, tt, g.4, λ ts. ap (λ z. if z then Deep (g.0 ∷ ts) else Wrong (g.0 ∷ ts)) g.5) }

  module _ {T X Y : Type 0} (p : Reader T X) (f : X → Reader T Y) (self : Persists p p) where
    then_ends : (x : X) (y : Y) (i m r : List (T × D)) → Through p x i m → Through (f x) y m r ⊎ Stuck (f x) m → Through (p >>= f) y i r ⊎ Stuck (p >>= f) i
    then_ends x y i m r a (inl b) = inl (a.0 ++ b.0, a.1 ∙ ap (λ z. a.0 ++ z) b.1 ∙ sym (append_assoc a.0 b.0 r), shallow-append ⊥ Within a.0 b.0 a.2 b.2, ap (λ z. read_on z f) a.3 ∙ b.3)
    then_ends x y i m r a (inr b) = inr (
      a.0 ++ b.0,
      b.1,
      b.2,
      b.3,
      a.1 ∙ ap (λ z. a.0 ++ z) b.4 ∙ sym (append_assoc a.0 b.0 ((b.1, b.2) ∷ b.3)),
      shallow-append ⊥ Within a.0 b.0 a.2 b.5,
      b.6,
      λ ts. ap (λ z. read_on (p z) f) (ap (λ z. z ++ (b.1 ∷ ts)) (map-append (λ z. z.0) a.0 b.0) ∙ append_assoc (plain a.0) (plain b.0) (b.1 ∷ ts)) ∙ ap (λ z. read_on z f) (stays ts) ∙ b.7 ts,
    )
      where
        split : plain i ≡ plain a.0 ++ plain m
        split = ap plain a.1 ∙ map-append (λ z. z.0) a.0 m

        head : (ts : List T) → SameHead (plain m) (plain b.0 ++ b.1 ∷ ts)
        head ts = subst (λ z. SameHead z (plain b.0 ++ b.1 ∷ ts)) (sym (ap plain b.4 ∙ map-append (λ z. z.0) b.0 ((b.1, b.2) ∷ b.3))) (same_front (plain b.0) (b.1 ∷ plain b.3) (b.1 ∷ ts) refl)

        stays : (ts : List T) → p (plain a.0 ++ (plain b.0 ++ b.1 ∷ ts)) ≡ Got x (plain b.0 ++ b.1 ∷ ts)
        stays ts = got_stays self (plain a.0) (plain m) x (ap p (sym split) ∙ a.3) (plain b.0 ++ b.1 ∷ ts) (head ts)

  pub limits_bind : {T X Y : Type 0} {p : Reader T X} {f : X → Reader T Y} {P : X → Span (T × D)} {Q : X → Y → Span (T × D)} {FP : X → List T → Type 0} {F : Y → List T → Type 0} → Persists p p → Limits p P FP → ((x : X) → Limits (f x) (Q x) F)
      → ((x : X) (y : Y) (m r : List (T × D)) → Q x y m r → F y (plain r) → FP x (plain m)) → Limits (p >>= f) (Seq P Q) F
  limits_bind {p = p} {f = f} self a b c = record {
    ends = λ y i r h k. elim (a.ends h.0 i h.1 h.2 (c h.0 y h.1 r h.3 k)) [
      | inl g ↦ then_ends p f self h.0 y i h.1 r g ((b h.0).ends y h.1 r h.3 k)
      | inr g ↦ inr (g.0, g.1, g.2, g.3, g.4, g.5, g.6, λ ts. ap (λ z. read_on z f) (g.7 ts))
    ];
  }

  -- the branch stays, whatever follows the token that is too deep
  pub same_begin : {T : Type 0} (test : T → Bool) (i front rest : List (T × D)) (t : T) (d : D) (v : Bool) → i ≡ front ++ (t, d) ∷ rest → sees test (plain i) ≡ v → (ts : List T) → sees test (plain front ++ t ∷ ts) ≡ v
  same_begin test i front rest t d v e s ts = sym (same_sees test (plain front ++ t ∷ plain rest) (plain front ++ t ∷ ts) (same_front (plain front) (t ∷ plain rest) (t ∷ ts) refl)) ∙ ap (sees test) (sym (ap plain e ∙ map-append (λ z. z.0) front ((t, d) ∷ rest))) ∙ s

  -- the one or the other, by the next token
  pub limits_next : {T X : Type 0} (test : T → Bool) {p q : Reader T X} {P Q : X → Span (T × D)} {F : X → List T → Type 0} → Limits p P F → Limits q Q F
      → ((x : X) (i r : List (T × D)) → P x i r → F x (plain r) → sees test (plain i) ≡ true) → ((x : X) (i r : List (T × D)) → Q x i r → F x (plain r) → sees test (plain i) ≡ false) → Limits (by_next test p q) (P or Q) F
  limits_next {T = T} {X = X} test {p = p} {q = q} {P = P} {Q = Q} {F = F} a b first second = record { ends = ends }
    where
      ends : (x : X) (i r : List (T × D)) → (P or Q) x i r → F x (plain r) → Through (by_next test p q) x i r ⊎ Stuck (by_next test p q) i
      ends x i r (inl u) f = let s = first x i r u f in elim (a.ends x i r u f) [
        | inl g ↦ inl (g.0, g.1, g.2, ap (λ z. if z then p (plain i) else q (plain i)) s ∙ g.3)
        | inr g ↦ inr (g.0, g.1, g.2, g.3, g.4, g.5, g.6, λ ts. ap (λ z. if z then p (plain g.0 ++ g.1 ∷ ts) else q (plain g.0 ++ g.1 ∷ ts)) (same_begin test i g.0 g.3 g.1 g.2 true g.4 s ts) ∙ g.7 ts)
      ]
      ends x i r (inr u) f = let s = second x i r u f in elim (b.ends x i r u f) [
        | inl g ↦ inl (g.0, g.1, g.2, ap (λ z. if z then p (plain i) else q (plain i)) s ∙ g.3)
        | inr g ↦ inr (g.0, g.1, g.2, g.3, g.4, g.5, g.6, λ ts. ap (λ z. if z then p (plain g.0 ++ g.1 ∷ ts) else q (plain g.0 ++ g.1 ∷ ts)) (same_begin test i g.0 g.3 g.1 g.2 false g.4 s ts) ∙ g.7 ts)
      ]

  -- the one or the other, by several tokens, where what follows the token that is too deep does not tell them apart
  pub limits_look : {T X : Type 0} (tests : List (T → Bool)) {p q : Reader T X} {P Q : X → Span (T × D)} {F : X → List T → Type 0} → Limits p P F → Limits q Q F
      → ((x : X) (i r : List (T × D)) → P x i r → begins_with tests (plain i) ≡ true) → ((x : X) (i r : List (T × D)) → Q x i r → F x (plain r) → begins_with tests (plain i) ≡ false)
      → StopsOn tests p q
      → StopsOff tests p q
      → Limits (look tests p q) (P or Q) F
  limits_look {T = T} {X = X} tests {p = p} {q = q} {P = P} {Q = Q} {F = F} a b first second on off = record { ends = ends }
    where
      tokens : (i front rest : List (T × D)) (t : T) (d : D) → i ≡ front ++ (t, d) ∷ rest → plain i ≡ plain front ++ t ∷ plain rest
      tokens i front rest t d e = ap plain e ∙ map-append (λ z. z.0) front ((t, d) ∷ rest)

      ends : (x : X) (i r : List (T × D)) → (P or Q) x i r → F x (plain r) → Through (look tests p q) x i r ⊎ Stuck (look tests p q) i
      ends x i r (inl u) f = let s = first x i r u in elim (a.ends x i r u f) [
        | inl g ↦ inl (g.0, g.1, g.2, ap (λ z. if z then p (plain i) else q (plain i)) s ∙ g.3)
        | inr g ↦ inr (g.0, g.1, g.2, g.3, g.4, g.5, g.6, λ ts. on (plain g.0) g.1 (plain g.3) ts (ap (begins_with tests) (sym (tokens i g.0 g.3 g.1 g.2 g.4)) ∙ s) (g.7 (plain g.3)) (g.7 ts))
      ]
      ends x i r (inr u) f = let s = second x i r u f in elim (b.ends x i r u f) [
        | inl g ↦ inl (g.0, g.1, g.2, ap (λ z. if z then p (plain i) else q (plain i)) s ∙ g.3)
        | inr g ↦ inr (g.0, g.1, g.2, g.3, g.4, g.5, g.6, λ ts. off (plain g.0) g.1 (plain g.3) ts (ap (begins_with tests) (sym (tokens i g.0 g.3 g.1 g.2 g.4)) ∙ s) (g.7 (plain g.3)) (g.7 ts))
      ]

  module _ {T X : Type 0} (starts : T → Bool) {item : Reader T X} {R : X → Span (T × D)} {FI : List T → Type 0} (self : Persists item item)
      (h : Limits item R (λ _ ts. FI ts)) (eats : Eats item) (first : (x : X) (i r : List (T × D)) → R x i r → sees starts (plain i) ≡ true) (next : (m : List T) → sees starts m ≡ true → FI m) where
    abbrev AllThrough : List X → List (T × D) → List (T × D) → Type 0
    AllThrough xs i r = (front : List (T × D)) × (i ≡ front ++ r) × Shallow Within front × ((n : ℕ) → length (plain i) ≤ n → many_from starts item n (plain i) ≡ Got xs (plain r))

    abbrev AllStuck : List (T × D) → Type 0
    AllStuck i = (front : List (T × D)) × (t : T) × (d : D) × (rest : List (T × D)) × (i ≡ front ++ (t, d) ∷ rest) × Shallow Within front × (Within d → ⊥) × ((ts : List T) (n : ℕ) → length (plain front ++ t ∷ ts) ≤ n → many_from starts item n (plain front ++ t ∷ ts) ≡ Deep (t ∷ ts))

    done : (n : ℕ) (r : List T) → Ends starts r → many_from starts item n r ≡ Got [] r
    done zero r e = refl
    done (suc n) r e = rw e refl

    follows : (xs : List X) (m r : List (T × D)) → Many R xs m r → FI (plain r) → FI (plain m)
    follows [] m r k f = subst (λ z. FI (plain z)) (sym k) f
    follows (x ∷ xs) m r k f = next (plain m) (first x m k.0 k.1)

    turn : (n : ℕ) (ts m : List T) (x : X) (o : Reading T (List X)) → length ts ≤ n → sees starts ts ≡ true → item ts ≡ Got x m → ((k : ℕ) → length m ≤ k → many_from starts item k m ≡ o) → many_from starts item n ts ≡ read_on o (λ xs. pure (x ∷ xs))
    turn zero [] m x o le s e ih = absurd (cc)
    turn zero (t ∷ ts) m x o le s e ih = absurd (omega arith)
    turn (suc n) ts m x o le s e ih = let l = eats.at ts m x e in let g = ih n (omega arith) in rw (s, e, g) refl

    stop : (n : ℕ) (ts b : List T) → length ts ≤ n → sees starts ts ≡ true → item ts ≡ Deep b → many_from starts item n ts ≡ Deep b
    stop zero [] b le s e = absurd (cc)
    stop zero (t ∷ ts) b le s e = absurd (omega arith)
    stop (suc n) ts b le s e = rw (s, e) refl

    all_end : (xs : List X) (i r : List (T × D)) → Many R xs i r → Ends starts (plain r) → FI (plain r) → AllThrough xs i r ⊎ AllStuck i
    all_end [] i r k e f = inl ([], k, tt, λ n le. ap (λ z. many_from starts item n (plain z)) k ∙ done n (plain r) e)
    all_end (x ∷ xs) i r k e f = go (h.ends x i k.0 k.1 (follows xs k.0 r k.2 f)) (all_end xs k.0 r k.2 e f)
      where
        begun : sees starts (plain i) ≡ true
        begun = first x i k.0 k.1

        go : Through item x i k.0 ⊎ Stuck item i → AllThrough xs k.0 r ⊎ AllStuck k.0 → AllThrough (x ∷ xs) i r ⊎ AllStuck i
        go (inr a) b = inr (a.0, a.1, a.2, a.3, a.4, a.5, a.6, λ ts n le. stop n (plain a.0 ++ a.1 ∷ ts) (a.1 ∷ ts) le (same_begin starts i a.0 a.3 a.1 a.2 true a.4 begun ts) (a.7 ts))
        go (inl a) (inl b) = inl (a.0 ++ b.0, a.1 ∙ ap (λ z. a.0 ++ z) b.1 ∙ sym (append_assoc a.0 b.0 r), shallow-append ⊥ Within a.0 b.0 a.2 b.2, λ n le. turn n (plain i) (plain k.0) x (Got xs (plain r)) le begun a.3 b.3)
        go (inl a) (inr b) = inr (
          a.0 ++ b.0,
          b.1,
          b.2,
          b.3,
          joined,
          shallow-append ⊥ Within a.0 b.0 a.2 b.5,
          b.6,
          λ ts n le. subst (λ z. many_from starts item n z ≡ Deep (b.1 ∷ ts)) (sym (apart ts)) (turn n (plain a.0 ++ (plain b.0 ++ b.1 ∷ ts)) (plain b.0 ++ b.1 ∷ ts) x (Deep (b.1 ∷ ts)) (subst (λ z. length z ≤ n) (apart ts) le)
              (subst (λ z. sees starts z ≡ true) (apart ts) (same_begin starts i (a.0 ++ b.0) b.3 b.1 b.2 true joined begun ts)) (stays ts) (b.7 ts)),
        )
          where
            joined : i ≡ (a.0 ++ b.0) ++ (b.1, b.2) ∷ b.3
            joined = a.1 ∙ ap (λ z. a.0 ++ z) b.4 ∙ sym (append_assoc a.0 b.0 ((b.1, b.2) ∷ b.3))

            apart : (ts : List T) → plain (a.0 ++ b.0) ++ b.1 ∷ ts ≡ plain a.0 ++ (plain b.0 ++ b.1 ∷ ts)
            apart ts = ap (λ z. z ++ (b.1 ∷ ts)) (map-append (λ z. z.0) a.0 b.0) ∙ append_assoc (plain a.0) (plain b.0) (b.1 ∷ ts)

            head : (ts : List T) → SameHead (plain k.0) (plain b.0 ++ b.1 ∷ ts)
            head ts = subst (λ z. SameHead z (plain b.0 ++ b.1 ∷ ts)) (sym (ap plain b.4 ∙ map-append (λ z. z.0) b.0 ((b.1, b.2) ∷ b.3))) (same_front (plain b.0) (b.1 ∷ plain b.3) (b.1 ∷ ts) refl)

            stays : (ts : List T) → item (plain a.0 ++ (plain b.0 ++ b.1 ∷ ts)) ≡ Got x (plain b.0 ++ b.1 ∷ ts)
            stays ts = got_stays self (plain a.0) (plain k.0) x (ap item (sym (ap plain a.1 ∙ map-append (λ z. z.0) a.0 k.0)) ∙ a.3) (plain b.0 ++ b.1 ∷ ts) (head ts)

    pub limits_many : Limits (many starts item) (Many R) (λ _ ts. Ends starts ts × FI ts)
    limits_many = record {
      ends = λ xs i r k f. elim (all_end xs i r k f.0 f.1) [
        | inl g ↦ inl (g.0, g.1, g.2, g.3 (length (plain i)) (omega arith))
        | inr g ↦ inr (g.0, g.1, g.2, g.3, g.4, g.5, g.6, λ ts. g.7 ts (length (plain g.0 ++ g.1 ∷ ts)) (omega arith))
      ];
    }
