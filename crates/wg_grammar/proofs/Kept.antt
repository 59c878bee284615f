-- What a reader gives depends on what it took and on the token after it alone.
use Rattle.std.proofs.Common.{◌≡◌, ℕ, zero, suc, ◌<◌, ◌≤◌, Bool, true, false, List, [], ◌∷◌, ◌++◌, length, Option, Some, None, refl, sym, ◌∙◌, ap, subst, append_assoc, length-append, arith, if◌then◌else◌}
use Rattle.wg_grammar.specs.Reading.{Reading, Got, Wrong, Deep, Reader, read_on, ◌>>=◌, pure, sees, take_if, too_deep, by_next, many_from, many}

abbrev pub head : {T : Type 0} → List T → Option T
head [] = None
head (t ∷ ts) = Some t

-- both end, or both go on with one token
abbrev pub SameHead : {T : Type 0} → List T → List T → Type 0
SameHead a b = head a ≡ head b

pub same_front : {T : Type 0} (front a b : List T) → SameHead a b → SameHead (front ++ a) (front ++ b)
same_front [] a b h = h
same_front (t ∷ front) a b h = refl

pub same_sees : {T : Type 0} (test : T → Bool) (a b : List T) → SameHead a b → sees test a ≡ sees test b
same_sees test [] [] h = refl
same_sees test [] (t ∷ b) h = absurd (cc)
same_sees test (t ∷ a) [] h = absurd (cc)
same_sees test (t ∷ a) (u ∷ b) h = let same : t ≡ u = cc in ap test same

-- R says what another reader gives
abbrev pub Kept : {T X : Type 0} → (List T → Reading T X → Type 0) → List T → Reading T X → Type 0
Kept {T = T} R ts (Got x b) = (front : List T) × (ts ≡ front ++ b) × ((b' : List T) → SameHead b b' → R (front ++ b') (Got x b'))
Kept {T = T} R ts (Wrong b) = (front : List T) × (ts ≡ front ++ b) × ((b' : List T) → SameHead b b' → R (front ++ b') (Wrong b'))
Kept {T = T} R ts (Deep b) = (front : List T) × (ts ≡ front ++ b)

pub record Persists {T X : Type 0} (p q : Reader T X) : Type 0 where
  pub at : (ts : List T) → Kept (λ i o. q i ≡ o) ts (p ts)

pub kept_as : {T X : Type 0} (R S : List T → Reading T X → Type 0) (ts : List T) (o : Reading T X) → ((i : List T) (o : Reading T X) → R i o → S i o) → Kept R ts o → Kept S ts o
kept_as R S ts (Got x b) h q = (q.0, q.1, λ b' s. h _ _ (q.2 b' s))
kept_as R S ts (Wrong b) h q = (q.0, q.1, λ b' s. h _ _ (q.2 b' s))
kept_as R S ts (Deep b) h q = q

-- the first token stays
pub headed : {T X : Type 0} (R : List T → Reading T X → Type 0) (ts : List T) (o : Reading T X) → Kept (λ i o. SameHead ts i → R i o) ts o → Kept R ts o
headed R ts (Got x b) k = (k.0, k.1, λ b' s. k.2 b' s (ap head k.1 ∙ same_front k.0 b b' s))
headed R ts (Wrong b) k = (k.0, k.1, λ b' s. k.2 b' s (ap head k.1 ∙ same_front k.0 b b' s))
headed R ts (Deep b) k = k

module _ {T X Y : Type 0} (R : List T → Reading T X → Type 0) (S : X → List T → Reading T Y → Type 0) (Q : List T → Reading T Y → Type 0)
    (join : (front m : List T) (x : X) (o : Reading T Y) → R (front ++ m) (Got x m) → S x m o → Q (front ++ m) o)
    (wrong : (i b : List T) → R i (Wrong b) → Q i (Wrong b)) where
  after : (ts front m : List T) (x : X) (e : ts ≡ front ++ m) (k : (b' : List T) → SameHead m b' → R (front ++ b') (Got x b')) (o : Reading T Y) → Kept (S x) m o → Kept Q ts o
  after ts front m x e k (Got y b) h = (
    front ++ h.0,
    e ∙ ap (λ z. front ++ z) h.1 ∙ sym (append_assoc front h.0 b),
    λ b' s.
        subst (λ z. Q z (Got y b')) (sym (append_assoc front h.0 b'))
        (join front (h.0 ++ b') x (Got y b') (k (h.0 ++ b') (subst (λ z. SameHead z (h.0 ++ b')) (sym h.1) (same_front h.0 b b' s))) (h.2 b' s)),
  )
  after ts front m x e k (Wrong b) h = (
    front ++ h.0,
    e ∙ ap (λ z. front ++ z) h.1 ∙ sym (append_assoc front h.0 b),
    λ b' s.
        subst (λ z. Q z (Wrong b')) (sym (append_assoc front h.0 b'))
        (join front (h.0 ++ b') x (Wrong b') (k (h.0 ++ b') (subst (λ z. SameHead z (h.0 ++ b')) (sym h.1) (same_front h.0 b b' s))) (h.2 b' s)),
  )
  after ts front m x e k (Deep b) h = (front ++ h.0, e ∙ ap (λ z. front ++ z) h.1 ∙ sym (append_assoc front h.0 b))

  pub kept_then : (ts : List T) (f : X → Reader T Y) (r : Reading T X) → Kept R ts r
      → ((x : X) (m : List T) → r ≡ Got x m → Kept (S x) m (f x m)) → Kept Q ts (read_on r f)
  kept_then ts f (Got x m) k h = after ts k.0 m x k.1 k.2 (f x m) (h x m refl)
  kept_then ts f (Wrong b) k h = (k.0, k.1, λ b' s. wrong (k.0 ++ b') b' (k.2 b' s))
  kept_then ts f (Deep b) k h = k

pub persists_pure : {T X : Type 0} (x : X) → Persists {T = T} (pure x) (pure x)
persists_pure x = record { at = λ ts. ([], refl, λ b' s. refl) }

pub persists_bind : {T X Y : Type 0} {p q : Reader T X} {f g : X → Reader T Y} → Persists p q → ((x : X) → Persists (f x) (g x)) → Persists (p >>= f) (q >>= g)
persists_bind {T = T} {Y = Y} {p = p} {q = q} {f = f} {g = g} h k = record {
  at = λ ts.
      kept_then (λ i o. q i ≡ o) (λ x i o. g x i ≡ o) (λ i o. read_on (q i) g ≡ o)
      (λ front m x o a b. ap (λ z. read_on z g) a ∙ b) (λ i b a. ap (λ z. read_on z g) a) ts f (p ts) (h.at ts) (λ x m e. (k x).at m);
}

pub persists_next : {T X : Type 0} (test : T → Bool) {p q p' q' : Reader T X} → Persists p p' → Persists q q' → Persists (by_next test p q) (by_next test p' q')
persists_next {T = T} {X = X} test {p = p} {q = q} {p' = p'} {q' = q'} h k = record { at = λ ts. headed (λ i o. by_next test p' q' i ≡ o) ts _ (go ts (sees test ts) refl) }
  where
    go : (ts : List T) (v : Bool) → sees test ts ≡ v → Kept (λ i o. SameHead ts i → by_next test p' q' i ≡ o) ts (if v then p ts else q ts)
    go ts true e = kept_as (λ i o. p' i ≡ o) (λ i o. SameHead ts i → by_next test p' q' i ≡ o) ts (p ts) (λ i o a s. ap (λ z. if z then p' i else q' i) (sym (same_sees test ts i s) ∙ e) ∙ a) (h.at ts)
    go ts false e = kept_as (λ i o. q' i ≡ o) (λ i o. SameHead ts i → by_next test p' q' i ≡ o) ts (q ts) (λ i o a s. ap (λ z. if z then p' i else q' i) (sym (same_sees test ts i s) ∙ e) ∙ a) (k.at ts)

pub not_taken : {T X : Type 0} (test : T → Bool) (value : T → X) (b : List T) → sees test b ≡ false → take_if test value b ≡ Wrong b
not_taken test value [] e = refl
not_taken test value (t ∷ b) e = ap (λ z. if z then Got (value t) b else Wrong (t ∷ b)) e

pub persists_take_if : {T X : Type 0} (test : T → Bool) (value : T → X) → Persists (take_if test value) (take_if test value)
persists_take_if {T = T} {X = X} test value = record { at = at }
  where
    go : (t : T) (ts : List T) (v : Bool) → test t ≡ v → Kept (λ i o. take_if test value i ≡ o) (t ∷ ts) (if v then Got (value t) ts else Wrong (t ∷ ts))
    go t ts true e = (t ∷ [], refl, λ b' s. ap (λ z. if z then Got (value t) b' else Wrong (t ∷ b')) e)
    go t ts false e = ([], refl, λ b' s. not_taken test value b' (sym (same_sees test (t ∷ ts) b' s) ∙ e))

    at : (ts : List T) → Kept (λ i o. take_if test value i ≡ o) ts (take_if test value ts)
    at [] = ([], refl, λ b' s. not_taken test value b' (sym (same_sees test [] b' s)))
    at (t ∷ ts) = go t ts (test t) refl

-- q refuses what these tokens do not begin
pub persists_deep : {T X : Type 0} (test : T → Bool) {q : Reader T X} → ((ts : List T) → sees test ts ≡ false → q ts ≡ Wrong ts) → Persists (too_deep test) q
persists_deep {T = T} {X = X} test {q = q} refuses = record { at = λ ts. go ts (sees test ts) refl }
  where
    go : (ts : List T) (v : Bool) → sees test ts ≡ v → Kept {X = X} (λ i o. q i ≡ o) ts (if v then Deep ts else Wrong ts)
    go ts true e = ([], refl)
    go ts false e = ([], refl, λ b' s. refuses b' (sym (same_sees test ts b' s) ∙ e))

-- what is read takes at least one token
pub record Eats {T X : Type 0} (p : Reader T X) : Type 0 where
  pub at : (ts b : List T) (x : X) → p ts ≡ Got x b → length b < length ts

pub no_longer : {T X : Type 0} (R : List T → Reading T X → Type 0) (ts b : List T) (x : X) (o : Reading T X) → o ≡ Got x b → Kept R ts o → length b ≤ length ts
no_longer R ts b x (Got y c) e k = let same : b ≡ c = cc in rw same (omega (arith, ap length k.1, length-append k.0 c))
no_longer R ts b x (Wrong c) e k = absurd (cc)
no_longer R ts b x (Deep c) e k = absurd (cc)

-- what is left is no longer
pub record Falls {T X : Type 0} (p : Reader T X) : Type 0 where
  pub at : (ts b : List T) (x : X) → p ts ≡ Got x b → length b ≤ length ts

pub falls : {T X : Type 0} {p q : Reader T X} → Persists p q → Falls p
falls {p = p} {q = q} h = record { at = λ ts b x e. no_longer (λ i o. q i ≡ o) ts b x (p ts) e (h.at ts) }

-- where a bind gives a value, each part gave one
pub binds : {T X Y : Type 0} (o : Reading T X) (f : X → Reader T Y) (y : Y) (b : List T) → read_on o f ≡ Got y b → (x : X) × (m : List T) × (o ≡ Got x m) × (f x m ≡ Got y b)
binds (Got x m) f y b e = (x, m, refl, e)
binds (Wrong m) f y b e = absurd (cc)
binds (Deep m) f y b e = absurd (cc)

pub eats_first : {T X Y : Type 0} {p : Reader T X} {f : X → Reader T Y} → Eats p → ((x : X) → Falls (f x)) → Eats (p >>= f)
eats_first {p = p} {f = f} h k = record { at = λ ts b y e. let q = binds (p ts) f y b e in let l = h.at ts q.1 q.0 q.2 in let g = (k q.0).at q.1 b y q.3 in omega arith }

pub eats_second : {T X Y : Type 0} {p : Reader T X} {f : X → Reader T Y} → Falls p → ((x : X) → Eats (f x)) → Eats (p >>= f)
eats_second {p = p} {f = f} h k = record { at = λ ts b y e. let q = binds (p ts) f y b e in let l = h.at ts q.1 q.0 q.2 in let g = (k q.0).at q.1 b y q.3 in omega arith }

pub falls_bind : {T X Y : Type 0} {p : Reader T X} {f : X → Reader T Y} → Falls p → ((x : X) → Falls (f x)) → Falls (p >>= f)
falls_bind {p = p} {f = f} h k = record { at = λ ts b y e. let q = binds (p ts) f y b e in let l = h.at ts q.1 q.0 q.2 in let g = (k q.0).at q.1 b y q.3 in omega arith }

pub falls_pure : {T X : Type 0} (x : X) → Falls {T = T} (pure x)
falls_pure x = record { at = λ ts b y e. let same : ts ≡ b = cc in rw same (omega arith) }

pub eats_next : {T X : Type 0} (test : T → Bool) {p q : Reader T X} → Eats p → Eats q → Eats (by_next test p q)
eats_next {T = T} {X = X} test {p = p} {q = q} h k = record { at = λ ts b x. go ts b x (sees test ts) }
  where
    go : (ts b : List T) (x : X) (v : Bool) → (if v then p ts else q ts) ≡ Got x b → length b < length ts
    go ts b x true e = h.at ts b x e
    go ts b x false e = k.at ts b x e

pub eats_take_if : {T X : Type 0} (test : T → Bool) (value : T → X) → Eats (take_if test value)
eats_take_if {T = T} {X = X} test value = record { at = at }
  where
    go : (t : T) (ts b : List T) (x : X) (v : Bool) → (if v then Got (value t) ts else Wrong (t ∷ ts)) ≡ Got x b → length b < length (t ∷ ts)
    go t ts b x true e = let same : ts ≡ b = cc in rw same (omega arith)
    go t ts b x false e = absurd (cc)

    at : (ts b : List T) (x : X) → take_if test value ts ≡ Got x b → length b < length ts
    at [] b x e = absurd (cc)
    at (t ∷ ts) b x e = go t ts b x (test t) e

pub eats_deep : {T X : Type 0} (test : T → Bool) → Eats {X = X} (too_deep test)
eats_deep {T = T} {X = X} test = record { at = λ ts b x. go ts b x (sees test ts) }
  where
    go : (ts b : List T) (x : X) (v : Bool) → (if v then Deep ts else Wrong ts) ≡ Got x b → length b < length ts
    go ts b x true e = absurd (cc)
    go ts b x false e = absurd (cc)

module _ {T X : Type 0} (starts : T → Bool) {item other : Reader T X} (h : Persists item other) (eats : Eats item) where
  abbrev Again : List T → Reading T (List X) → Type 0
  Again i o = (n : ℕ) → length i ≤ n → many_from starts other n i ≡ o

  no_more : (ts b : List T) → sees starts ts ≡ false → SameHead ts b → Again b (Got [] b)
  no_more ts b e s zero le = refl
  no_more ts b e s (suc n) le = ap (λ z. if z then (other >>= λ x. many_from starts other n >>= λ xs. pure (x ∷ xs)) b else Got [] b) (sym (same_sees starts ts b s) ∙ e)

  abbrev Then : X → List T → Reading T (List X) → Type 0
  Then x i o = (k : ℕ) → length i ≤ k → (many_from starts other k >>= λ xs. pure (x ∷ xs)) i ≡ o

  rest_kept : (n : ℕ) (x : X) (m : List T) → Kept Again m (many_from starts item n m) → Kept (Then x) m ((many_from starts item n >>= λ xs. pure (x ∷ xs)) m)
  rest_kept n x m k = kept_then Again (λ xs i o. Got (x ∷ xs) i ≡ o) (Then x)
      (λ front m xs o a b k l2. rw (a k l2) b) (λ i b a k l2. rw (a k l2) refl)
      m (λ xs. pure (x ∷ xs)) (many_from starts item n m) k (λ xs m e. ([], refl, λ b' s. refl))

  abbrev Shorter : List T → Reading T X → Type 0
  Shorter i (Got x m) = length m < length i
  Shorter i (Wrong b) = Unit {0}
  Shorter i (Deep b) = Unit {0}

  abbrev Gives : List T → Reading T X → Type 0
  Gives i o = (other i ≡ o) × Shorter i o

  eaten : (ts : List T) (o : Reading T X) → item ts ≡ o → Kept (λ i o. other i ≡ o) ts o → Kept Gives ts o
  eaten ts (Got x b) e k = let l = eats.at ts b x e in
      (k.0, k.1, λ b' s. (k.2 b' s, omega (arith, l, ap length k.1, length-append k.0 b, length-append k.0 b')))
  eaten ts (Wrong b) e k = (k.0, k.1, λ b' s. (k.2 b' s, tt))
  eaten ts (Deep b) e k = k

  again_more : (i : List T) (x : X) (m : List T) (o : Reading T (List X)) → sees starts i ≡ true → other i ≡ Got x m → length m < length i → Then x m o → Again i o
  again_more i x m o e q l k zero le = absurd (omega arith)
  again_more i x m o e q l k (suc n) le = rw (e, q) (k n (omega arith))

  again_wrong : (i b : List T) → sees starts i ≡ true → other i ≡ Wrong b → Again i (Wrong b)
  again_wrong [] b e q n le = absurd (cc)
  again_wrong (u ∷ i) b e q zero le = absurd (omega arith)
  again_wrong (u ∷ i) b e q (suc n) le = rw (e, q) refl

  step_kept : (n : ℕ) (ts : List T) → length ts ≤ suc n → ((m : List T) → length m ≤ n → Kept Again m (many_from starts item n m)) → sees starts ts ≡ true
      → Kept Again ts ((item >>= λ x. many_from starts item n >>= λ xs. pure (x ∷ xs)) ts)
  step_kept n ts le ih e = headed Again ts _ (kept_then Gives Then (λ i o. SameHead ts i → Again i o)
      (λ front m x o a b c. again_more (front ++ m) x m o (sym (same_sees starts ts (front ++ m) c) ∙ e) a.0 a.1 b) (λ i b a c. again_wrong i b (sym (same_sees starts ts i c) ∙ e) a.0)
      ts (λ x. many_from starts item n >>= λ xs. pure (x ∷ xs)) (item ts) (eaten ts (item ts) refl (h.at ts))
      (λ x m q. let l = eats.at ts m x q in rest_kept n x m (ih m (omega arith))))

  turn_kept : (n : ℕ) (ts : List T) → length ts ≤ suc n → ((m : List T) → length m ≤ n → Kept Again m (many_from starts item n m)) → (v : Bool) → sees starts ts ≡ v
      → Kept Again ts (if v then (item >>= λ x. many_from starts item n >>= λ xs. pure (x ∷ xs)) ts else Got [] ts)
  turn_kept n ts le ih true e = step_kept n ts le ih e
  turn_kept n ts le ih false e = ([], refl, λ b' s. no_more ts b' e s)

  none : (ts : List T) → length ts ≤ 0 → sees starts ts ≡ false
  none [] le = refl
  none (t ∷ ts) le = absurd (omega arith)

  many_kept : (n : ℕ) (ts : List T) → length ts ≤ n → Kept Again ts (many_from starts item n ts)
  many_kept zero ts le = ([], refl, λ b' s. no_more ts b' (none ts le) s)
  many_kept (suc n) ts le = turn_kept n ts le (λ m l. many_kept n m l) (sees starts ts) refl

  pub persists_many : Persists (many starts item) (many starts other)
  persists_many = record { at = λ ts. kept_as Again (λ i o. many starts other i ≡ o) ts _ (λ i o a. a (length i) (omega arith)) (many_kept (length ts) ts (omega arith)) }
