-- What is read is spelled so, and what was read before a fault can be completed.
use Rattle.std.proofs.Common.{◌≡◌, ℕ, zero, suc, Bool, true, false, List, [], ◌∷◌, ◌++◌, length, refl, sym, ◌∙◌, ap, subst, append_assoc, if◌then◌else◌}
use Rattle.std.proofs.lemmas.List.{map-append}
use Rattle.wg_grammar.specs.Reading.{Reading, Got, Wrong, Deep, Reader, read_on, ◌>>=◌, pure, sees, take_if, too_deep, many_from, many}
use Rattle.wg_grammar.specs.Spans.{Span, Seq, None_of, Leaf, Many}
use Rattle.wg_grammar.specs.Depths.{plain, Shallow}

-- the front spells x, whatever follows
abbrev pub Words : {A X : Type 0} → (X → Span A) → X → List A → Type 0
Words {A = A} R x front = (s : List A) → R x (front ++ s) s

-- something that begins so spells something
abbrev pub Opens : {A X : Type 0} → (X → Span A) → List A → Type 0
Opens {A = A} {X = X} R front = (more : List A) × (x : X) × Words R x (front ++ more)

pub plain-append : {T D : Type 0} (a b : List (T × D)) (c : List T) → plain (a ++ b) ++ c ≡ plain a ++ (plain b ++ c)
plain-append a b c = ap (λ z. z ++ c) (map-append (λ e. e.0) a b) ∙ append_assoc (plain a) (plain b) c

-- a part, and then something that can be completed
pub then_opens : {A X Y : Type 0} (P : X → Span A) (Q : X → Y → Span A) (x : X) (a b : List A) → Words P x a → Opens (Q x) b → Opens (Seq P Q) (a ++ b)
then_opens P Q x a b w o = (o.0, o.1, λ s. (x, b ++ (o.0 ++ s), subst (λ z. P x z (b ++ (o.0 ++ s))) (sym (ap (λ z. z ++ s) (append_assoc a b o.0) ∙ append_assoc a (b ++ o.0) s ∙ ap (λ z. a ++ z) (append_assoc b o.0 s))) (w (b ++ (o.0 ++ s))), subst (λ z. Q x o.1 z s) (append_assoc b o.0 s) (o.2 s)))

-- something that can be completed, and then what may follow it
pub opens_then : {A X Y : Type 0} (P : X → Span A) (Q : X → Y → Span A) (a : List A) → Opens P a → ((x : X) → Opens (Q x) []) → Opens (Seq P Q) a
opens_then P Q a o d = let e = d o.1 in
    (o.0 ++ e.0, e.1, λ s. (o.1, e.0 ++ s, subst (λ z. P o.1 z (e.0 ++ s)) (sym (ap (λ z. z ++ s) (sym (append_assoc a o.0 e.0)) ∙ append_assoc (a ++ o.0) e.0 s)) (o.2 (e.0 ++ s)), e.2 s))

-- ok: there is room to complete what was begun
module _ (ok : Type 0) {D : Type 0} (Within : D → Type 0) where
  pub shallow-append : {T : Type 0} (a b : List (T × D)) → Shallow Within a → Shallow Within b → Shallow Within (a ++ b)
  shallow-append [] b h k = k
  shallow-append (x ∷ a) b h k = (h.0, shallow-append a b h.1 k)

  abbrev pub Says : {T X : Type 0} → (X → Span (T × D)) → List T → Reading T X → Type 0
  Says {T = T} R ts (Got x b) = (front : List (T × D)) × (ts ≡ plain front ++ b) × Shallow Within front × Words R x front
  Says {T = T} R ts (Wrong b) = (front : List (T × D)) × (ts ≡ plain front ++ b) × Shallow Within front × (ok → Opens R front)
  Says {T = T} R ts (Deep b) = (front : List (T × D)) × (ts ≡ plain front ++ b) × Shallow Within front × (t : T) × (d : D) × (rest : List T) × (b ≡ t ∷ rest) × (Within d → ⊥) × (ok → Opens R (front ++ ((t, d) ∷ [])))

  -- and something is spelled so
  pub record Fine {T X : Type 0} (p : Reader T X) (R : X → Span (T × D)) : Type 0 where
    pub says : (ts : List T) → Says R ts (p ts)
    pub opens : ok → Opens R []

  module _ {T X Y : Type 0} (P : X → Span (T × D)) (Q : X → Y → Span (T × D)) where
    second : (ts : List T) (front : List (T × D)) (m : List T) (x : X) → ts ≡ plain front ++ m → Shallow Within front → Words P x front → (o : Reading T Y) → Says (Q x) m o → Says (Seq P Q) ts o
    second ts front m x e l w (Got y b) h = (front ++ h.0, e ∙ ap (λ z. plain front ++ z) h.1 ∙ sym (plain-append front h.0 b), shallow-append front h.0 l h.2, λ s. (x, h.0 ++ s, subst (λ z. P x z (h.0 ++ s)) (sym (append_assoc front h.0 s)) (w (h.0 ++ s)), h.3 s))
    second ts front m x e l w (Wrong b) h = (front ++ h.0, e ∙ ap (λ z. plain front ++ z) h.1 ∙ sym (plain-append front h.0 b), shallow-append front h.0 l h.2, λ k. then_opens P Q x front h.0 w (h.3 k))
    second ts front m x e l w (Deep b) h = (front ++ h.0, e ∙ ap (λ z. plain front ++ z) h.1 ∙ sym (plain-append front h.0 b), shallow-append front h.0 l h.2, h.3, h.4, h.5, h.6, h.7, λ k. subst (λ z. Opens (Seq P Q) z) (sym (append_assoc front h.0 ((h.3, h.4) ∷ []))) (then_opens P Q x front (h.0 ++ ((h.3, h.4) ∷ [])) w (h.8 k)))

    pub says_then : (ts : List T) (f : X → Reader T Y) (r : Reading T X) → Says P ts r → ((x : X) → Fine (f x) (Q x)) → Says (Seq P Q) ts (read_on r f)
    says_then ts f (Got x m) k h = second ts k.0 m x k.1 k.2 k.3 (f x m) ((h x).says m)
    says_then ts f (Wrong b) k h = (k.0, k.1, k.2, λ z. opens_then P Q k.0 (k.3 z) (λ x. (h x).opens z))
    says_then ts f (Deep b) k h = (k.0, k.1, k.2, k.3, k.4, k.5, k.6, k.7, λ z. opens_then P Q (k.0 ++ ((k.3, k.4) ∷ [])) (k.8 z) (λ x. (h x).opens z))

  pub says_as : {T X : Type 0} (P Q : X → Span (T × D)) → ((x : X) (i r : List (T × D)) → P x i r → Q x i r) → (ts : List T) (o : Reading T X) → Says P ts o → Says Q ts o
  says_as P Q h ts (Got x b) k = (k.0, k.1, k.2, λ s. h x _ s (k.3 s))
  says_as P Q h ts (Wrong b) k = (k.0, k.1, k.2, λ z. let o = k.3 z in (o.0, o.1, λ s. h o.1 _ s (o.2 s)))
  says_as P Q h ts (Deep b) k = (k.0, k.1, k.2, k.3, k.4, k.5, k.6, k.7, λ z. let o = k.8 z in (o.0, o.1, λ s. h o.1 _ s (o.2 s)))

  pub fine_bind : {T X Y : Type 0} {P : X → Span (T × D)} {Q : X → Y → Span (T × D)} {p : Reader T X} {f : X → Reader T Y} → Fine p P → ((x : X) → Fine (f x) (Q x)) → Fine (p >>= f) (Seq P Q)
  fine_bind {P = P} {Q = Q} {p = p} {f = f} a b = record { says = λ ts. says_then P Q ts f (p ts) (a.says ts) b; opens = λ z. opens_then P Q [] (a.opens z) (λ x. (b x).opens z) }

  pub fine_as : {T X : Type 0} {P Q : X → Span (T × D)} {p : Reader T X} → ((x : X) (i r : List (T × D)) → P x i r → Q x i r) → Fine p P → Fine p Q
  fine_as {P = P} {Q = Q} {p = p} h f = record { says = λ ts. says_as P Q h ts (p ts) (f.says ts); opens = λ z. let o = f.opens z in (o.0, o.1, λ s. h o.1 _ s (o.2 s)) }

  pub fine_same : {T X : Type 0} {p q : Reader T X} {R : X → Span (T × D)} → ((ts : List T) → p ts ≡ q ts) → Fine q R → Fine p R
  fine_same {R = R} h k = record { says = λ ts. subst (λ o. Says R ts o) (sym (h ts)) (k.says ts); opens = k.opens }

  pub fine_pure : {T X : Type 0} (x : X) → Fine {T = T} (pure x) (None_of x)
  fine_pure x = record { says = λ ts. ([], refl, tt, λ s. (refl, refl)); opens = λ z. ([], x, λ s. (refl, refl)) }

  pub fine_if : {T X : Type 0} (decide : List T → Bool) {p q : Reader T X} {R : X → Span (T × D)} → Fine p R → Fine q R → Fine (λ ts. if decide ts then p ts else q ts) R
  fine_if {T = T} decide {p = p} {q = q} {R = R} a b = record { says = λ ts. go (decide ts) ts; opens = a.opens }
    where
      go : (v : Bool) (ts : List T) → Says R ts (if v then p ts else q ts)
      go true ts = a.says ts
      go false ts = b.says ts

  -- d is the depth of the token, and t is one of these
  module _ {T X : Type 0} (test : T → Bool) (value : T → X) (d : D) (t : T) (e : test t ≡ true) where
    token_opens : Opens (Leaf test value d) []
    token_opens = ((t, d) ∷ [], value t, λ s. (t, e, refl, refl))

    pub fine_take : Within d → Fine (take_if test value) (Leaf test value d)
    fine_take w = record { says = says; opens = λ k. token_opens }
      where
        go : (u : T) (ts : List T) (v : Bool) → test u ≡ v → Says (Leaf test value d) (u ∷ ts) (if v then Got (value u) ts else Wrong (u ∷ ts))
        go u ts true g = ((u, d) ∷ [], refl, (w, tt), λ s. (u, g, refl, refl))
        go u ts false g = ([], refl, tt, λ k. token_opens)

        says : (ts : List T) → Says (Leaf test value d) ts (take_if test value ts)
        says [] = ([], refl, tt, λ k. token_opens)
        says (u ∷ ts) = go u ts (test u) refl

  -- no room: what such a token begins can be completed
  pub fine_deep : {T X : Type 0} (test : T → Bool) {R : X → Span (T × D)} → (ok → Opens R []) → ((t : T) → test t ≡ true → (d : D) × (Within d → ⊥) × (ok → Opens R ((t, d) ∷ []))) → Fine (too_deep test) R
  fine_deep {T = T} test {R = R} o h = record { says = says; opens = o }
    where
      go : (u : T) (ts : List T) (v : Bool) → test u ≡ v → Says R (u ∷ ts) (if v then Deep (u ∷ ts) else Wrong (u ∷ ts))
      go u ts true g = let k = h u g in ([], refl, tt, u, k.0, ts, refl, k.1, k.2)
      go u ts false g = ([], refl, tt, o)

      says : (ts : List T) → Says R ts (too_deep test ts)
      says [] = ([], refl, tt, o)
      says (u ∷ ts) = go u ts (test u) refl

  module _ {T X : Type 0} (starts : T → Bool) {item : Reader T X} {R : X → Span (T × D)} (h : Fine item R) where
    abbrev Cons : X → List X → Span (T × D)
    Cons x = Seq (Many R) (λ xs. None_of (x ∷ xs))

    joined : (ys : List X) (i r : List (T × D)) → Seq R Cons ys i r → Many R ys i r
    joined ys i r q = let w = q.3 in subst (λ zs. Many R zs i r) (sym w.3.0) (q.1, q.2, subst (λ z. Many R w.0 q.1 z) w.3.1 w.2)

    no_item : ok → Opens (Many R) []
    no_item z = ([], [], λ s. refl)

    turn : (n : ℕ) (ts : List T) → ((us : List T) → Says (Many R) us (many_from starts item n us)) → (v : Bool)
        → Says (Many R) ts (if v then (item >>= λ x. many_from starts item n >>= λ xs. pure (x ∷ xs)) ts else Got [] ts)
    turn n ts ih true = says_as (Seq R Cons) (Many R) joined ts _
        ((fine_bind {Q = Cons} h (λ x. fine_bind {P = Many R} (record { says = ih; opens = no_item }) (λ xs. fine_pure (x ∷ xs)))).says ts)
    turn n ts ih false = ([], refl, tt, λ s. refl)

    items_say : (n : ℕ) (ts : List T) → Says (Many R) ts (many_from starts item n ts)
    items_say zero ts = ([], refl, tt, λ s. refl)
    items_say (suc n) ts = turn n ts (items_say n) (sees starts ts)

    pub fine_many : Fine (many starts item) (Many R)
    fine_many = record { says = λ ts. items_say (length ts) ts; opens = no_item }
