-- What is spelled is read, whatever follows that the reader would not take too.
use Rattle.std.proofs.Common.{inl, inr, ◌≡◌, ℕ, zero, suc, ◌≤◌, Bool, true, false, List, [], ◌∷◌, length, refl, sym, ◌∙◌, ap, subst, arith, if◌then◌else◌}
use Rattle.wg_grammar.specs.Reading.{by_next, Got, Wrong, Reader, read_on, ◌>>=◌, pure, sees, take_if, many_from, many}
use Rattle.wg_grammar.specs.Spans.{Span, Seq, None_of, Leaf, Many, ◌or◌}
use Rattle.wg_grammar.specs.Depths.{plain}
use Rattle.wg_grammar.proofs.Kept.{Eats}

-- F: what may follow a tree
pub record Full {T D X : Type 0} (p : Reader T X) (P : X → Span (T × D)) (F : X → List T → Type 0) : Type 0 where
  pub reads : (x : X) (i r : List (T × D)) → P x i r → F x (plain r) → p (plain i) ≡ Got x (plain r)

-- the rest begins with no such token
abbrev pub Ends : {T : Type 0} → (T → Bool) → List T → Type 0
Ends test ts = sees test ts ≡ false

pub full_pure : {T D X : Type 0} (x : X) {F : X → List T → Type 0} → Full {D = D} (pure x) (None_of x) F
full_pure x = record { reads = λ y i r h f. rw (h.0, h.1) refl }

pub full_bind : {T D X Y : Type 0} {p : Reader T X} {f : X → Reader T Y} {P : X → Span (T × D)} {Q : X → Y → Span (T × D)} {FP : X → List T → Type 0} {F : Y → List T → Type 0}
    → Full p P FP → ((x : X) → Full (f x) (Q x) F) → ((x : X) (y : Y) (m r : List (T × D)) → Q x y m r → F y (plain r) → FP x (plain m)) → Full (p >>= f) (Seq P Q) F
full_bind {f = f} a b c = record { reads = λ y i r h k. ap (λ z. read_on z f) (a.reads h.0 i h.1 h.2 (c h.0 y h.1 r h.3 k)) ∙ (b h.0).reads y h.1 r h.3 k }

pub full_take : {T D X : Type 0} {d : D} (test : T → Bool) (value : T → X) {F : X → List T → Type 0} → Full (take_if test value) (Leaf test value d) F
full_take test value = record { reads = λ x i r h k. ap (λ z. take_if test value (plain z)) h.3 ∙ ap (λ z. if z then Got (value h.0) (plain r) else Wrong (h.0 ∷ plain r)) h.1 ∙ ap (λ z. Got z (plain r)) (sym h.2) }

pub full_for : {T D X : Type 0} {p : Reader T X} {P : X → Span (T × D)} {F G : X → List T → Type 0} → ((x : X) (ts : List T) → G x ts → F x ts) → Full p P F → Full p P G
full_for h a = record { reads = λ x i r k g. a.reads x i r k (h x (plain r) g) }

module _ {T D X : Type 0} (starts : T → Bool) {item : Reader T X} {R : X → Span (T × D)} {FI : List T → Type 0}
    (h : Full item R (λ _ ts. FI ts)) (eats : Eats item) (first : (x : X) (i r : List (T × D)) → R x i r → sees starts (plain i) ≡ true) (next : (m : List T) → sees starts m ≡ true → FI m) where
  done : (n : ℕ) (r : List T) → Ends starts r → many_from starts item n r ≡ Got [] r
  done zero r e = refl
  done (suc n) r e = rw e refl

  follows : (xs : List X) (m r : List (T × D)) → Many R xs m r → FI (plain r) → FI (plain m)
  follows [] m r k f = subst (λ z. FI (plain z)) (sym k) f
  follows (x ∷ xs) m r k f = next (plain m) (first x m k.0 k.1)

  turn : (n : ℕ) (ts m r : List T) (x : X) (xs : List X) → length ts ≤ n → sees starts ts ≡ true → item ts ≡ Got x m → ((k : ℕ) → length m ≤ k → many_from starts item k m ≡ Got xs r)
      → many_from starts item n ts ≡ Got (x ∷ xs) r
  turn zero [] m r x xs le s e ih = absurd (cc)
  turn zero (t ∷ ts) m r x xs le s e ih = absurd (omega arith)
  turn (suc n) ts m r x xs le s e ih = let l = eats.at ts m x e in let g = ih n (omega arith) in rw (s, e, g) refl

  all_read : (xs : List X) (i r : List (T × D)) → Many R xs i r → Ends starts (plain r) → FI (plain r) → (n : ℕ) → length (plain i) ≤ n → many_from starts item n (plain i) ≡ Got xs (plain r)
  all_read [] i r k e f n le = rw k (done n (plain r) e)
  all_read (x ∷ xs) i r k e f n le =
      turn n (plain i) (plain k.0) (plain r) x xs le (first x i k.0 k.1) (h.reads x i k.0 k.1 (follows xs k.0 r k.2 f)) (all_read xs k.0 r k.2 e f)

  pub full_many : Full (many starts item) (Many R) (λ _ ts. Ends starts ts × FI ts)
  full_many = record { reads = λ xs i r k f. all_read xs i r k f.0 f.1 _ (omega arith) }

-- the one or the other, by the next token
pub full_next : {T D X : Type 0} (test : T → Bool) {p q : Reader T X} {P Q : X → Span (T × D)} {F : X → List T → Type 0} → Full p P F → Full q Q F
    → ((x : X) (i r : List (T × D)) → P x i r → sees test (plain i) ≡ true) → ((x : X) (i r : List (T × D)) → Q x i r → sees test (plain i) ≡ false) → Full (by_next test p q) (P or Q) F
full_next test {p = p} {q = q} a b first second = record {
  reads = λ x i r h f. elim h [
    | inl u ↦ ap (λ z. if z then p (plain i) else q (plain i)) (first x i r u) ∙ a.reads x i r u f
    | inr u ↦ ap (λ z. if z then p (plain i) else q (plain i)) (second x i r u) ∙ b.reads x i r u f
  ];
}
