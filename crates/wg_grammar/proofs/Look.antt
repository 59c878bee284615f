-- Readers that look at several tokens.
use Rattle.std.proofs.Common.{◌≡◌, ℕ, zero, suc, ◌+◌, ◌<◌, ◌≤◌, Bool, true, false, ◌&&◌, List, [], ◌∷◌, ◌++◌, length, refl, sym, ◌∙◌, ap, subst, length-append, arith, if◌then◌else◌, inl, inr}
use Rattle.wg_grammar.specs.Spans.{Span, ◌or◌}
use Rattle.wg_grammar.specs.Reading.{Reading, Got, Wrong, Deep, Reader, begins_with, look}
use Rattle.wg_grammar.specs.Depths.{plain}
use Rattle.wg_grammar.specs.TakesTokens.{TakesTokens, matched}
use Rattle.wg_grammar.proofs.Kept.{SameHead, Kept, Persists, Eats}
use Rattle.wg_grammar.proofs.Full.{Full}

pub takes_none : {T X : Type 0} {p q : Reader T X} → Persists p q → (ts : List T) → TakesTokens 0 ts (p ts)
takes_none {T = T} {X = X} {p = p} {q = q} h ts = go (p ts) (h.at ts)
  where
    go : (o : Reading T X) → Kept (λ i o. q i ≡ o) ts o → TakesTokens 0 ts o
    go (Got x b) k = omega (arith, ap length k.1, length-append k.0 b)
    go (Wrong b) k = omega (arith, ap length k.1, length-append k.0 b)
    go (Deep b) k = tt

module _ {T : Type 0} where
  pub same_failure : (tests : List (T → Bool)) (front b b' : List T) → begins_with tests (front ++ b) ≡ false → matched tests (front ++ b) ≤ length front → SameHead b b' → begins_with tests (front ++ b') ≡ false
  same_failure [] front b b' e l s = absurd (cc)
  same_failure (f ∷ fs) [] [] [] e l s = refl
  same_failure (f ∷ fs) [] [] (u ∷ b') e l s = absurd (cc)
  same_failure (f ∷ fs) [] (t ∷ b) [] e l s = refl
  same_failure (f ∷ fs) [] (t ∷ b) (u ∷ b') e l s = go (f t) refl l
    where
      go : (v : Bool) → f t ≡ v → (if v then suc (matched fs b) else 0) ≤ 0 → (f u && begins_with fs b') ≡ false
      go true q l = absurd (omega arith)
      go false q l = let same : t ≡ u = cc in ap (λ z. f z && begins_with fs b') (sym same) ∙ ap (λ z. z && begins_with fs b') q
  same_failure (f ∷ fs) (t ∷ front) b b' e l s = go (f t) e l (λ a c. same_failure fs front b b' a c s)
    where
      go : (v : Bool) → (v && begins_with fs (front ++ b)) ≡ false → (if v then suc (matched fs (front ++ b)) else 0) ≤ length (t ∷ front) → (begins_with fs (front ++ b) ≡ false → matched fs (front ++ b) ≤ length front → begins_with fs (front ++ b') ≡ false)
          → (v && begins_with fs (front ++ b')) ≡ false
      go true a c h = h a (omega arith)
      go false a c h = refl

  pub same_success : (tests : List (T → Bool)) (front b b' : List T) → begins_with tests (front ++ b) ≡ true → length tests ≤ suc (length front) → SameHead b b' → begins_with tests (front ++ b') ≡ true
  same_success [] front b b' e l s = refl
  same_success (f ∷ fs) [] [] b' e l s = absurd (cc)
  same_success (f ∷ []) [] (t ∷ b) [] e l s = absurd (cc)
  same_success (f ∷ []) [] (t ∷ b) (u ∷ b') e l s = let same : t ≡ u = cc in ap (λ z. f z && true) (sym same) ∙ e
  same_success (f ∷ (g ∷ fs)) [] (t ∷ b) b' e l s = absurd (omega arith)
  same_success (f ∷ fs) (t ∷ front) b b' e l s = go (f t) e (λ a. same_success fs front b b' a (omega arith) s)
    where
      go : (v : Bool) → (v && begins_with fs (front ++ b)) ≡ true → (begins_with fs (front ++ b) ≡ true → begins_with fs (front ++ b') ≡ true) → (v && begins_with fs (front ++ b')) ≡ true
      go true a h = h a
      go false a h = absurd (cc)

  -- the alternatives agree as far as a reader can tell them apart
  module _ {X : Type 0} (tests : List (T → Bool)) {p q p' q' : Reader T X} (h : Persists p p') (k : Persists q q')
      (taken : (ts : List T) → begins_with tests ts ≡ true → (n : ℕ) → length tests ≡ suc n → TakesTokens n ts (p ts)) (other : (ts : List T) → begins_with tests ts ≡ false → TakesTokens (matched tests ts) ts (q ts)) where
    fewer : (n : ℕ) (front b : List T) (ts : List T) → ts ≡ front ++ b → n + length b ≤ length ts → n ≤ length front
    fewer n front b ts e l = omega (arith, ap length e, length-append front b)

    on : (i : List T) (o : Reading T X) → begins_with tests i ≡ true → p' i ≡ o → look tests p' q' i ≡ o
    on i o e a = ap (λ z. if z then p' i else q' i) e ∙ a

    off : (i : List T) (o : Reading T X) → begins_with tests i ≡ false → q' i ≡ o → look tests p' q' i ≡ o
    off i o e a = ap (λ z. if z then p' i else q' i) e ∙ a

    enough : (ts front b : List T) → ts ≡ front ++ b → ((n : ℕ) → length tests ≡ suc n → n + length b ≤ length ts) → length tests ≤ suc (length front)
    enough ts front b e g = go (length tests) refl
      where
        go : (m : ℕ) → length tests ≡ m → length tests ≤ suc (length front)
        go zero q = omega arith
        go (suc n) q = let l = fewer n front b ts e (g n q) in omega arith

    kept_on : (ts : List T) → begins_with tests ts ≡ true → (o : Reading T X) → ((n : ℕ) → length tests ≡ suc n → TakesTokens n ts o) → Kept (λ i o. p' i ≡ o) ts o → Kept (λ i o. look tests p' q' i ≡ o) ts o
    kept_on ts e (Got x b) g c = (c.0, c.1, λ b' s. on (c.0 ++ b') (Got x b') (same_success tests c.0 b b' (ap (begins_with tests) (sym c.1) ∙ e) (enough ts c.0 b c.1 g) s) (c.2 b' s))
    kept_on ts e (Wrong b) g c = (c.0, c.1, λ b' s. on (c.0 ++ b') (Wrong b') (same_success tests c.0 b b' (ap (begins_with tests) (sym c.1) ∙ e) (enough ts c.0 b c.1 g) s) (c.2 b' s))
    kept_on ts e (Deep b) g c = c

    kept_off : (ts : List T) → begins_with tests ts ≡ false → (o : Reading T X) → TakesTokens (matched tests ts) ts o → Kept (λ i o. q' i ≡ o) ts o → Kept (λ i o. look tests p' q' i ≡ o) ts o
    kept_off ts e (Got x b) g c = (c.0, c.1, λ b' s. off (c.0 ++ b') (Got x b') (same_failure tests c.0 b b' (ap (begins_with tests) (sym c.1) ∙ e) (subst (λ z. matched tests z ≤ length c.0) c.1 (fewer (matched tests ts) c.0 b ts c.1 g)) s) (c.2 b' s))
    kept_off ts e (Wrong b) g c = (c.0, c.1, λ b' s. off (c.0 ++ b') (Wrong b') (same_failure tests c.0 b b' (ap (begins_with tests) (sym c.1) ∙ e) (subst (λ z. matched tests z ≤ length c.0) c.1 (fewer (matched tests ts) c.0 b ts c.1 g)) s) (c.2 b' s))
    kept_off ts e (Deep b) g c = c

    pub persists_look : Persists (look tests p q) (look tests p' q')
    persists_look = record { at = λ ts. go ts (begins_with tests ts) refl }
      where
        go : (ts : List T) (v : Bool) → begins_with tests ts ≡ v → Kept (λ i o. look tests p' q' i ≡ o) ts (if v then p ts else q ts)
        go ts true e = kept_on ts e (p ts) (taken ts e) (h.at ts)
        go ts false e = kept_off ts e (q ts) (other ts e) (k.at ts)

  pub eats_look : {X : Type 0} (tests : List (T → Bool)) {p q : Reader T X} → Eats p → Eats q → Eats (look tests p q)
  eats_look {X = X} tests {p = p} {q = q} h k = record { at = λ ts b x. go ts b x (begins_with tests ts) }
    where
      go : (ts b : List T) (x : X) (v : Bool) → (if v then p ts else q ts) ≡ Got x b → length b < length ts
      go ts b x true e = h.at ts b x e
      go ts b x false e = k.at ts b x e

  pub full_look : {D X : Type 0} (tests : List (T → Bool)) {p q : Reader T X} {P Q : X → Span (T × D)} {F : X → List T → Type 0}
      → Full p P F → Full q Q F → ((x : X) (i r : List (T × D)) → P x i r → begins_with tests (plain i) ≡ true) → ((x : X) (i r : List (T × D)) → Q x i r → F x (plain r) → begins_with tests (plain i) ≡ false)
      → Full (look tests p q) (P or Q) F
  full_look tests {p = p} {q = q} a b first second = record {
    reads = λ x i r h f. elim h [
      | inl u ↦ ap (λ z. if z then p (plain i) else q (plain i)) (first x i r u) ∙ a.reads x i r u f
      | inr u ↦ ap (λ z. if z then p (plain i) else q (plain i)) (second x i r u f) ∙ b.reads x i r u f
    ];
  }
