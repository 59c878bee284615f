-- How many tokens a reader took, also where it stops at one that is too deep.
use Rattle.std.proofs.Common.{◌≡◌, ℕ, zero, suc, ◌+◌, ◌≤◌, true, false, List, ◌∷◌, ◌++◌, length, refl, subst, length-append, arith, if◌then◌else◌, ap, ◌∙◌, sym, ◌&&◌, Bool, []}
use Rattle.wg_grammar.specs.Reading.{Reading, Got, Wrong, Deep, Reader, read_on, ◌>>=◌, pure, sees, begins_with, look}
use Rattle.wg_grammar.specs.TakesTokens.{TakesTokens, matched}
use Rattle.wg_grammar.specs.Productions.{Production, give, token, apply, either, Edges, Readers, of, first, reads, decides}
use Rattle.wg_grammar.proofs.PartKept.{Grows, part_persists}
use Rattle.wg_grammar.proofs.Kept.{Kept, Persists}
use Rattle.wg_grammar.proofs.Sets.{both_true}
use Rattle.wg_grammar.proofs.Look.{same_success, same_failure}

-- at least k tokens of ts
abbrev pub Far : {T X : Type 0} → ℕ → List T → Reading T X → Type 0
Far k ts (Got x b) = k + length b ≤ length ts
Far k ts (Wrong b) = k + length b ≤ length ts
Far k ts (Deep b) = k + length b ≤ length ts

pub far_none : {T X : Type 0} {p q : Reader T X} → Persists p q → (ts : List T) → Far 0 ts (p ts)
far_none {T = T} {X = X} {p = p} {q = q} h ts = go (p ts) (h.at ts)
  where
    go : (o : Reading T X) → Kept (λ i o. q i ≡ o) ts o → Far 0 ts o
    go (Got x b) k = omega (arith, ap length k.1, length-append k.0 b)
    go (Wrong b) k = omega (arith, ap length k.1, length-append k.0 b)
    go (Deep b) k = omega (arith, ap length k.1, length-append k.0 b)

pub far_then : {T X Y : Type 0} (k : ℕ) (ts : List T) (o : Reading T X) (f : X → Reader T Y) → Far k ts o → ((x : X) (m : List T) → Far 0 m (f x m)) → Far k ts (read_on o f)
far_then {T = T} {Y = Y} k ts (Got x m) f h g = go (f x m) (g x m)
  where
    go : (o : Reading T Y) → Far 0 m o → Far k ts o
    go (Got y b) l = omega arith
    go (Wrong b) l = omega arith
    go (Deep b) l = omega arith
far_then k ts (Wrong b) f h g = h
far_then k ts (Deep b) f h g = h

-- more where something was left before
pub far_more : {T X : Type 0} (j k : ℕ) (ts us : List T) (o : Reading T X) → j + length us ≤ length ts → Far k us o → Far (j + k) ts o
far_more j k ts us (Got x b) l h = omega arith
far_more j k ts us (Wrong b) l h = omega arith
far_more j k ts us (Deep b) l h = omega arith

pub far_next : {T X : Type 0} (k : ℕ) (t : T) (ts : List T) (o : Reading T X) → Far k ts o → Far (suc k) (t ∷ ts) o
far_next k t ts (Got x b) h = omega arith
far_next k t ts (Wrong b) h = omega arith
far_next k t ts (Deep b) h = omega arith

-- the one test that is left has failed
pub none_matched : {T : Type 0} (test : T → Bool) (ts : List T) → begins_with (test ∷ []) ts ≡ false → matched (test ∷ []) ts ≡ 0
none_matched test [] b = refl
none_matched test (t ∷ ts) b = go (test t) b
  where
    go : (v : Bool) → (v && true) ≡ false → ◌≡◌ {A = ℕ} (if v then 1 else 0) 0
    go true b = absurd (cc)
    go false b = refl

pub far_takes : {T X : Type 0} (k : ℕ) (ts : List T) (o : Reading T X) → Far k ts o → TakesTokens k ts o
far_takes k ts (Got x b) h = h
far_takes k ts (Wrong b) h = h
far_takes k ts (Deep b) h = tt

-- where it stops, that many tokens stand before
pub far_stop : {T X : Type 0} (k : ℕ) (front : List T) (t : T) (rest : List T) (o : Reading T X) → Far k (front ++ t ∷ rest) o → o ≡ Deep (t ∷ rest) → k ≤ length front
far_stop k front t rest (Got x b) h e = absurd (cc)
far_stop k front t rest (Wrong b) h e = absurd (cc)
far_stop k front t rest (Deep b) h e = let same : b ≡ t ∷ rest = cc in omega (arith, h, ap length same, length-append front (t ∷ rest))

-- where the first alternative stops, the tokens that tell them apart stand before
abbrev pub StopsOn : {T X : Type 0} → List (T → Bool) → Reader T X → Reader T X → Type 0
StopsOn {T = T} tests p q = (front : List T) (t : T) (rest ts : List T) → begins_with tests (front ++ t ∷ rest) ≡ true → p (front ++ t ∷ rest) ≡ Deep (t ∷ rest) → p (front ++ t ∷ ts) ≡ Deep (t ∷ ts) → look tests p q (front ++ t ∷ ts) ≡ Deep (t ∷ ts)

abbrev pub StopsOff : {T X : Type 0} → List (T → Bool) → Reader T X → Reader T X → Type 0
StopsOff {T = T} tests p q = (front : List T) (t : T) (rest ts : List T) → begins_with tests (front ++ t ∷ rest) ≡ false → q (front ++ t ∷ rest) ≡ Deep (t ∷ rest) → q (front ++ t ∷ ts) ≡ Deep (t ∷ ts) → look tests p q (front ++ t ∷ ts) ≡ Deep (t ∷ ts)

module _ {T X : Type 0} (tests : List (T → Bool)) (p q : Reader T X) where
  -- where it stops, it has taken what tells the alternatives apart
  pub far_on : ((ts : List T) → begins_with tests ts ≡ true → (n : ℕ) → length tests ≡ suc n → Far n ts (p ts)) → StopsOn tests p q
  far_on h front t rest ts e g k = ap (λ z. if z then p (front ++ t ∷ ts) else q (front ++ t ∷ ts)) (same_success tests front (t ∷ rest) (t ∷ ts) e (enough (length tests) refl) refl) ∙ k
    where
      enough : (m : ℕ) → length tests ≡ m → length tests ≤ suc (length front)
      enough zero l = omega arith
      enough (suc n) l = let f = far_stop n front t rest (p (front ++ t ∷ rest)) (h (front ++ t ∷ rest) e n l) g in omega arith

  pub far_off : ((ts : List T) → begins_with tests ts ≡ false → Far (matched tests ts) ts (q ts)) → StopsOff tests p q
  far_off h front t rest ts e g k = ap (λ z. if z then p (front ++ t ∷ ts) else q (front ++ t ∷ ts)) (same_failure tests front (t ∷ rest) (t ∷ ts) e (far_stop (matched tests (front ++ t ∷ rest)) front t rest (q (front ++ t ∷ rest)) (h (front ++ t ∷ rest) e) g) refl) ∙ k

-- where the first test passes, it stops at once
module _ {T X : Type 0} (test : T → Bool) (tests : List (T → Bool)) (p : Reader T X) (shut : (t : T) (ts : List T) → test t ≡ true → p (t ∷ ts) ≡ Deep (t ∷ ts)) where
  pub shut_taken : (ts : List T) → begins_with (test ∷ tests) ts ≡ true → (n : ℕ) → TakesTokens n ts (p ts)
  shut_taken [] b n = absurd (cc)
  shut_taken (t ∷ ts) b n = subst (λ o. TakesTokens n (t ∷ ts) o) (sym (shut t ts (both_true (test t) (begins_with tests ts) b).0)) tt

  pub shut_other : ((ts : List T) → TakesTokens 0 ts (p ts)) → (ts : List T) → TakesTokens (matched (test ∷ tests) ts) ts (p ts)
  shut_other least [] = least []
  shut_other least (t ∷ ts) = go (test t) refl
    where
      go : (v : Bool) → test t ≡ v → TakesTokens (if v then suc (matched tests ts) else 0) (t ∷ ts) (p (t ∷ ts))
      go true q = subst (λ o. TakesTokens (suc (matched tests ts)) (t ∷ ts) o) (sym (shut t ts q)) tt
      go false q = least (t ∷ ts)

-- where the first test passes, both stop at once
module _ {T X : Type 0} (test : T → Bool) (tests : List (T → Bool)) (p q : Reader T X) (P : (t : T) (ts : List T) → test t ≡ true → p (t ∷ ts) ≡ Deep (t ∷ ts)) (Q : (t : T) (ts : List T) → test t ≡ true → q (t ∷ ts) ≡ Deep (t ∷ ts)) where
  first_of_all : (front : List T) (t : T) (rest ts : List T) → (c : T) × (us vs : List T) × (front ++ t ∷ rest ≡ c ∷ us) × (front ++ t ∷ ts ≡ c ∷ vs)
  first_of_all [] t rest ts = (t, rest, ts, refl, refl)
  first_of_all (c ∷ front) t rest ts = (c, front ++ t ∷ rest, front ++ t ∷ ts, refl, refl)

  at_once : (v : Bool) (c : T) (vs : List T) (b : List T) → test c ≡ true → (p (c ∷ vs) ≡ Deep b) → (if v then p (c ∷ vs) else q (c ∷ vs)) ≡ Deep b
  at_once true c vs b s k = k
  at_once false c vs b s k = Q c vs s ∙ sym (P c vs s) ∙ k

  at_once_too : (v : Bool) (c : T) (vs : List T) (b : List T) → test c ≡ true → (q (c ∷ vs) ≡ Deep b) → (if v then p (c ∷ vs) else q (c ∷ vs)) ≡ Deep b
  at_once_too true c vs b s k = P c vs s ∙ sym (Q c vs s) ∙ k
  at_once_too false c vs b s k = k

  pub shut_on : StopsOn (test ∷ tests) p q
  shut_on front t rest ts e g k =
      let a = first_of_all front t rest ts in
      let s : test a.0 ≡ true = (both_true (test a.0) (begins_with tests a.1) (ap (begins_with (test ∷ tests)) (sym a.3) ∙ e)).0 in
      ap (look (test ∷ tests) p q) a.4 ∙ at_once (begins_with (test ∷ tests) (a.0 ∷ a.2)) a.0 a.2 (t ∷ ts) s (ap p (sym a.4) ∙ k)

  pub shut_off : StopsOff (test ∷ tests) p q
  shut_off front t rest ts e g k =
      let a = first_of_all front t rest ts in
      ap (look (test ∷ tests) p q) a.4 ∙ go a.0 a.2 (test a.0) refl (ap q (sym a.4) ∙ k)
    where
      go : (c : T) (vs : List T) (v : Bool) → test c ≡ v → q (c ∷ vs) ≡ Deep (t ∷ ts) → look (test ∷ tests) p q (c ∷ vs) ≡ Deep (t ∷ ts)
      go c vs true s k = at_once_too (begins_with (test ∷ tests) (c ∷ vs)) c vs (t ∷ ts) s k
      go c vs false s k = ap (λ z. if (z && begins_with tests vs) then p (c ∷ vs) else q (c ∷ vs)) s ∙ k

-- ---- parts of a grammar

module _ {T N : Type 0} {Of : N → Type 0} (class : T → ℕ) (edges : Edges N) (example : ℕ → T) (E : Readers T N Of) (self : Grows E E) where
  pub far_part : {X : Type 0} (p : Production T N Of X) → decides class edges example p ≡ true → (m : List T) → Far 0 m (reads class edges E p m)
  far_part p d m = far_none (part_persists class edges example E E self p d) m

  pub far_token : {X : Type 0} (set : List ℕ) (value : T → X) (n : T) (ts : List T) → of class set n ≡ true → Far 1 (n ∷ ts) (reads class edges E (token false set value) (n ∷ ts))
  far_token {X = X} set value n ts e = subst (λ z. Far {X = X} 1 (n ∷ ts) (if z then Got (value n) ts else Wrong (n ∷ ts))) (sym e) (omega arith)

  pub far_give : {X Y : Type 0} (f : X → Y) (q : Production T N Of X) (k : ℕ) (ts : List T) → Far k ts (reads class edges E q ts) → Far k ts (reads class edges E (apply (give f) q) ts)
  far_give f q k ts h = far_then k ts (reads class edges E q ts) (λ x. pure (f x)) h (λ x m. omega arith)

  pub far_apply : {X Y : Type 0} (p : Production T N Of (X → Y)) (q : Production T N Of X) (k : ℕ) (ts : List T) → decides class edges example q ≡ true → Far k ts (reads class edges E p ts) → Far k ts (reads class edges E (apply p q) ts)
  far_apply p q k ts d h = far_then k ts (reads class edges E p ts) (λ f. reads class edges E q >>= λ x. pure (f x)) h (λ f m. far_then 0 m (reads class edges E q m) (λ x. pure (f x)) (far_part q d m) (λ x m. omega arith))

  pub left_read : {X : Type 0} (p q : Production T N Of X) (ts : List T) → sees (of class (first edges p)) ts ≡ true → reads class edges E (either p q) ts ≡ reads class edges E p ts
  left_read p q ts e = ap (λ z. if z then reads class edges E p ts else reads class edges E q ts) e

  pub right_read : {X : Type 0} (p q : Production T N Of X) (ts : List T) → sees (of class (first edges p)) ts ≡ false → reads class edges E (either p q) ts ≡ reads class edges E q ts
  right_read p q ts e = ap (λ z. if z then reads class edges E p ts else reads class edges E q ts) e
