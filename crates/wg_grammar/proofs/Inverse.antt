-- What a part spells, taken apart.
use Rattle.std.proofs.Common.{◌≡◌, ℕ, ◌&&◌, Bool, true, false, List, [], ◌∷◌, refl, sym, ◌∙◌, ap, subst}
use Rattle.wg_grammar.specs.Reading.{sees, begins_with}
use Rattle.wg_grammar.specs.Depths.{plain}
use Rattle.wg_grammar.specs.Productions.{Production, give, token, apply, of, Rules, spell_token, spells, ◌<*◌}

-- it begins with a token that passes the test, and goes on so
abbrev pub Leads : {T D : Type 0} → (T → Bool) → List (T × D) → List (T × D) → Type 0
Leads {T = T} {D = D} test i r = (t : T) × (d : D) × (test t ≡ true) × (i ≡ (t, d) ∷ r)

module _ {T D N : Type 0} {Of : N → Type 0} (class : T → ℕ) (R : Rules T D N Of) where
  pub inv_apply : {X Y : Type 0} (p : Production T N Of (X → Y)) (q : Production T N Of X) (y : Y) (i r : List (T × D)) → spells class R (apply p q) y i r → (f : X → Y) × (x : X) × (m : List (T × D)) × spells class R p f i m × spells class R q x m r × (y ≡ f x)
  inv_apply p q y i r h = let k = h.3 in (h.0, k.0, h.1, h.2, subst (λ z. spells class R q k.0 h.1 z) k.3.1 k.2, k.3.0)

  pub inv_give : {X Y : Type 0} (f : X → Y) (q : Production T N Of X) (y : Y) (i r : List (T × D)) → spells class R (apply (give f) q) y i r → (x : X) × spells class R q x i r × (y ≡ f x)
  inv_give f q y i r h = let k = inv_apply (give f) q y i r h in (k.1, subst (λ z. spells class R q k.1 z r) (sym k.3.1) k.4, k.5 ∙ ap (λ g. g k.1) k.3.0)

  pub inv_two : {X Y Z : Type 0} (f : X → Y → Z) (p : Production T N Of X) (q : Production T N Of Y) (z : Z) (i r : List (T × D)) → spells class R (apply (apply (give f) p) q) z i r → (x : X) × (y : Y) × (m : List (T × D)) × spells class R p x i m × spells class R q y m r × (z ≡ f x y)
  inv_two f p q z i r h = let k = inv_apply (apply (give f) p) q z i r h in let g = inv_give f p k.0 i k.2 k.3 in (g.0, k.1, k.2, g.1, k.4, k.5 ∙ ap (λ u. u k.1) g.2)

  pub inv_left : {X Y : Type 0} (p : Production T N Of X) (q : Production T N Of Y) (x : X) (i r : List (T × D)) → spells class R (p <* q) x i r → (y : Y) × (m : List (T × D)) × spells class R p x i m × spells class R q y m r
  inv_left p q x i r h = let k = inv_two (λ x y. x) p q x i r h in (k.1, k.2, subst (λ z. spells class R p z i k.2) (sym k.5) k.3, k.4)

inv_token_at : {T D X : Type 0} (inner room : Bool) (here below : D) (test : T → Bool) (value : T → X) (x : X) (i r : List (T × D)) → spell_token inner room here below test value x i r → Leads test i r
inv_token_at false room here below test value x i r h = (h.0, here, h.1, h.3)
inv_token_at true true here below test value x i r h = (h.0, below, h.1, h.3)
inv_token_at true false here below test value x i r h = absurd h

pub inv_token : {T D N X : Type 0} {Of : N → Type 0} (class : T → ℕ) (R : Rules T D N Of) (inner : Bool) (set : List ℕ) (value : T → X) (x : X) (i r : List (T × D)) → spells class R (token inner set value) x i r → Leads (of class set) i r
inv_token class R inner set value x i r h = inv_token_at inner R.room R.here R.below (of class set) value x i r h

pub begins_more : {T D : Type 0} (test : T → Bool) (tests : List (T → Bool)) (i r : List (T × D)) → Leads test i r → begins_with tests (plain r) ≡ true → begins_with (test ∷ tests) (plain i) ≡ true
begins_more test tests i r l e = ap (λ z. begins_with (test ∷ tests) (plain z)) l.3 ∙ ap (λ z. z && begins_with tests (plain r)) l.2 ∙ e

pub begins_tail : {T D : Type 0} (test : T → Bool) (tests : List (T → Bool)) (i r : List (T × D)) → Leads test i r → begins_with (test ∷ tests) (plain i) ≡ true → begins_with tests (plain r) ≡ true
begins_tail test tests i r l e = ap (λ z. z && begins_with tests (plain r)) (sym l.2) ∙ ap (λ z. begins_with (test ∷ tests) (plain z)) (sym l.3) ∙ e

pub begins_not : {T : Type 0} (test : T → Bool) (tests : List (T → Bool)) (ts : List T) → sees test ts ≡ false → begins_with (test ∷ tests) ts ≡ false
begins_not test tests [] e = refl
begins_not test tests (t ∷ ts) e = ap (λ z. z && begins_with tests ts) e

-- the first test passes, so it is the others that fail
pub begins_rest : {T D : Type 0} (test : T → Bool) (tests : List (T → Bool)) (i r : List (T × D)) → Leads test i r → begins_with tests (plain r) ≡ false → begins_with (test ∷ tests) (plain i) ≡ false
begins_rest test tests i r l e = ap (λ z. begins_with (test ∷ tests) (plain z)) l.3 ∙ ap (λ z. z && begins_with tests (plain r)) l.2 ∙ e
