-- What holds of each value that a production spells.
use Rattle.std.proofs.Common.{ℕ, Bool, true, false, List, [], ◌∷◌, Option, Some, None, inl, inr, sym, subst}
use Rattle.wg_grammar.specs.Spans.{Leaf, Many, ◌or◌}
use Rattle.wg_grammar.specs.Productions.{Production, give, token, apply, either, list, sub, ◌<*>◌, ◌<$>◌, ◌<*◌, ◌*>◌, Rules, of, spell_token, spells}
use Rattle.wg_spelled.specs.Numbers.{KindFits, AllFit}
use Rattle.wg_tokens.specs.Classes.{class}
use Rattle.wg_tokens.specs.declared.token.Token.{Token}
use Rattle.wg_tree.specs.Depths.{Depth}
use Rattle.wg_tree.specs.GrammarExpr.{optional, Phrase}

-- what a phrase spells has the property, and what follows it fits
abbrev pub Yields : {X : Type 0} → Phrase X → (X → Type 0) → Type 0
Yields {X} R P = (x : X) (i r : List (Token × Depth)) → AllFit i → R x i r → P x × AllFit r

abbrev pub Any : {X : Type 0} → X → Type 0
Any x = Unit {0}

pub or_yields : {X : Type 0} (A B : Phrase X) (P : X → Type 0) → Yields A P → Yields B P → Yields (A or B) P
or_yields A B P g h x i r f (inl a) = g x i r f a
or_yields A B P g h x i r f (inr b) = h x i r f b

pub leaf_yields : {X : Type 0} (test : Token → Bool) (value : Token → X) (d : Depth) (P : X → Type 0) → ((t : Token) → KindFits t.kind → P (value t)) → Yields (Leaf test value d) P
leaf_yields test value d P h x i r f (t, passes, e, s) =
    let g : AllFit ((t, d) ∷ r) = subst AllFit s f in
    (subst P (sym e) (h t g.0), g.1)

module _ {N : Type 0} {Of : N → Type 0} (R : Rules Token Depth N Of) where
  abbrev pub Y : {X : Type 0} → Production Token N Of X → (X → Type 0) → Type 0
  Y p P = Yields (spells class R p) P

  pub y_token : {X : Type 0} (inner : Bool) (set : List ℕ) (value : Token → X) (P : X → Type 0) → ((t : Token) → KindFits t.kind → P (value t)) → Y (token inner set value) P
  y_token false set value P h = leaf_yields (of class set) value R.here P h
  y_token true set value P h = by_room R.room
    where
      by_room : (b : Bool) → Yields (spell_token true b R.here R.below (of class set) value) P
      by_room true = leaf_yields (of class set) value R.below P h
      by_room false = λ x i r f a. absurd a

  pub y_give : {X : Type 0} (x : X) (P : X → Type 0) → P x → Y (give x) P
  y_give x P h y i r f a = (subst P (sym a.0) h, subst AllFit a.1 f)

  pub y_apply : {X Z : Type 0} (P : X → Type 0) (Q : Z → Type 0) (p : Production Token N Of (X → Z)) (q : Production Token N Of X) → Y p (λ g. (x : X) → P x → Q (g x)) → Y q P → Y (apply p q) Q
  y_apply P Q p q g h z i r f a =
      let b = g a.0 i a.1 f a.2 in
      let c = h a.3.0 a.1 a.3.1 b.1 a.3.2 in
      (subst Q (sym a.3.3.0) (b.0 a.3.0 c.0), subst AllFit a.3.3.1 c.1)

  pub y_either : {X : Type 0} (P : X → Type 0) (p q : Production Token N Of X) → Y p P → Y q P → Y (either p q) P
  y_either P p q g h = or_yields (spells class R p) (spells class R q) P g h

  pub y_list : {X : Type 0} (P : X → Type 0) (Q : List X → Type 0) (p : Production Token N Of X) → Y p P → Q [] → ((x : X) (xs : List X) → P x → Q xs → Q (x ∷ xs)) → Y (list p) Q
  y_list {X} P Q p h none more xs i r f a = each xs i f a
    where
      each : (xs : List X) (i : List (Token × Depth)) → AllFit i → Many (spells class R p) xs i r → Q xs × AllFit r
      each [] i f a = (none, subst AllFit a f)
      each (x ∷ xs) i f a =
          let b = h x i a.0 f a.1 in
          let c = each xs a.0 b.1 a.2 in
          (more x xs b.0 c.0, c.1)

  abbrev pub RulesYield : ((n : N) → Of n → Type 0) → Type 0
  RulesYield S = (n : N) → Yields (R.rule n) (S n)

  -- whatever it spells, what follows fits
  pub y_any : (S : (n : N) → Of n → Type 0) → RulesYield S → {X : Type 0} (p : Production Token N Of X) → Y p Any
  y_any S rules (give x) = y_give x Any tt
  y_any S rules (token inner set value) = y_token inner set value Any (λ t k. tt)
  y_any S rules (apply p q) = y_apply Any Any p q (λ g i r f a. (λ x u. tt, (y_any S rules p g i r f a).1)) (y_any S rules q)
  y_any S rules (either p q) = y_either Any p q (y_any S rules p) (y_any S rules q)
  y_any S rules (list p) = y_list Any Any p (y_any S rules p) tt (λ x xs u v. tt)
  y_any S rules (sub n) = λ x i r f a. (tt, (rules n x i r f a).1)

  -- ---- several parts

  pub y_map : {X Z : Type 0} (P : X → Type 0) (Q : Z → Type 0) (g : X → Z) (p : Production Token N Of X) → ((x : X) → P x → Q (g x)) → Y p P → Y (g <$> p) Q
  y_map P Q g p h k = y_apply P Q (give g) p (y_give g (λ f. (x : _) → P x → Q (f x)) h) k

  pub y_skip : {X Z : Type 0} (P : Z → Type 0) (p : Production Token N Of X) (q : Production Token N Of Z) → Y p Any → Y q P → Y (p *> q) P
  y_skip P p q h k = y_apply P P (apply (give (λ x y. y)) p) q (y_map Any (λ f. (y : _) → P y → P (f y)) (λ x y. y) p (λ x u y v. v) h) k

  pub y_keep : {X Z : Type 0} (P : X → Type 0) (p : Production Token N Of X) (q : Production Token N Of Z) → Y p P → Y q Any → Y (p <* q) P
  y_keep P p q h k = y_apply Any P (apply (give (λ x y. x)) p) q (y_map P (λ f. (y : _) → Any y → P (f y)) (λ x y. x) p (λ x u y v. u) h) k

  pub y_two : {X Z W : Type 0} (P : X → Type 0) (Q : Z → Type 0) (V : W → Type 0) (g : X → Z → W) (p : Production Token N Of X) (q : Production Token N Of Z) → ((x : X) → P x → (z : Z) → Q z → V (g x z)) → Y p P → Y q Q → Y (g <$> p <*> q) V
  y_two P Q V g p q h k l = y_apply Q V (g <$> p) q (y_map P (λ f. (z : _) → Q z → V (f z)) g p h k) l

  pub y_three : {X Z W U : Type 0} (P : X → Type 0) (Q : Z → Type 0) (V : W → Type 0) (T : U → Type 0) (g : X → Z → W → U) (p : Production Token N Of X) (q : Production Token N Of Z) (s : Production Token N Of W)
      → ((x : X) → P x → (z : Z) → Q z → (w : W) → V w → T (g x z w)) → Y p P → Y q Q → Y s V → Y (g <$> p <*> q <*> s) T
  y_three P Q V T g p q s h k l m = y_apply V T (g <$> p <*> q) s (y_two P Q (λ f. (w : _) → V w → T (f w)) g p q h k l) m

  pub y_four : {X Z W U A : Type 0} (P : X → Type 0) (Q : Z → Type 0) (V : W → Type 0) (T : U → Type 0) (B : A → Type 0) (g : X → Z → W → U → A) (p : Production Token N Of X) (q : Production Token N Of Z) (s : Production Token N Of W) (t : Production Token N Of U)
      → ((x : X) → P x → (z : Z) → Q z → (w : W) → V w → (u : U) → T u → B (g x z w u)) → Y p P → Y q Q → Y s V → Y t T → Y (g <$> p <*> q <*> s <*> t) B
  y_four P Q V T B g p q s t h k l m n = y_apply T B (g <$> p <*> q <*> s) t (y_three P Q V (λ f. (u : _) → T u → B (f u)) g p q s h k l m) n

  pub y_five : {X Z W U A C : Type 0} (P : X → Type 0) (Q : Z → Type 0) (V : W → Type 0) (T : U → Type 0) (B : A → Type 0) (E : C → Type 0) (g : X → Z → W → U → A → C)
      (p : Production Token N Of X) (q : Production Token N Of Z) (s : Production Token N Of W) (t : Production Token N Of U) (v : Production Token N Of A)
      → ((x : X) → P x → (z : Z) → Q z → (w : W) → V w → (u : U) → T u → (a : A) → B a → E (g x z w u a)) → Y p P → Y q Q → Y s V → Y t T → Y v B → Y (g <$> p <*> q <*> s <*> t <*> v) E
  y_five P Q V T B E g p q s t v h k l m n o = y_apply B E (g <$> p <*> q <*> s <*> t) v (y_four P Q V T (λ f. (a : _) → B a → E (f a)) g p q s t h k l m n) o

  abbrev pub Maybe : {X : Type 0} → (X → Type 0) → Option X → Type 0
  Maybe P None = Unit {0}
  Maybe P (Some x) = P x

  pub y_optional : {X : Type 0} (P : X → Type 0) (p : Production Token N Of X) → Y p P → Y (optional p) (Maybe P)
  y_optional P p h = y_either (Maybe P) (Some <$> p) (give None) (y_map P (Maybe P) Some p (λ x u. u) h) (y_give None (Maybe P) tt)
