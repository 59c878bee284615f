-- Grammars as data: what they spell, and the reader from left to right that they make. Own.
use Rattle.std.specs.Prelude.{ℕ, ◌==◌, ◌||◌, ◌&&◌, not, Bool, true, false, if◌then◌else◌, List, [], ◌∷◌, ◌++◌}
use Rattle.wg_grammar.specs.Spans.{Span, Seq, None_of, Leaf, Never, Many, ◌or◌}
use Rattle.wg_grammar.specs.Reading.{Reader, ◌>>=◌, pure, take_if, too_deep, by_next, many}

-- T: the tokens. N: names of what is defined elsewhere, and Of: what each of them spells.
pub data Production (T N : Type 0) (Of : N → Type 0) : Type 0 → Type 1 where
  -- no token
  give : {X : Type 0} → X → Production T N Of X
  -- one token of these classes, one deeper or not
  token : {X : Type 0} → Bool → List ℕ → (T → X) → Production T N Of X
  -- one after the other
  apply : {X Y : Type 0} → Production T N Of (X → Y) → Production T N Of X → Production T N Of Y
  -- the one or the other
  either : {X : Type 0} → Production T N Of X → Production T N Of X → Production T N Of X
  -- any number of them
  list : {X : Type 0} → Production T N Of X → Production T N Of (List X)
  sub : (n : N) → Production T N Of (Of n)

abbrev pub member : ℕ → List ℕ → Bool
member c [] = false
member c (d ∷ ds) = (c == d) || member c ds

-- no class is in both
abbrev pub apart : List ℕ → List ℕ → Bool
apart [] ds = true
apart (c ∷ cs) ds = not (member c ds) && apart cs ds

abbrev pub first_of : List ℕ → ℕ
first_of [] = 0
first_of (c ∷ cs) = c

-- whether a token is of one of these classes
abbrev pub of : {T : Type 0} → (T → ℕ) → List ℕ → T → Bool
of class set t = member (class t) set

-- what is known of the parts that are defined elsewhere: the classes with which they begin, and those that must not follow
pub record Edges (N : Type 0) : Type 0 where
  pub first : N → List ℕ
  pub stops : N → List ℕ

-- the depths of the tokens of a part, and whether there is room for what is one deeper
pub record Rules (T D N : Type 0) (Of : N → Type 0) : Type 1 where
  pub room : Bool
  pub here : D
  pub below : D
  pub rule : (n : N) → Of n → Span (T × D)

pub record Readers (T N : Type 0) (Of : N → Type 0) : Type 0 where
  pub room : Bool
  pub read : (n : N) → Reader T (Of n)

abbrev pub spell_token : {T D X : Type 0} → Bool → Bool → D → D → (T → Bool) → (T → X) → X → Span (T × D)
spell_token false room here below test value = Leaf test value here
spell_token true true here below test value = Leaf test value below
spell_token true false here below test value = Never

abbrev pub read_token : {T X : Type 0} → Bool → Bool → (T → Bool) → (T → X) → Reader T X
read_token false room test value = take_if test value
read_token true true test value = take_if test value
read_token true false test value = too_deep test

module _ {T N : Type 0} {Of : N → Type 0} where
  abbrev pub nullable : {X : Type 0} → Production T N Of X → Bool
  nullable (give x) = true
  nullable (token inner set value) = false
  nullable (apply p q) = nullable p && nullable q
  nullable (either p q) = nullable p || nullable q
  nullable (list p) = true
  nullable (sub n) = false

  module _ (edges : Edges N) where
    -- the classes with which it may begin
    abbrev pub first : {X : Type 0} → Production T N Of X → List ℕ
    first (give x) = []
    first (token inner set value) = set
    first (apply p q) = first p ++ (if nullable p then first q else [])
    first (either p q) = first p ++ first q
    first (list p) = first p
    first (sub n) = edges.first n

    -- the classes with which it could go on, so that they must not follow
    abbrev pub stops : {X : Type 0} → Production T N Of X → List ℕ
    stops (give x) = []
    stops (token inner set value) = []
    stops (apply p q) = stops q ++ (if nullable q then stops p else [])
    stops (either p q) = stops p ++ (stops q ++ (if nullable q then first p else []))
    stops (list p) = first p ++ stops p
    stops (sub n) = edges.stops n

  module _ (class : T → ℕ) where
    -- what spells a value
    abbrev pub spells : {X D : Type 0} → Rules T D N Of → Production T N Of X → X → Span (T × D)
    spells R (give x) = None_of x
    spells R (token inner set value) = spell_token inner R.room R.here R.below (of class set) value
    spells R (apply p q) = Seq (spells R p) (λ f. Seq (spells R q) (λ x. None_of (f x)))
    spells R (either p q) = spells R p or spells R q
    spells R (list p) = Many (spells R p)
    spells R (sub n) = R.rule n

    -- one token of preview
    abbrev pub reads : {X : Type 0} → Edges N → Readers T N Of → Production T N Of X → Reader T X
    reads edges E (give x) = pure x
    reads edges E (token inner set value) = read_token inner E.room (of class set) value
    reads edges E (apply p q) = reads edges E p >>= λ f. reads edges E q >>= λ x. pure (f x)
    reads edges E (either p q) = by_next (of class (first edges p)) (reads edges E p) (reads edges E q)
    reads edges E (list p) = many (of class (first edges p)) (reads edges E p)
    reads edges E (sub n) = E.read n

    -- the next token decides, and each class has a token, as these examples show
    abbrev pub decides : {X : Type 0} → Edges N → (ℕ → T) → Production T N Of X → Bool
    decides edges example (give x) = true
    decides edges example (token inner set value) = of class set (example (first_of set))
    decides edges example (apply p q) = decides edges example p && (decides edges example q && apart (stops edges p) (first edges q))
    decides edges example (either p q) = decides edges example p && (decides edges example q && (not (nullable p) && apart (first edges p) (first edges q)))
    decides edges example (list p) = decides edges example p && (not (nullable p) && apart (stops edges p) (first edges p))
    decides edges example (sub n) = true

-- ---- to write a grammar

infixl 9 ◌<*>◌
abbrev pub ◌<*>◌ : {T N : Type 0} {Of : N → Type 0} {X Y : Type 0} → Production T N Of (X → Y) → Production T N Of X → Production T N Of Y
p <*> q = apply p q

infixl 9 ◌<$>◌
abbrev pub ◌<$>◌ : {T N : Type 0} {Of : N → Type 0} {X Y : Type 0} → (X → Y) → Production T N Of X → Production T N Of Y
f <$> q = apply (give f) q

-- the value of the first
infixl 9 ◌<*◌
abbrev pub ◌<*◌ : {T N : Type 0} {Of : N → Type 0} {X Y : Type 0} → Production T N Of X → Production T N Of Y → Production T N Of X
p <* q = apply (apply (give (λ x y. x)) p) q

-- the value of the second
infixl 9 ◌*>◌
abbrev pub ◌*>◌ : {T N : Type 0} {Of : N → Type 0} {X Y : Type 0} → Production T N Of X → Production T N Of Y → Production T N Of Y
p *> q = apply (apply (give (λ x y. y)) p) q

infixr 8 ◌<|>◌
abbrev pub ◌<|>◌ : {T N : Type 0} {Of : N → Type 0} {X : Type 0} → Production T N Of X → Production T N Of X → Production T N Of X
p <|> q = either p q

-- each class of the one is in the other
abbrev pub covered : List ℕ → List ℕ → Bool
covered [] ds = true
covered (c ∷ cs) ds = member c ds && covered cs ds
