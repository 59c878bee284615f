-- Parts of a text, seen as what stands before and after them. Own.
use Rattle.std.specs.Prelude.{◌≡◌, Bool, true, List, [], ◌∷◌, ◌⊎◌}

abbrev pub Span : Type 0 → Type 1
Span A = List A → List A → Type 0

-- a part and then another, which may depend on what the first one spells
abbrev pub Seq : {A X Y : Type 0} → (X → Span A) → (X → Y → Span A) → Y → Span A
Seq {A = A} {X = X} P Q y i r = (x : X) × (m : List A) × P x i m × Q x y m r

-- nothing, which spells x
abbrev pub None_of : {A X : Type 0} → X → X → Span A
None_of x y i r = (y ≡ x) × (i ≡ r)

-- one token that passes the test, at depth d
abbrev pub Leaf : {T D X : Type 0} → (T → Bool) → (T → X) → D → X → Span (T × D)
Leaf {T = T} test value d x i r = (t : T) × (test t ≡ true) × (x ≡ value t) × (i ≡ (t, d) ∷ r)

-- what nothing spells
abbrev pub Never : {A X : Type 0} → X → Span A
Never x i r = ⊥

-- any number of parts
abbrev pub Many : {A X : Type 0} → (X → Span A) → List X → Span A
Many R [] i r = i ≡ r
Many {A = A} R (x ∷ xs) i r = (m : List A) × R x i m × Many R xs m r

infixr 8 ◌or◌
abbrev pub ◌or◌ : {A X : Type 0} → (X → Span A) → (X → Span A) → X → Span A
(P or Q) x i r = P x i r ⊎ Q x i r
