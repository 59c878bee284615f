-- Readers of a list of tokens, from left to right. Own.
use Rattle.std.specs.Prelude.{ℕ, zero, suc, Bool, true, false, ◌&&◌, if◌then◌else◌, List, [], ◌∷◌, length}

-- what reading gives: a value and what is left; the first token that cannot stand there; the first that is too deep
pub data Reading (T X : Type 0) : Type 0 where
  Got : X → List T → Reading T X
  Wrong : List T → Reading T X
  Deep : List T → Reading T X

abbrev pub Reader : Type 0 → Type 0 → Type 0
Reader T X = List T → Reading T X

abbrev pub read_on : {T X Y : Type 0} → Reading T X → (X → Reader T Y) → Reading T Y
read_on (Got x rest) f = f x rest
read_on (Wrong rest) f = Wrong rest
read_on (Deep rest) f = Deep rest

infixl 10 ◌>>=◌
abbrev pub ◌>>=◌ : {T X Y : Type 0} → Reader T X → (X → Reader T Y) → Reader T Y
p >>= f = λ ts. read_on (p ts) f

abbrev pub pure : {T X : Type 0} → X → Reader T X
pure x = λ ts. Got x ts

-- whether there is a next token, and it is one of these
abbrev pub sees : {T : Type 0} → (T → Bool) → List T → Bool
sees test [] = false
sees test (t ∷ ts) = test t

-- whether the next tokens pass these tests
abbrev pub begins_with : {T : Type 0} → List (T → Bool) → List T → Bool
begins_with [] ts = true
begins_with (test ∷ tests) [] = false
begins_with (test ∷ tests) (t ∷ ts) = test t && begins_with tests ts

-- takes the next token, if it is one of these
abbrev pub take_if : {T X : Type 0} → (T → Bool) → (T → X) → Reader T X
take_if test value [] = Wrong []
take_if test value (t ∷ ts) = if test t then Got (value t) ts else Wrong (t ∷ ts)

-- there is no room for one of these
abbrev pub too_deep : {T X : Type 0} → (T → Bool) → Reader T X
too_deep test ts = if sees test ts then Deep ts else Wrong ts

-- p where the next token is one of these, else q
abbrev pub by_next : {T X : Type 0} → (T → Bool) → Reader T X → Reader T X → Reader T X
by_next test p q ts = if sees test ts then p ts else q ts

-- p where the next tokens pass these tests, else q
abbrev pub look : {T X : Type 0} → List (T → Bool) → Reader T X → Reader T X → Reader T X
look tests p q ts = if begins_with tests ts then p ts else q ts

-- items, as long as the next token begins one
abbrev pub many_from : {T X : Type 0} → (T → Bool) → Reader T X → ℕ → Reader T (List X)
many_from starts item zero ts = Got [] ts
many_from starts item (suc n) ts = if sees starts ts then (item >>= λ x. many_from starts item n >>= λ xs. pure (x ∷ xs)) ts else Got [] ts

abbrev pub many : {T X : Type 0} → (T → Bool) → Reader T X → Reader T (List X)
many starts item = λ ts. many_from starts item (length ts) ts
