-- A value that may be absent.
use Rattle.std.specs.Prelude.{Option, Some, None}

-- what follows from the value, where it is there
infixl 10 ◌>>=◌
abbrev pub ◌>>=◌ : {A B : Type 0} → Option A → (A → Option B) → Option B
None >>= f = None
(Some a) >>= f = f a
