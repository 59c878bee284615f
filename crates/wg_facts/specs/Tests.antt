-- Tests of what may be absent, and of each element of a list.
use Rattle.std.specs.Prelude.{Bool, true, false, ◌&&◌, List, [], ◌∷◌, Option, Some, None}

-- there, and passing
abbrev pub test : {A : Type 0} → (A → Bool) → Option A → Bool
test f None = false
test f (Some a) = f a

-- passing where there
abbrev pub if_any : {A : Type 0} → (A → Bool) → Option A → Bool
if_any f None = true
if_any f (Some a) = f a

abbrev pub every : {A : Type 0} → (A → Bool) → List A → Bool
every f [] = true
every f (a ∷ rest) = f a && every f rest
