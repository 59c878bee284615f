-- Tokens with their depths. Own.
use Rattle.std.specs.Prelude.{List, [], ◌∷◌, map}

abbrev pub plain : {T D : Type 0} → List (T × D) → List T
plain = map (λ a. a.0)

-- each depth is within
abbrev pub Shallow : {T D : Type 0} → (D → Type 0) → List (T × D) → Type 0
Shallow Within [] = Unit {0}
Shallow Within (a ∷ rest) = Within a.1 × Shallow Within rest
