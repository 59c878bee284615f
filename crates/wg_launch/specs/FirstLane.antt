-- The variables of lane 0 while they are used elsewhere.
use Rattle.std.specs.Prelude.{◌≡◌, ℕ, List, [], ◌∷◌}
use Rattle.wg_semantics.specs.declared.state.Lane.{Lane}

-- lane 0 is there and its variables have these words
abbrev pub IsFirst : List (List ℕ) → List Lane → Type 0
IsFirst variables [] = ⊥
IsFirst variables (lane ∷ rest) = variables ≡ lane.variables

-- the lanes with other words of lane 0's variables
abbrev pub with_first : List (List ℕ) → List Lane → List Lane
with_first variables [] = []
with_first variables (lane ∷ rest) = record { variables = variables; returned = lane.returned } ∷ rest
