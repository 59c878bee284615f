-- The numbers of units: they are counted by node, and then by falling level (DirectX-Specs, Work Graphs, "Recursion"; the order is this project's own).
use Rattle.std.specs.Prelude.{◌≡◌, ⊤, ℕ, zero, suc, ◌+◌, ◌≤◌, ◌<◌, List, [], ◌∷◌, length, map, slice_get, Option, Some, None}
use Rattle.std.specs.List.{range_with_len}
use Rattle.wg_words.specs.Each.{Each}
use Rattle.wg_words.specs.declared.limits.TheConstants.{MOST_NODES, MOST_RECURSION_DEPTH}
use Rattle.wg_units.specs.declared.levels.Levels.{Levels}

-- the number of a node's first unit, by the top levels of the nodes
abbrev pub first_unit : List ℕ → ℕ → ℕ
first_unit [] n = 0
first_unit (top ∷ tops) zero = 0
first_unit (top ∷ tops) (suc n) = top + 1 + first_unit tops n

abbrev pub first_units : List ℕ → List ℕ
first_units tops = map (first_unit tops) (range_with_len 0 (length tops))

-- the first units are those of the top levels, and both are within the limits
pub record AreLevels (l : Levels) : Type 0 where
  pub firsts : l.firsts ≡ first_units l.tops
  pub few : length l.tops ≤ MOST_NODES
  pub low : Each (λ top. top ≤ MOST_RECURSION_DEPTH) l.tops

-- a number is the place of a node at a level among these
abbrev pub IsPlaceOf : List (ℕ × ℕ) → Option (ℕ × ℕ) → Option ℕ → Type 0
IsPlaceOf places None None = ⊤
IsPlaceOf places None (Some t) = ⊥
IsPlaceOf places (Some p) None = ⊥
IsPlaceOf places (Some p) (Some t) = slice_get places t ≡ Some p

-- where there is a node, its number is below the count
abbrev pub IsNodeBelow : ℕ → Option ℕ → Type 0
IsNodeBelow count None = ⊤
IsNodeBelow count (Some n) = n < count
