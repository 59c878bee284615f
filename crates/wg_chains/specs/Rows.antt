-- Which nodes of a graph target which, as rows of flags. Own.
use Rattle.std.specs.Prelude.{◌≡◌, ℕ, ◌==◌, ◌&&◌, Bool, false, not, List, length, slice_get, Option, Some, None, unwrap_or}
use Rattle.wg_words.specs.Each.{Each}
use Rattle.wg_node_attributes.specs.declared.attributes.NodeAttrs.{NodeAttrs}
use Rattle.wg_shapes.specs.Naming.{targets}

-- the flag of a number
abbrev pub flag : List Bool → ℕ → Bool
flag row m = unwrap_or (slice_get row m) false

abbrev pub flag_in : Option (List Bool) → ℕ → Bool
flag_in None m = false
flag_in (Some row) m = flag row m

-- the flag of a number in the row of another
abbrev pub leads : List (List Bool) → ℕ → ℕ → Bool
leads rows n m = flag_in (slice_get rows n) m

pub record IsSquare (n : ℕ) (rows : List (List Bool)) : Type 0 where
  pub count : length rows ≡ n
  pub sizes : Each (λ (row : List Bool). length row ≡ n) rows

-- a row for each node, with the flags of the nodes that it targets
pub record AreLinks (nodes : List NodeAttrs) (rows : List (List Bool)) : Type 0 where
  pub square : IsSquare (length nodes) rows
  pub same : (n m : ℕ) → leads rows n m ≡ targets nodes n m
