-- What the names of a script's lines stand for in a shape. This project's own.
use Rattle.std.specs.Prelude.{ℕ, ◌+◌, ◌==◌, ◌&&◌, Bool, if◌then◌else◌, List, [], ◌∷◌, Option, Some, None}
use Rattle.std.specs.Str.{bytes_eq}
use Rattle.wg_machine.specs.declared.shape.Shape.{Shape}
use Rattle.wg_machine.specs.declared.shape.Unit.{Unit}
use Rattle.wg_machine.specs.declared.shape.NodeName.{NodeName}
use Rattle.wg_words.specs.Maybe.{◌>>=◌}

-- the place of the first that passes, in a list that begins at a place
abbrev pub first_from : {A : Type 0} → (A → Bool) → ℕ → List A → Option ℕ
first_from passes k [] = None
first_from passes k (x ∷ xs) = if passes x then Some k else first_from passes (k + 1) xs

abbrev pub has_name : List ℕ → ℕ → NodeName → Bool
has_name name index node = bytes_eq node.name name && (node.index == index)

-- the node of a name and an index
abbrev pub node_place : Shape → List ℕ → ℕ → Option ℕ
node_place shape name index = first_from (has_name name index) 0 shape.nodes

abbrev pub is_entry_of : ℕ → Unit → Bool
is_entry_of node unit = unit.entry && (unit.node == node)

-- the unit that takes a node's entry records, where the node is an entry
abbrev pub entry_at : Shape → ℕ → Option ℕ
entry_at shape node = first_from (is_entry_of node) 0 shape.units

-- the entry unit of the node of a name and an index
abbrev pub entry_unit_at : Shape → List ℕ → ℕ → Option ℕ
entry_unit_at shape name index = node_place shape name index >>= entry_at shape

-- the place of a name among the buffers
abbrev pub place_among : List (List ℕ) → List ℕ → Option ℕ
place_among names name = first_from (λ n. bytes_eq n name) 0 names
