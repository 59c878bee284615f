-- What it is that a directory lists the nodes of a graph. This project's own.
use Rattle.std.specs.Prelude.{◌≡◌, ℕ, List, slice_get, Option}
use Rattle.wg_words.specs.Maybe.{◌>>=◌}
use Rattle.wg_text.specs.Names.{found_in}
use Rattle.wg_node_attributes.specs.declared.attributes.NodeAttrs.{NodeAttrs}
use Rattle.wg_shapes.specs.Naming.{node_named}

-- what tables of names, one for each index, have for a name and an index
abbrev pub listed_at : List (List (List ℕ × ℕ)) → List ℕ → ℕ → Option ℕ
listed_at tables name index = slice_get tables index >>= (λ table. found_in table name)

-- they have the first node of each name and index, and no other
abbrev pub IsDirectory : List NodeAttrs → List (List (List ℕ × ℕ)) → Type 0
IsDirectory nodes tables = (name : List ℕ) (index : ℕ) → listed_at tables name index ≡ node_named nodes name index
