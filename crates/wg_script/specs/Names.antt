-- The names of a shape in maps.
use Rattle.std.specs.Prelude.{◌≡◌, ℕ, ◌<◌, ◌^◌, ◌++◌, List, Option}
use Rattle.std.specs.Option.{option_map}
use Rattle.std.specs.Int.{w32, to_be_bytes}
use Rattle.wg_machine.specs.declared.shape.Shape.{Shape}
use Rattle.wg_text.specs.Names.{found_in}
use Rattle.wg_script.specs.declared.names.ScriptNames.{ScriptNames}
use Rattle.wg_script.specs.Naming.{node_place, entry_at, place_among}

-- a node's key: the four bytes of its index, then its name
abbrev pub node_key : List ℕ → ℕ → List ℕ
node_key name index = to_be_bytes w32 index ++ name

-- the entry unit, if there is one, of the node of a name and an index
abbrev pub node_in : ScriptNames → List ℕ → ℕ → Option (Option ℕ)
node_in names name index = found_in names.nodes (node_key name index)

abbrev pub buffer_in : ScriptNames → List ℕ → Option ℕ
buffer_in names name = found_in names.buffers name

-- the maps have each name of the shape, and no other
pub record NamesShape (shape : Shape) (names : ScriptNames) : Type 0 where
  pub nodes : (name : List ℕ) (index : ℕ) → index < 2 ^ 32 → node_in names name index ≡ option_map (entry_at shape) (node_place shape name index)
  pub buffers : (name : List ℕ) → buffer_in names name ≡ place_among shape.buffers name
