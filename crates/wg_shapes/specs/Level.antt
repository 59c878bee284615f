-- The units of a graph as pairs of a node and a level, and which of them send to which (DirectX-Specs, Work Graphs, "Recursion"; the levels
-- of records are this project's own).
use Rattle.std.specs.Prelude.{◌≡◌, ◌≢◌, ◌⊎◌, ℕ, ◌+◌, ◌≤◌, if◌then◌else◌, List, length, map, slice_get, Option, Some, None, unwrap_or, IsTrue}
use Rattle.std.specs.List.{range_with_len}
use Rattle.wg_node_attributes.specs.declared.attributes.NodeAttrs.{NodeAttrs}
use Rattle.wg_shapes.specs.Naming.{targets}

-- the depth that a node declares
abbrev pub depth_declared : NodeAttrs → ℕ
depth_declared a = unwrap_or a.recursion 0

abbrev pub depth_if : Option NodeAttrs → ℕ
depth_if None = 0
depth_if (Some a) = depth_declared a

-- The level at which records of other nodes and of the script arrive: the declared depth of a node that targets itself. Any other node
-- has the one level 0, whatever it declares.
abbrev pub top_level : List NodeAttrs → ℕ → ℕ
top_level nodes n = if targets nodes n n then depth_if (slice_get nodes n) else 0

abbrev pub top_levels : List NodeAttrs → List ℕ
top_levels nodes = map (top_level nodes) (range_with_len 0 (length nodes))

-- A node at a level sends to itself one level lower, and to another node at that node's top level.
pub record Sends (nodes : List NodeAttrs) (from to : ℕ × ℕ) : Type 0 where
  pub level : from.1 ≤ top_level nodes from.0
  pub target : IsTrue (targets nodes from.0 to.0)
  pub arrives : ((to.0 ≡ from.0) × (to.1 + 1 ≡ from.1)) ⊎ ((to.0 ≢ from.0) × (to.1 ≡ top_level nodes to.0))
