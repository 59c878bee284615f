-- The units of a graph: its nodes at their recursion levels (Work Graphs, "Recursion"; the levels of records are this
-- project's own).
use Rattle.std.specs.Prelude.{◌≢◌, ℕ, zero, suc, ◌+◌, ◌<◌, Bool, List, [], ◌∷◌, ◌++◌, map, filter, slice_get, unwrap_or}
use Rattle.std.specs.Option.{option_map}
use Rattle.std.specs.List.{list_any}
use Rattle.wg_machine.specs.declared.shape.Output.{Output}
use Rattle.wg_machine.specs.declared.shape.Shape.{Shape}
use Rattle.wg_machine.specs.declared.shape.Unit.{Unit}
use Rattle.wg_machine.specs.Need.{is_target, greatest}

-- a node at the levels from its declared depth down to 0
abbrev pub levels : ℕ → ℕ → List (ℕ × ℕ)
levels node zero = (node, 0) ∷ []
levels node (suc level) = (node, suc level) ∷ levels node level

-- the nodes from one on, each at its levels, by the nodes' declared depths
abbrev pub unrolled : ℕ → List ℕ → List (ℕ × ℕ)
unrolled node [] = []
unrolled node (depth ∷ depths) = levels node depth ++ unrolled (node + 1) depths

abbrev pub node_and_level : Unit → ℕ × ℕ
node_and_level u = (u.node, u.level)

-- some element of some output of u targets v
abbrev pub sends_to : ℕ → Unit → Bool
sends_to v u = list_any (λ (o : Output). list_any (is_target v) o.elements) u.outputs

-- one more than the greatest depth of the units that target v: the units of the longest chain that ends at v
abbrev pub depth_of : List Unit → ℕ → ℕ
depth_of units v = greatest (map (λ (u : Unit). u.depth) (filter (sends_to v) units)) + 1

abbrev pub node_at : Shape → ℕ → ℕ
node_at shape u = unwrap_or (option_map (λ (n : Unit). n.node) (slice_get shape.units u)) 0

-- a unit is the first of its node: the one at the declared depth
abbrev pub IsFirst : Shape → ℕ → Type 0
IsFirst shape u = (v : ℕ) → v < u → node_at shape v ≢ node_at shape u
