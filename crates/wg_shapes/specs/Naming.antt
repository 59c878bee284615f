-- Which nodes an output sends to (DirectX-Specs, Work Graphs, "NodeID" and "NodeArraySize").
use Rattle.std.specs.Prelude.{ℕ, ◌==◌, ◌&&◌, Bool, false, List, map, slice_get, Option, Some, None}
use Rattle.std.specs.List.{list_any, position_from, range_with_len}
use Rattle.std.specs.Str.{bytes_eq}
use Rattle.wg_machine.specs.Need.{is_target}
use Rattle.wg_node_attributes.specs.declared.attributes.NodeAttrs.{NodeAttrs}
use Rattle.wg_node_attributes.specs.declared.attributes.OutputAttr.{OutputAttr}

abbrev pub is_named : List ℕ → ℕ → NodeAttrs → Bool
is_named name index a = bytes_eq name a.name && a.index == index

-- the number of the node of a name and an index
abbrev pub node_named : List NodeAttrs → List ℕ → ℕ → Option ℕ
node_named nodes name index = position_from (is_named name index) 0 nodes

-- the nodes of an output's elements: those of its name from its index on, each none where there is no such node
abbrev pub elements_of : List NodeAttrs → OutputAttr → List (Option ℕ)
elements_of nodes o = map (node_named nodes o.name) (range_with_len o.index o.elements)

-- some element of some output of a node has the node of this number
abbrev pub has_target : List NodeAttrs → NodeAttrs → ℕ → Bool
has_target nodes a m = list_any (λ (o : OutputAttr). list_any (is_target m) (elements_of nodes o)) a.outputs

abbrev pub targets_of : List NodeAttrs → Option NodeAttrs → ℕ → Bool
targets_of nodes None m = false
targets_of nodes (Some a) m = has_target nodes a m

-- one node targets another, by their numbers
abbrev pub targets : List NodeAttrs → ℕ → ℕ → Bool
targets nodes n m = targets_of nodes (slice_get nodes n) m
