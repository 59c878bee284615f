use Rattle.std.proofs.Common.{◌≡◌, ◌≤◌, ◌<◌, List, length, take}
use Rattle.wg_words.specs.Each.{Each}
use Rattle.wg_node_attributes.specs.declared.attributes.NodeAttrs.{NodeAttrs}
use Rattle.wg_shapes.specs.Level.{top_level, top_levels}
use Rattle.wg_units.specs.Numbers.{IsNodeBelow}
use Rattle.wg_units.proofs.Placed.{AreArrivals}
use Rattle.wg_units.proofs.sending.arrivals.Given as goal

abbrev pub invariant-loop-e : goal.invariant-loop-e
invariant-loop-e l = (nodes : List NodeAttrs) → l.levels.tops ≡ top_levels nodes → l.n < length nodes → l.level ≤ top_level nodes l.n → Each (IsNodeBelow (length nodes)) l.elements → AreArrivals nodes l.n l.level (take l.e l.elements) l.targets
