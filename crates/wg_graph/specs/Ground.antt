-- What is known of a graph that keeps the rules, and a list of units by the places that they have. This project's own.
use Rattle.std.specs.Prelude.{◌≡◌, List, map}
use Rattle.wg_words.specs.declared.limits.TheConstants.{MOST_UNIT_CHAIN}
use Rattle.wg_machine.specs.Unrolling.{node_and_level, unrolled}
use Rattle.wg_machine.specs.declared.shape.Unit.{Unit}
use Rattle.wg_typed.specs.declared.typed.Typed.{Typed}
use Rattle.wg_layout.specs.Sizes.{table_of}
use Rattle.wg_node_attributes.specs.declared.attributes.NodeAttrs.{NodeAttrs}
use Rattle.wg_shapes.specs.Level.{top_levels}
use Rattle.wg_shapes.specs.Limits.{AreGoodAttrs}
use Rattle.wg_shapes.specs.ShapeOf.{IsUnitOfNode}
use Rattle.wg_chains.specs.Arrived.{AreReached}
use Rattle.wg_chains.specs.Rows.{AreLinks}
use Rattle.wg_directories.specs.Listed.{IsDirectory}
use Rattle.wg_graph_rules.specs.Faults.{KeepsRules}
use Rattle.wg_units.specs.Numbers.{AreLevels}
use Rattle.wg_graph.specs.declared.known.Known.{Known}

pub record IsKnown (typed : Typed) (nodes : List NodeAttrs) (known : Known) : Type 0 where
  pub good : AreGoodAttrs typed nodes
  pub kept : KeepsRules typed nodes
  pub sizes : known.graph.sizes ≡ table_of typed.structs
  pub directory : IsDirectory nodes known.graph.directory
  pub rows : AreLinks nodes known.graph.rows
  pub depths : AreReached nodes MOST_UNIT_CHAIN known.graph.depths
  pub tops : known.levels.tops ≡ top_levels nodes
  pub levels : AreLevels known.levels

-- units that stand where those of the shape do
abbrev pub AreAtPlaces : List NodeAttrs → List Unit → Type 0
AreAtPlaces nodes units = map node_and_level units ≡ unrolled 0 (top_levels nodes)

-- a unit is one of a node, among any units that stand so
abbrev pub IsRightUnit : Typed → List NodeAttrs → Unit → Type 0
IsRightUnit typed nodes u = (units : List Unit) → AreAtPlaces nodes units → IsUnitOfNode typed nodes units u
