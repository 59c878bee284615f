-- Rule 508 of graphs: a unit that ends a chain of more units than the limit. Its number and the limit are own.
use Rattle.std.specs.Prelude.{ℕ, ◌<◌, List}
use Rattle.wg_words.specs.declared.limits.TheConstants.{MOST_UNIT_CHAIN}
use Rattle.wg_node_attributes.specs.declared.attributes.NodeAttrs.{NodeAttrs}
use Rattle.wg_shapes.specs.Chain.{Chain}
use Rattle.wg_shapes.specs.Level.{Sends}

-- a chain that is too long ends at some level of the node
pub record EndsLongChain (nodes : List NodeAttrs) (n : ℕ) : Type 0 where
  pub level : ℕ
  pub units : ℕ
  pub long : MOST_UNIT_CHAIN < units
  pub chain : Chain (Sends nodes) units (n, level)
