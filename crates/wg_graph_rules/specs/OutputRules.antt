-- Whether an output breaks one of the rules on single outputs, 504 to 506. This project's own.
use Rattle.std.specs.Prelude.{Bool, List}
use Rattle.wg_typed.specs.declared.typed.Typed.{Typed}
use Rattle.wg_node_attributes.specs.declared.attributes.NodeAttrs.{NodeAttrs}
use Rattle.wg_node_attributes.specs.declared.attributes.OutputAttr.{OutputAttr}
use Rattle.wg_shapes.specs.NoTarget.{lacks_target}
use Rattle.wg_shapes.specs.SparseNotAllowed.{lacks_element}
use Rattle.wg_graph_rules.specs.RecordDiffers.{differs}
use Rattle.wg_graph_rules.specs.declared.outputs.OutputRule.{OutputRule}
use Rattle.wg_graph_rules.specs.declared.outputs.OutputRule.TheVariants.{NoTarget, SparseNotAllowed, RecordDiffers}

abbrev pub is_broken : Typed → List NodeAttrs → OutputRule → NodeAttrs → OutputAttr → Bool
is_broken typed nodes NoTarget a o = lacks_target nodes o
is_broken typed nodes SparseNotAllowed a o = lacks_element nodes o
is_broken typed nodes RecordDiffers a o = differs typed nodes a o
