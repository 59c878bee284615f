-- Where a text names a node or an output, and the places of those that a test takes, in the order of the text. This project's own.
use Rattle.std.specs.Prelude.{Bool, if◌then◌else◌, List, [], ◌∷◌, ◌++◌, slice_get, Option, Some, None}
use Rattle.wg_words.specs.declared.place.Place.{Place}
use Rattle.wg_typed.specs.declared.typed.Typed.{Typed}
use Rattle.wg_typed.specs.declared.typed.TypedFunction.{TypedFunction}
use Rattle.wg_typed.specs.declared.typed.TypedParameter.{TypedParameter}
use Rattle.wg_node_attributes.specs.declared.attributes.NodeAttrs.{NodeAttrs}
use Rattle.wg_node_attributes.specs.declared.attributes.OutputAttr.{OutputAttr}
use Rattle.wg_shapes.specs.Records.{parameter_of}

-- the first byte of a text
abbrev pub first_place : Place
first_place = record { line = 1; column = 1 }

abbrev pub function_place : Option TypedFunction → Place
function_place None = first_place
function_place (Some f) = f.name.place

abbrev pub parameter_place : Option TypedParameter → Place
parameter_place None = first_place
parameter_place (Some p) = p.name.place

-- the name of a node's function
abbrev pub node_place : Typed → NodeAttrs → Place
node_place typed a = function_place (slice_get typed.functions a.function)

-- the name of an output
abbrev pub output_place : Typed → NodeAttrs → OutputAttr → Place
output_place typed a o = parameter_place (parameter_of typed a.function o.param)

abbrev pub outputs_where : Typed → (OutputAttr → Bool) → NodeAttrs → List OutputAttr → List Place
outputs_where typed test a [] = []
outputs_where typed test a (o ∷ rest) = if test o then output_place typed a o ∷ outputs_where typed test a rest else outputs_where typed test a rest

-- the outputs that the test takes, by node
abbrev pub all_outputs_where : Typed → (NodeAttrs → OutputAttr → Bool) → List NodeAttrs → List Place
all_outputs_where typed test [] = []
all_outputs_where typed test (a ∷ rest) = outputs_where typed (test a) a a.outputs ++ all_outputs_where typed test rest
