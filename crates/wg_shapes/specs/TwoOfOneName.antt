-- Rule 502 of graphs: two nodes of one name and index; the second is named. Its number is own.
use Rattle.std.specs.Prelude.{if◌then◌else◌, List, [], ◌∷◌, ◌++◌}
use Rattle.std.specs.List.{list_any}
use Rattle.wg_words.specs.declared.place.Place.{Place}
use Rattle.wg_typed.specs.declared.typed.Typed.{Typed}
use Rattle.wg_node_attributes.specs.declared.attributes.NodeAttrs.{NodeAttrs}
use Rattle.wg_shapes.specs.Naming.{is_named}
use Rattle.wg_shapes.specs.Places.{node_place}

-- the nodes that have the name and index of one before them, after these
abbrev pub named_before : Typed → List NodeAttrs → List NodeAttrs → List Place
named_before typed before [] = []
named_before typed before (a ∷ rest) =
    if list_any (is_named a.name a.index) before then node_place typed a ∷ named_before typed (before ++ a ∷ []) rest
    else named_before typed (before ++ a ∷ []) rest

abbrev pub two_of_one_name : Typed → List NodeAttrs → List Place
two_of_one_name typed nodes = named_before typed [] nodes
