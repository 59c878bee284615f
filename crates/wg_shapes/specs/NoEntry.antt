-- Rule 501 of graphs: a text without a node. Its number is own.
use Rattle.std.specs.Prelude.{List, [], ◌∷◌}
use Rattle.wg_words.specs.declared.place.Place.{Place}
use Rattle.wg_node_attributes.specs.declared.attributes.NodeAttrs.{NodeAttrs}
use Rattle.wg_shapes.specs.Places.{first_place}

abbrev pub no_entry : List NodeAttrs → List Place
no_entry [] = first_place ∷ []
no_entry (a ∷ rest) = []
