-- Rule 503 of graphs: more nodes than the limit; the first above it is named. Its number is own.
use Rattle.std.specs.Prelude.{List, [], ◌∷◌, slice_get, Option, Some, None}
use Rattle.wg_words.specs.declared.limits.TheConstants.{MOST_NODES}
use Rattle.wg_words.specs.declared.place.Place.{Place}
use Rattle.wg_typed.specs.declared.typed.Typed.{Typed}
use Rattle.wg_node_attributes.specs.declared.attributes.NodeAttrs.{NodeAttrs}
use Rattle.wg_shapes.specs.Places.{node_place}

abbrev pub place_if : Typed → Option NodeAttrs → List Place
place_if typed None = []
place_if typed (Some a) = node_place typed a ∷ []

abbrev pub too_many_nodes : Typed → List NodeAttrs → List Place
too_many_nodes typed nodes = place_if typed (slice_get nodes MOST_NODES)
