-- Rule 505 of graphs: an output array that is not sparse, without the node of an element (DirectX-Specs, Work Graphs, "AllowSparseNodes").
-- Its number is own.
use Rattle.std.specs.Prelude.{◌&&◌, not, is_none, Bool, List}
use Rattle.std.specs.List.{list_any}
use Rattle.wg_words.specs.declared.place.Place.{Place}
use Rattle.wg_typed.specs.declared.typed.Typed.{Typed}
use Rattle.wg_node_attributes.specs.declared.attributes.NodeAttrs.{NodeAttrs}
use Rattle.wg_node_attributes.specs.declared.attributes.OutputAttr.{OutputAttr}
use Rattle.wg_shapes.specs.Naming.{elements_of}
use Rattle.wg_shapes.specs.Places.{all_outputs_where}

abbrev pub lacks_element : List NodeAttrs → OutputAttr → Bool
lacks_element nodes o = o.array && not o.sparse && list_any is_none (elements_of nodes o)

abbrev pub sparse_not_allowed : Typed → List NodeAttrs → List Place
sparse_not_allowed typed nodes = all_outputs_where typed (λ (a : NodeAttrs). lacks_element nodes) nodes
