-- Rule 506 of graphs: an output whose records the node of an element does not take (DirectX-Specs, Work Graphs, "Node output"). Which records match,
-- and its number, are own.
use Rattle.std.specs.Prelude.{ℕ, ◌==◌, ◌&&◌, not, Bool, true, false, List, [], ◌∷◌, slice_get, Option, Some, None}
use Rattle.std.specs.List.{list_any}
use Rattle.wg_words.specs.Maybe.{◌>>=◌}
use Rattle.wg_words.specs.declared.place.Place.{Place}
use Rattle.wg_typed.specs.Layout.{words_of}
use Rattle.wg_typed.specs.declared.typed.Typed.{Typed}
use Rattle.wg_typed.specs.declared.typed.TypedField.{TypedField}
use Rattle.wg_typed.specs.declared.typed.TypedStruct.{TypedStruct}
use Rattle.wg_typed.specs.declared.types.TypeTree.TheVariants.{Struct}
use Rattle.wg_typing.specs.AttributeSystem.{is_grid_field}
use Rattle.wg_typing.specs.Conversions.{same_type}
use Rattle.wg_node_attributes.specs.declared.attributes.NodeAttrs.{NodeAttrs}
use Rattle.wg_node_attributes.specs.declared.attributes.OutputAttr.{OutputAttr}
use Rattle.wg_shapes.specs.Naming.{elements_of}
use Rattle.wg_shapes.specs.Places.{all_outputs_where}
use Rattle.wg_shapes.specs.Records.{input_record, output_record}

abbrev pub alike : Bool → Bool → Bool
alike true b = b
alike false b = not b

-- fields of one type, of which both or neither give the record's grid
abbrev pub same_field : TypedField → TypedField → Bool
same_field f g = same_type f.of g.of && alike (is_grid_field f) (is_grid_field g)

-- as many fields, in the same order
abbrev pub same_fields : List TypedField → List TypedField → Bool
same_fields [] [] = true
same_fields [] (g ∷ gs) = false
same_fields (f ∷ fs) [] = false
same_fields (f ∷ fs) (g ∷ gs) = same_field f g && same_fields fs gs

abbrev pub same_fields_in : TypedStruct → Option TypedStruct → Bool
same_fields_in s None = false
same_fields_in s (Some t) = same_fields s.fields t.fields

abbrev pub same_struct : Option TypedStruct → Option TypedStruct → Bool
same_struct None t = false
same_struct (Some s) t = same_fields_in s t

-- Records of one type match those of another, where either may be no record type: then there are no words.
abbrev pub matches : List TypedStruct → Option ℕ → Option ℕ → Bool
matches structs None None = true
matches structs None (Some taken) = words_of structs (Struct taken) == 0
matches structs (Some sent) None = false
matches structs (Some sent) (Some taken) = same_struct (slice_get structs sent) (slice_get structs taken)

-- a node does not take records of a type; where there is no node, there is nothing to take
abbrev pub refuses : Typed → Option ℕ → Option NodeAttrs → Bool
refuses typed sent None = false
refuses typed sent (Some a) = not (matches typed.structs sent (input_record typed a))

-- the same of the node of an element
abbrev pub refuses_at : Typed → List NodeAttrs → Option ℕ → Option ℕ → Bool
refuses_at typed nodes sent element = refuses typed sent (element >>= slice_get nodes)

abbrev pub differs : Typed → List NodeAttrs → NodeAttrs → OutputAttr → Bool
differs typed nodes a o = list_any (refuses_at typed nodes (output_record typed a o)) (elements_of nodes o)

abbrev pub record_differs : Typed → List NodeAttrs → List Place
record_differs typed nodes = all_outputs_where typed (differs typed nodes) nodes
