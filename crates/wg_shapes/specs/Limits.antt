-- What is known of the attributes of a well-typed text that breaks no rule of attributes: the limits of this project and the forms of names.
use Rattle.std.specs.Prelude.{◌≡◌, ℕ, ◌<◌, ◌≤◌, List, length, map, slice_get, Some, IsTrue}
use Rattle.wg_words.specs.Characters.{is_identifier}
use Rattle.wg_words.specs.Each.{Each}
use Rattle.wg_words.specs.declared.limits.TheConstants.{MOST_BUFFERS, MOST_ELEMENTS, MOST_OUTPUTS, MOST_RECORDS, MOST_RECORD_WORDS, MOST_RECURSION_DEPTH}
use Rattle.wg_machine.specs.GoodShape.{IsBetween, IsGoodKind}
use Rattle.wg_machine.specs.Units.{is_broadcasting}
use Rattle.wg_typed.specs.declared.typed.Typed.{Typed}
use Rattle.wg_node_attributes.specs.declared.attributes.NodeAttrs.{NodeAttrs}
use Rattle.wg_node_attributes.specs.declared.attributes.OutputAttr.{OutputAttr}
use Rattle.wg_shapes.specs.Level.{depth_declared}
use Rattle.wg_shapes.specs.Records.{input_record, output_record, record_words, shares_input}
use Rattle.wg_shapes.specs.ShapeOf.{buffer_name, budgets_of}

pub record IsGoodOutputAttr (typed : Typed) (a : NodeAttrs) (o : OutputAttr) : Type 0 where
  pub words : record_words typed.structs (output_record typed a o) ≤ MOST_RECORD_WORDS
  pub count : IsBetween 1 MOST_ELEMENTS o.elements

pub record IsGoodNode (typed : Typed) (a : NodeAttrs) : Type 0 where
  pub name : IsTrue (is_identifier a.name)
  pub index : a.index < MOST_ELEMENTS
  pub recursion : depth_declared a ≤ MOST_RECURSION_DEPTH
  pub words : record_words typed.structs (input_record typed a) ≤ MOST_RECORD_WORDS
  pub kind : IsGoodKind (record_words typed.structs (input_record typed a)) a.kind
  pub budgets : Each (IsBetween 1 MOST_RECORDS) (budgets_of a.outputs)
  pub few_outputs : length a.outputs ≤ MOST_OUTPUTS
  pub outputs : Each (IsGoodOutputAttr typed a) a.outputs
  pub shared : IsTrue (shares_input typed a) → IsTrue (is_broadcasting a.kind)

pub record AreGoodAttrs (typed : Typed) (nodes : List NodeAttrs) : Type 0 where
  pub nodes_good : Each (IsGoodNode typed) nodes
  pub few_buffers : length typed.buffers ≤ MOST_BUFFERS
  pub buffer_names : Each (λ name. IsTrue (is_identifier name)) (map buffer_name typed.buffers)
  pub buffers_differ : (i j : ℕ) (name : List ℕ) → slice_get (map buffer_name typed.buffers) i ≡ Some name → slice_get (map buffer_name typed.buffers) j ≡ Some name → i ≡ j
