-- What the shape of a graph needs of its nodes to be a good one: few nodes with different names, records that their targets take, and no
-- chain that is too long. The limits are this project's own.
use Rattle.std.specs.Prelude.{◌≡◌, ⊤, ℕ, List, [], slice_get, Option, Some, None}
use Rattle.wg_words.specs.Each.{Each}
use Rattle.wg_words.specs.Maybe.{◌>>=◌}
use Rattle.wg_typed.specs.declared.typed.Typed.{Typed}
use Rattle.wg_node_attributes.specs.declared.attributes.NodeAttrs.{NodeAttrs}
use Rattle.wg_node_attributes.specs.declared.attributes.OutputAttr.{OutputAttr}
use Rattle.wg_shapes.specs.ChainTooLong.{EndsLongChain}
use Rattle.wg_shapes.specs.Naming.{elements_of}
use Rattle.wg_shapes.specs.Records.{input_record, output_record, record_words}
use Rattle.wg_shapes.specs.TooManyNodes.{too_many_nodes}
use Rattle.wg_shapes.specs.TwoOfOneName.{two_of_one_name}

-- a node takes records of so many words
abbrev pub Takes : Typed → ℕ → Option NodeAttrs → Type 0
Takes typed words None = ⊤
Takes typed words (Some a) = record_words typed.structs (input_record typed a) ≡ words

-- each node of an output takes its records
abbrev pub IsTaken : Typed → List NodeAttrs → NodeAttrs → OutputAttr → Type 0
IsTaken typed nodes a o = Each (λ (x : Option ℕ). Takes typed (record_words typed.structs (output_record typed a o)) (x >>= slice_get nodes)) (elements_of nodes o)

pub record IsBuildable (typed : Typed) (nodes : List NodeAttrs) : Type 0 where
  pub names_differ : two_of_one_name typed nodes ≡ []
  pub few : too_many_nodes typed nodes ≡ []
  pub taken : Each (λ (a : NodeAttrs). Each (IsTaken typed nodes a) a.outputs) nodes
  pub short : (n : ℕ) → EndsLongChain nodes n → ⊥
