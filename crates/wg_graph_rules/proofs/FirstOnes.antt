-- First places of lists.
use Rattle.std.proofs.Common.{◌≡◌, Bool, List, [], ◌∷◌, ◌++◌, drop, get_or, length, ◌<◌, ◌+◌, ℕ, sym, ap, ◌∙◌, Some}
use Rattle.std.proofs.lemmas.List.{at_drop_more}
use Rattle.wg_words.specs.declared.place.Place.{Place}
use Rattle.wg_typed.specs.declared.typed.Typed.{Typed}
use Rattle.wg_node_attributes.specs.declared.attributes.NodeAttrs.{NodeAttrs}
use Rattle.wg_node_attributes.specs.declared.attributes.OutputAttr.{OutputAttr}
use Rattle.wg_shapes.specs.Places.{outputs_where, all_outputs_where}
use Rattle.wg_graph_rules.specs.Faults.{first_of}

first_kept : (xs ys : List Place) (p : Place) → Some p ≡ first_of xs → first_of (xs ++ ys) ≡ Some p
first_kept [] ys p e = absurd cc
first_kept (x ∷ xs) ys p e = sym e

-- ---- outputs of all nodes

pub node_passes : (typed : Typed) (test : NodeAttrs → OutputAttr → Bool) (nodes : List NodeAttrs) (i : ℕ) (a : NodeAttrs) (p : Place) → i < length nodes → a ≡ get_or nodes i a → Some p ≡ first_of (outputs_where typed (test a) a a.outputs)
    → first_of (all_outputs_where typed test (drop i nodes)) ≡ Some p
node_passes typed test nodes i a p lt is e =
    at_drop_more (λ l. first_of (all_outputs_where typed test l)) nodes i a lt
    ∙ (ap (λ x. first_of (all_outputs_where typed test (x ∷ drop (i + 1) nodes))) (sym is)
    ∙ first_kept (outputs_where typed (test a) a a.outputs) (all_outputs_where typed test (drop (i + 1) nodes)) p e)
