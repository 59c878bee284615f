use Rattle.std.proofs.Common.{◌≡◌, ◌∙◌, ℕ, List, Option, length, ap, ap₂, sym, subst}
use Rattle.std.specs.List.{AllZip}
use Rattle.wg_words.specs.Each.{Each}
use Rattle.wg_machine.specs.Unrolling.{unrolled}
use Rattle.wg_node_attributes.specs.declared.attributes.NodeAttrs.{NodeAttrs}
use Rattle.wg_node_attributes.specs.declared.attributes.OutputAttr.{OutputAttr}
use Rattle.wg_shapes.specs.Level.{top_levels}
use Rattle.wg_shapes.specs.Naming.{elements_of}
use Rattle.wg_shapes.specs.Records.{output_record, record_words}
use Rattle.wg_shapes.specs.ShapeOf.{arrival}
use Rattle.wg_units.specs.Numbers.{IsNodeBelow, IsPlaceOf}
use Rattle.wg_graph.proofs.Fullness.{all_at_units, elements_below, item_is, node_is}
use Rattle.wg_graph.proofs.sends.output.Goals as goal

pub returns : goal.returns
returns c a o units e f at =
    let nodes = c.args.nodes.now in
    let a_is = node_is nodes c.args.n c.index-nodes-n.result a c.requires.within c.index-nodes-n.is e in
    let o_is = item_is c.as_slice.result.now a.outputs c.args.number c.index-as_slice-number.result o (c.as_slice.ensures ∙ ap (λ (x : NodeAttrs). x.outputs) a_is) f c.index-as_slice-number.is in
    let es : c.as_slice-2.result.now ≡ elements_of nodes o = c.as_slice-2.ensures ∙ (c.in_ok-found.ensures nodes c.requires.known.directory ∙ ap (elements_of nodes) o_is) in
    let all = c.in_ok-targets.ensures nodes c.requires.known.tops c.requires.within c.requires.level (subst (Each (IsNodeBelow (length nodes))) (sym es) (elements_below nodes o)) in
    record {
      budget = ap (λ (x : OutputAttr). x.budget) o_is;
      words = c.words_of.ensures ∙ ap (record_words c.args.typed.now.structs) (c.output_record.ensures ∙ ap₂ (output_record c.args.typed.now) a_is o_is);
      elements = all_at_units nodes units c.args.n c.args.level at (elements_of nodes o) c.in_ok-targets.targets
          (subst (λ (l : List (Option ℕ)). AllZip (λ (e : Option ℕ) (t : Option ℕ). IsPlaceOf (unrolled 0 (top_levels nodes)) (arrival nodes c.args.n c.args.level e) t) l c.in_ok-targets.targets) es all);
    }
