use Rattle.std.proofs.Common.{◌≡◌, ◌∙◌, Some, refl, ap, ap₂, sym, slice_get}
use Rattle.std.proofs.lemmas.Option.{slice_get-get_or}
use Rattle.wg_shapes.specs.Records.{bool_words, record_words}
use Rattle.wg_shapes.specs.ShapeOf.{budgets_of}
use Rattle.wg_graph.proofs.filling.unit.Goals as goal

pub returns-clause-right : goal.returns-clause-right
returns-clause-right c units at =
    let there : slice_get c.args.nodes.now c.args.n ≡ Some c.index-nodes-n.result = slice_get-get_or c.args.nodes.now c.args.n c.index-nodes-n.result c.requires.within ∙ ap (λ x. Some x) (sym c.index-nodes-n.is) in
    record {
      node = c.index-nodes-n.result;
      there = there;
      is = record {
        depth = c.depth.ensures;
        words = c.words_of-words.ensures ∙ ap (record_words c.args.typed.now.structs) c.input_record-held.ensures;
        stride = c.stride.ensures;
        kind = refl;
        entry = c.is_entry.ensures;
        budgets = c.in_ok-budgets.ensures ∙ ap budgets_of c.as_slice.ensures;
        outputs = c.in_ok-outputs.ensures c.index-nodes-n.result units there at;
        bools = c.in_ok-bools.ensures ∙ ap₂ bool_words c.requires.structs c.input_record-held.ensures;
        shared = c.shares_input.ensures;
      };
    }
