use Rattle.std.proofs.Common.{◌≡◌, ◌∙◌, length, ap, sym, replicate, arith}
use Rattle.std.proofs.lemmas.Result.{IfOk-weaker}
use Rattle.wg_shapes.specs.Records.{bool_words, record_words}
use Rattle.wg_graph.specs.Ones.{places_of_ones}
use Rattle.wg_graph.proofs.Truths.{bools_told, few_read}
use Rattle.wg_graph.proofs.bools.bool_words.Goals as goal

pub ones-requires : goal.ones-requires
ones-requires c =
    let words : c.as_slice.result.now ≡ replicate c.args.count 2 = c.as_slice.ensures ∙ c.in_ok-words.ensures in
    let size = few_read c.args.structs.now c.in-Some.number c.args.count c.as_slice.result.now c.in_ok-read.read words c.in_ok-read.ensures in
    let l = ap length c.as_slice-2.ensures in
    let few = c.requires.few in
    record { few = omega (arith, size, l, few) }

pub returns : goal.returns
returns c =
    let words : c.as_slice.result.now ≡ replicate c.args.count 2 = c.as_slice.ensures ∙ c.in_ok-words.ensures in
    IfOk-weaker c.ones.result _ _
    (λ places h.
    bools_told c.args.structs.now c.in-Some.number c.args.count c.as_slice.result.now c.in_ok-read.read places (c.requires.count ∙ ap (record_words c.args.structs.now) c.in-Some.is) words c.in_ok-read.ensures (h ∙ ap places_of_ones c.as_slice-2.ensures)
    ∙ ap (bool_words c.args.structs.now) (sym c.in-Some.is))
    c.ones.ensures
