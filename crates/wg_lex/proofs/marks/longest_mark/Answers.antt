use Rattle.std.proofs.Common.{sym, ◌∙◌}
use Rattle.wg_lex.proofs.MarkSizes.{triple, double, single, no_mark, ones, twos, threes}
use Rattle.wg_lex.proofs.marks.longest_mark.Goals as goal

pub returns-in-Some-clause-some : goal.returns-in-Some-clause-some
returns-in-Some-clause-some c = triple c.args.text.now c.in-Some.mark
    (sym c.in-Some.is ∙ c.triple.ensures ∙ threes c.args.text.now c.byte-b.result c.byte-c.result c.byte-d.result c.byte-b.ensures c.byte-c.ensures c.byte-d.ensures)

pub returns-in-Some-double-clause-some : goal.returns-in-Some-double-clause-some
returns-in-Some-double-clause-some c = double c.args.text.now c.in-Some-double.mark
    (sym c.in_default.is ∙ c.triple.ensures ∙ threes c.args.text.now c.byte-b.result c.byte-c.result c.byte-d.result c.byte-b.ensures c.byte-c.ensures c.byte-d.ensures)
    (sym c.in-Some-double.is ∙ c.double.ensures ∙ twos c.args.text.now c.byte-b.result c.byte-c.result c.byte-b.ensures c.byte-c.ensures)

pub returns-in-Some-single-clause-some : goal.returns-in-Some-single-clause-some
returns-in-Some-single-clause-some c = single c.args.text.now c.in-Some-single.mark
    (sym c.in_default.is ∙ c.triple.ensures ∙ threes c.args.text.now c.byte-b.result c.byte-c.result c.byte-d.result c.byte-b.ensures c.byte-c.ensures c.byte-d.ensures)
    (sym c.in_default-double.is ∙ c.double.ensures ∙ twos c.args.text.now c.byte-b.result c.byte-c.result c.byte-b.ensures c.byte-c.ensures)
    (sym c.in-Some-single.is ∙ c.single.ensures ∙ ones c.args.text.now c.byte-b.result c.byte-b.ensures)

pub returns-in_default-single-clause-none : goal.returns-in_default-single-clause-none
returns-in_default-single-clause-none c = no_mark c.args.text.now
    (sym c.in_default.is ∙ c.triple.ensures ∙ threes c.args.text.now c.byte-b.result c.byte-c.result c.byte-d.result c.byte-b.ensures c.byte-c.ensures c.byte-d.ensures)
    (sym c.in_default-double.is ∙ c.double.ensures ∙ twos c.args.text.now c.byte-b.result c.byte-c.result c.byte-b.ensures c.byte-c.ensures)
    (sym c.in_default-single.is ∙ c.single.ensures ∙ ones c.args.text.now c.byte-b.result c.byte-b.ensures)
