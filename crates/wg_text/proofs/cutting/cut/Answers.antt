use Rattle.std.proofs.Common.{◌∙◌, List, ℕ, Some, ap, sym, take}
use Rattle.wg_text.specs.Cut.{separates}
use Rattle.wg_text.proofs.CutLemmas.{cut_here, cut_later}
use Rattle.wg_text.proofs.cutting.cut.Goals as goal

pub returns-then-is : goal.returns-then-is
returns-then-is c =
    ap (λ (t : List ℕ). Some (take c.loop-end.end c.args.text.now, t)) c.split_at.ensures.back
    ∙ cut_here (separates c.args.at) c.args.text.now c.loop-end.end c.loop-end-test.true (sym c.is.ensures ∙ c.if-is.true) c.loop-end.invariant

pub loop-end-preserved : goal.loop-end-preserved
loop-end-preserved c = cut_later (separates c.args.at) c.args.text.now c.loop-end.end c.loop-end-test.true (sym c.is.ensures ∙ c.if-is.false) c.loop-end.invariant
