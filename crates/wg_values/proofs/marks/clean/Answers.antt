use Rattle.std.proofs.Common.{◌≡◌, ◌++◌, drop, ◌+◌, sym, ap, ◌∙◌, subst}
use Rattle.std.specs.Prelude.{slice_index}
use Rattle.wg_typed.specs.Marks.{cleaned_word, cleaned}
use Rattle.wg_values.proofs.MarkLoops.{cleaned_more}
use Rattle.wg_values.proofs.marks.clean.Goals as goal

pub loop-at-preserved : goal.loop-at-preserved
loop-at-preserved c =
    subst (λ list. list ++ cleaned (drop (c.loop-at.at + 1) c.args.marks.now) (drop (c.loop-at.at + 1) c.args.words.now) ≡ cleaned c.args.marks.now c.args.words.now) (sym c.in_ok-push.ensures.ok)
    (cleaned_more c.loop-at.list _ c.args.marks.now c.args.words.now c.loop-at.at c.clean_word.result c.loop-at-test.true
    (c.clean_word.ensures ∙ ap (λ m. cleaned_word m (slice_index c.args.words.now c.loop-at.at)) c.mark_behind.ensures) c.loop-at.invariant)
