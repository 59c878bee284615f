use Rattle.std.proofs.Common.{◌+◌, sym, ◌∙◌, ap, subst, refl}
use Rattle.wg_lex.specs.Fronts.{IsFront}
use Rattle.wg_lex.proofs.Cutting.{SoFar, begin, only}
use Rattle.wg_lex.proofs.LexAnswers.{skipped, taken, moved, wide, opened, strayed, fits}
use Rattle.wg_lex.proofs.text.cut.Goals as goal
use Rattle.wg_lex.proofs.text.cut.Goals.{in-Skipped, in-Token+in_ok-push-in-Token}

pub loop-at-init : goal.loop-at-init
loop-at-init c = (c.if-text-gt-MOST_BYTES.false, subst (λ z. SoFar c.args.text.now 0 z) (sym c.new-tokens.ensures.items) (begin c.args.text.now), refl)

pub returns-in-WideLiteral-clause-fault : goal.returns-in-WideLiteral-clause-fault
returns-in-WideLiteral-clause-fault c = wide c.args.text.now c.after-rest.result.now c.loop-at.at c.loop-at.position c.loop-at.tokens.items c.loop-at.invariant.0 c.after-rest.ensures c.loop-at.invariant.2 (subst (λ z. IsFront c.after-rest.result.now z) c.in-WideLiteral.is c.in_ok-size.ensures) c.loop-at.invariant.1

pub returns-in-OpenComment-clause-fault : goal.returns-in-OpenComment-clause-fault
returns-in-OpenComment-clause-fault c = opened c.args.text.now c.after-rest.result.now c.loop-at.at c.loop-at.position c.loop-at.tokens.items c.loop-at.invariant.0 c.after-rest.ensures c.loop-at.invariant.2 (subst (λ z. IsFront c.after-rest.result.now z) c.in-OpenComment.is c.in_ok-size.ensures) c.loop-at.invariant.1

pub returns-in-Stray-clause-fault : goal.returns-in-Stray-clause-fault
returns-in-Stray-clause-fault c = strayed c.args.text.now c.after-rest.result.now c.loop-at.at c.byte.result c.loop-at.position c.stray.result c.loop-at.tokens.items c.loop-at.invariant.0 c.after-rest.ensures c.byte.ensures c.loop-at.invariant.2 (subst (λ z. IsFront c.after-rest.result.now z) c.in-Stray.is c.in_ok-size.ensures) c.loop-at.invariant.1 c.stray.ensures

pub after-position-requires-clause-column_fits : goal.after-position-requires-clause-column_fits
after-position-requires-clause-column_fits c = (fits c.args.text.now c.after-rest.result.now c.before-in-loop-at.result.now c.loop-at.at c.match-branch-2.size c.loop-at.position c.loop-at.invariant.0 c.after-rest.ensures c.before-in-loop-at.ensures c.loop-at.invariant.2).1

pub loop-at-preserved : goal.loop-at-preserved
loop-at-preserved c = (c.loop-at.invariant.0, so, moved c.args.text.now c.after-rest.result.now c.before-in-loop-at.result.now c.loop-at.at c.match-branch-2.size c.loop-at.position c.after-position.result c.after-rest.ensures c.before-in-loop-at.ensures c.loop-at.invariant.2 c.after-position.ensures)
  where
    so : SoFar c.args.text.now (c.loop-at.at + c.match-branch-2.size) c.match-branch-2.tokens.items
    so = elim c.match-branch-2.branch [
      | in-Skipped w ↦ subst (λ z. SoFar c.args.text.now (c.loop-at.at + z) c.match-branch-2.tokens.items) (sym w.size-is)
          (subst (λ z. SoFar c.args.text.now (c.loop-at.at + w.in-Skipped.size) z.items) (sym w.tokens-is)
          (skipped c.args.text.now c.after-rest.result.now c.loop-at.at w.in-Skipped.size c.loop-at.tokens.items c.after-rest.ensures
          (subst (λ z. IsFront c.after-rest.result.now z) w.in-Skipped.is c.in_ok-size.ensures) c.loop-at.invariant.1))
      | in-Token+in_ok-push-in-Token w ↦ subst (λ z. SoFar c.args.text.now (c.loop-at.at + z) c.match-branch-2.tokens.items) (sym w.size-is)
          (subst (λ z. SoFar c.args.text.now (c.loop-at.at + w.in-Token.size) z) (sym (ap (λ z. z.items) w.tokens-is ∙ w.in_ok-push-in-Token.ensures.items))
          (taken c.args.text.now c.after-rest.result.now c.loop-at.at w.in-Token.size w.in-Token.kind c.loop-at.position.place c.loop-at.tokens.items c.after-rest.ensures (ap (λ z. z.place) c.loop-at.invariant.2)
          (subst (λ z. IsFront c.after-rest.result.now z) w.in-Token.is c.in_ok-size.ensures) c.loop-at.invariant.1))
    ]

pub returns-clause-only : goal.returns-clause-only
returns-clause-only c = λ others k. only c.args.text.now c.loop-at.at c.loop-at.tokens.items others c.loop-at-test.false c.loop-at.invariant.1 k
