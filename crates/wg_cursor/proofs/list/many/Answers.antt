use Rattle.std.proofs.Common.{◌∙◌, sym, ap}
use Rattle.std.proofs.lemmas.Result.{err_from_is_err_and}
use Rattle.wg_grammar.specs.Productions.{of}
use Rattle.wg_grammar.specs.Reading.{Got}
use Rattle.wg_tokens.specs.Classes.{class}
use Rattle.wg_cursor.specs.ClassSets.{numbers}
use Rattle.wg_cursor.proofs.TurnSteps.{turn_off, turn_on, turn_halts}
use Rattle.wg_cursor.proofs.list.many.Goals as goal

pub returns-then-not-sees : goal.returns-then-not-sees
returns-then-not-sees g c =
    turn_off _ (g.R.ElementReader.reads c.args.rule.now) _ _ c.loop-turn.found.items c.loop-turn.cursor _ c.loop-turn-test.true c.loop-turn.invariant (sym c.sees.ensures ∙ c.if-not-sees.true)
    ∙ ap (λ z. Got z c.loop-turn.cursor) (sym c.fitted.ensures)

pub returns-in_err-read : goal.returns-in_err-read
returns-in_err-read g c =
    let p = err_from_is_err_and c.from_residual.result c.from_residual.ensures.1 in
    rw (p.1, p.2) (turn_halts (of class (numbers c.args.starts.now)) (g.R.ElementReader.reads c.args.rule.now) _ _ c.loop-turn.found.items c.loop-turn.cursor _ c.loop-turn-test.true c.loop-turn.invariant _ c.in_err-read.field-0.0
    (sym c.sees.ensures ∙ c.if-not-sees.false) c.in_err-read.ensures)

pub loop-turn-preserved : goal.loop-turn-preserved
loop-turn-preserved g c =
    turn_on (of class (numbers c.args.starts.now)) (g.R.ElementReader.reads c.args.rule.now) _ _ c.loop-turn.found.items c.loop-turn.cursor _ c.loop-turn-test.true c.loop-turn.invariant c.read.new.cursor c.in_ok-read.field-0 _
    c.in_ok-push.ensures.items (sym c.sees.ensures ∙ c.if-not-sees.false) c.in_ok-read.ensures
