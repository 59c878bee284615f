use Rattle.std.proofs.Common.{◌∙◌, sym, [], ◌∷◌}
use Rattle.std.proofs.lemmas.Result.{err_from_is_err_and}
use Rattle.wg_tokens.specs.declared.mark.Mark.TheVariants as sign
use Rattle.wg_tree.specs.GrammarExpr as grammar
use Rattle.wg_tokens.specs.Classes.{class, of_mark}
use Rattle.wg_grammar.specs.Productions.{of, list}
use Rattle.wg_expressions.specs.Rooms.{read}
use Rattle.wg_expressions.proofs.inner.Inner.forms.Goals as goal

pub returns-then-not-sees : goal.returns-then-not-sees
returns-then-not-sees g c =
    c.read_by_turns.ensures.ends (of class (of_mark sign.Dot ∷ of_mark sign.LeftBracket ∷ [])) (read c.args.self.now.kind c.args.self.now.room grammar.a_form) c.left-turn-end.result c.loop-turn._turn c.loop-turn.found c.loop-turn.cursor (read c.args.self.now.kind c.args.self.now.room (list grammar.a_form) c.args.cursor.now) c.loop-turn-test.true c.loop-turn.invariant
    (sym c.sees.ensures ∙ c.if-not-sees.true)

pub returns-in_err-form : goal.returns-in_err-form
returns-in_err-form g c =
    let p = err_from_is_err_and c.from_residual.result c.from_residual.ensures.1 in
    rw (p.1, p.2)
    (c.read_by_turns.ensures.halts (of class (of_mark sign.Dot ∷ of_mark sign.LeftBracket ∷ [])) (read c.args.self.now.kind c.args.self.now.room grammar.a_form) c.left-turn-end.result c.loop-turn._turn c.loop-turn.found c.loop-turn.cursor (read c.args.self.now.kind c.args.self.now.room (list grammar.a_form) c.args.cursor.now) c.loop-turn-test.true c.loop-turn.invariant
    _ _ (sym c.sees.ensures ∙ c.if-not-sees.false) c.in_err-form.ensures)

pub loop-turn-preserved : goal.loop-turn-preserved
loop-turn-preserved g c =
    c.read_by_turns.ensures.goes_on (of class (of_mark sign.Dot ∷ of_mark sign.LeftBracket ∷ [])) (read c.args.self.now.kind c.args.self.now.room grammar.a_form) c.left-turn-end.result c.loop-turn._turn c.loop-turn.found c.loop-turn.cursor (read c.args.self.now.kind c.args.self.now.room (list grammar.a_form) c.args.cursor.now) c.loop-turn-test.true c.loop-turn.invariant
    _ _ _ c.in_ok-push.ensures.ok (sym c.sees.ensures ∙ c.if-not-sees.false) c.in_ok-form.ensures
