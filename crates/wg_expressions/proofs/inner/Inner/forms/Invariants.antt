use Rattle.std.proofs.Common.{◌≡◌, ◌-◌, [], ◌∷◌}
use Rattle.wg_tokens.specs.declared.mark.Mark.TheVariants as sign
use Rattle.wg_tree.specs.GrammarExpr as grammar
use Rattle.wg_tokens.specs.Classes.{class, of_mark}
use Rattle.wg_grammar.specs.Productions.{of, list}
use Rattle.wg_grammar.specs.Reading.{many_from}
use Rattle.wg_expressions.specs.Rooms.{read}
use Rattle.wg_cursor.specs.Turns.{with_front}
use Rattle.wg_expressions.proofs.inner.Inner.forms.Given as goal

abbrev pub invariant-loop-turn : goal.invariant-loop-turn
invariant-loop-turn g l = with_front l.found (many_from (of class (of_mark sign.Dot ∷ of_mark sign.LeftBracket ∷ [])) (read l.self.kind l.self.room grammar.a_form) (l._turn-end - l._turn) l.cursor) ≡ read l.self.kind l.self.room (list grammar.a_form) l.fn.cursor
