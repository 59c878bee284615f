use Rattle.std.proofs.Common.{sym, subst, arith}
use Rattle.wg_tree.specs.GrammarExpr as grammar
use Rattle.wg_cursor.specs.IsReading.{IsReading}
use Rattle.wg_expressions.proofs.Rooms.{reads_below}
use Rattle.wg_expressions.proofs.nesting.+nested.Goals as goal

pub returns-in-Whole : goal.returns-in-Whole
returns-in-Whole t c = rw c.in-Whole.is (subst (λ o. IsReading o c.expr.result c.expr.new.cursor) (sym (reads_below c.args.kind c.args.room grammar.whole c.args.cursor.now (omega arith))) c.expr.ensures)

pub returns-in-Operand : goal.returns-in-Operand
returns-in-Operand t c = rw c.in-Operand.is (subst (λ o. IsReading o c.unary.result c.unary.new.cursor) (sym (reads_below c.args.kind c.args.room grammar.operand c.args.cursor.now (omega arith))) c.unary.ensures)
