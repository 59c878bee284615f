use Rattle.std.proofs.Common.{◌∙◌, sym, subst}
use Rattle.wg_cursor.specs.IsReading.{IsReading}
use Rattle.wg_expressions.proofs.OperandKinds.{reads_plain}
use Rattle.wg_expressions.proofs.inner.Inner.unary.Goals as goal

pub returns-else-begins-2 : goal.returns-else-begins-2
returns-else-begins-2 g c =
    subst (λ o. IsReading o c.plain_operand.result c.plain_operand.new.cursor)
    (sym (reads_plain c.args.self.now.kind c.args.self.now.room c.args.cursor.now c.in-Full.is (sym c.begins.ensures ∙ c.if-begins.false) (sym c.begins-else-begins.ensures ∙ c.if-begins-2.false))) c.plain_operand.ensures
