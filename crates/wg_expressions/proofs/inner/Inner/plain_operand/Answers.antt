use Rattle.std.proofs.Common.{◌∙◌, sym, subst}
use Rattle.wg_cursor.specs.IsReading.{IsReading}
use Rattle.wg_expressions.proofs.OperandKinds.{reads_prefixed, reads_unprefixed}
use Rattle.wg_expressions.proofs.inner.Inner.plain_operand.Goals as goal

pub returns-then-sees : goal.returns-then-sees
returns-then-sees g c = subst (λ o. IsReading o c.prefixed.result c.prefixed.new.cursor) (sym (reads_prefixed c.args.self.now.kind c.args.self.now.room c.args.cursor.now (sym c.sees.ensures ∙ c.if-sees.true))) c.prefixed.ensures

pub returns-else-sees : goal.returns-else-sees
returns-else-sees g c =
    subst (λ o. IsReading o c.unprefixed.result c.unprefixed.new.cursor) (sym (reads_unprefixed c.args.self.now.kind c.args.self.now.room c.args.cursor.now (sym c.sees.ensures ∙ c.if-sees.false))) c.unprefixed.ensures
