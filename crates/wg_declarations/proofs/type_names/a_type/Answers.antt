use Rattle.std.proofs.Common.{◌∙◌, sym, subst}
use Rattle.wg_cursor.specs.IsReading.{IsReading}
use Rattle.wg_declarations.proofs.TypeReads.{name_type, value_type}
use Rattle.wg_declarations.proofs.type_names.a_type.Goals as goal

pub returns-then-sees : goal.returns-then-sees
returns-then-sees c = subst (λ o. IsReading o c.struct_type.result c.struct_type.new.cursor) (sym (name_type c.args.cursor.now (sym c.sees.ensures ∙ c.if-sees.true))) c.struct_type.ensures

pub returns-else-sees : goal.returns-else-sees
returns-else-sees c = subst (λ o. IsReading o c.type_of_values.result c.type_of_values.new.cursor) (sym (value_type c.args.cursor.now (sym c.sees.ensures ∙ c.if-sees.false))) c.type_of_values.ensures
