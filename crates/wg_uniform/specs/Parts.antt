-- What is known of the parts of an expression, by the marks of its function.
use Rattle.std.specs.Prelude.{Bool, true, List, map, Option, Some, None}
use Rattle.wg_typed.specs.declared.typed_expr.TypedExpr.{TypedExpr}
use Rattle.wg_typed.specs.declared.typed_expr.Access.{Access}
use Rattle.wg_typed.specs.declared.typed_expr.TypedLink.{TypedLink}
use Rattle.wg_typed.specs.Uniform.{UniformSetting, Spread, spread_of, operand_spread, form_taken, all_uniform, all_taken, is_uniform}
use Rattle.wg_uniform.specs.declared.uniform.Found.{Found}

-- what the code found, as the definition has it
abbrev pub spread_in : Found → Spread
spread_in f = record { whole = f.whole; field = f.field }

-- an index that is not written is 0
abbrev pub has_uniform_index : UniformSetting → Option TypedExpr → Bool
has_uniform_index u None = true
has_uniform_index u (Some e) = is_uniform u e

abbrev pub are_uniform : UniformSetting → List TypedExpr → Bool
are_uniform u values = all_uniform (map (spread_of u) values)

abbrev pub have_uniform_operands : UniformSetting → List TypedLink → Bool
have_uniform_operands u links = all_uniform (map (operand_spread u) links)

-- what forms take of a value
abbrev pub after_forms : UniformSetting → Spread → List Access → Spread
after_forms u s forms = all_taken s (map (form_taken u) forms)
