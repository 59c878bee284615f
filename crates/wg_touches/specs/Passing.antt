-- Whether all that a part of a text does to the shared buffers passes a test: additions pass, reads and exchanges do not, and stores pass
-- where they are let through. Own.
use Rattle.std.specs.Prelude.{ℕ, Bool, true, false, List, map, Option, Some, None}
use Rattle.std.specs.List.{list_all}
use Rattle.wg_additive.specs.Touch.{Touch, a_read, a_store, an_addition, an_exchange, joined}
use Rattle.wg_additive.specs.ExprTouches.{Touched, touched, values, passed_by, call_touches, access_touches, kind_touched, expr_touched, link_touched}
use Rattle.wg_additive.specs.StmtTouches.{stmt_touches, declared_touches, steps_touches}
use Rattle.wg_additive.specs.TextTouches.{function_touches}
use Rattle.wg_typed.specs.Directions.{direction_of}
use Rattle.wg_typed.specs.declared.typed.TypedFunction.{TypedFunction}
use Rattle.wg_typed.specs.declared.typed.TypedParameter.{TypedParameter}
use Rattle.wg_typed.specs.declared.typed_expr.Access.{Access}
use Rattle.wg_typed.specs.declared.typed_expr.Access.TheFolds.{fold-Access, fold-TypedLink}
use Rattle.wg_typed.specs.declared.typed_expr.TypedExpr.{TypedExpr}
use Rattle.wg_typed.specs.declared.typed_expr.TypedLink.{TypedLink}
use Rattle.wg_typed.specs.declared.typed_stmt.TypedDeclarator.{TypedDeclarator}
use Rattle.wg_typed.specs.declared.typed_stmt.TypedStep.{TypedStep}
use Rattle.wg_typed.specs.declared.typed_stmt.TypedStmt.{TypedStmt}
use Rattle.wg_touches.specs.declared.expressions.Passed.{Passed}

abbrev pub allows : Bool → Touch → Bool
allows stores a_read = false
allows stores a_store = stores
allows stores an_addition = true
allows stores an_exchange = false

abbrev pub passes : Bool → List Touch → Bool
passes stores touches = list_all (allows stores) touches

-- ---- expressions

abbrev pub passed : Bool → Touched → Passed
passed stores t = record { value = passes stores t.value; place = passes stores t.place; in_buffer = t.in_buffer }

abbrev pub outside_passed : Bool → Passed
outside_passed value = record { value = value; place = value; in_buffer = false }

-- an argument without a parameter is taken for its value
abbrev pub argument_touches : Option TypedParameter → Touched → List Touch
argument_touches None t = t.value
argument_touches (Some p) t = passed_by (direction_of p.direction) t

abbrev pub values_pass : Bool → List TypedFunction → List TypedExpr → Bool
values_pass stores functions es = passes stores (values (map (touched functions) es))

abbrev pub operand_touched : List TypedFunction → TypedLink → Touched
operand_touched functions = fold-TypedLink (List Touch) Touched Touched Touched access_touches (kind_touched functions) expr_touched link_touched

abbrev pub links_pass : Bool → List TypedFunction → List TypedLink → Bool
links_pass stores functions links = passes stores (values (map (operand_touched functions) links))

abbrev pub form_touches : List TypedFunction → Access → List Touch
form_touches functions = fold-Access (List Touch) Touched Touched Touched access_touches (kind_touched functions) expr_touched link_touched

abbrev pub forms_pass : Bool → List TypedFunction → List Access → Bool
forms_pass stores functions forms = passes stores (joined (map (form_touches functions) forms))

abbrev pub call_passes : Bool → List TypedFunction → ℕ → List TypedExpr → Bool
call_passes stores functions function arguments = passes stores (call_touches functions function (map (touched functions) arguments))

-- ---- statements

abbrev pub declared_pass : Bool → List TypedFunction → List TypedDeclarator → Bool
declared_pass stores functions declared = passes stores (declared_touches functions declared)

abbrev pub steps_pass : Bool → List TypedFunction → List TypedStep → Bool
steps_pass stores functions steps = passes stores (steps_touches functions steps)

abbrev pub body_passes : Bool → List TypedFunction → List TypedStmt → Bool
body_passes stores functions body = passes stores (joined (map (stmt_touches functions) body))

-- ---- texts

abbrev pub functions_pass : Bool → List TypedFunction → List TypedFunction → Bool
functions_pass stores functions fs = passes stores (joined (map (function_touches functions) fs))
