-- Which steps and declarations are lowered. Own.
use Rattle.std.specs.Prelude.{ℕ, Bool, true, false, ◌&&◌, nat_eq, List, [], ◌∷◌, Option, Some, None}
use Rattle.wg_tree.specs.declared.expr.BinaryOperator.{BinaryOperator}
use Rattle.wg_tree.specs.declared.expr.BinaryOperator.TheVariants as binary
use Rattle.wg_typed.specs.declared.types.TypeTree.{TypeTree}
use Rattle.wg_typed.specs.declared.typed_expr.Access.TheFolds.{fold-TypedExpr}
use Rattle.wg_typed.specs.declared.typed_expr.Access.TheOpen.{TypedExpr-F, TypedKind-F, Access-F, TypedLink-F}
use Rattle.wg_typed.specs.declared.typed_expr.TypedExpr.{TypedExpr}
use Rattle.wg_typed.specs.declared.typed_stmt.TypedDeclarator.{TypedDeclarator}
use Rattle.wg_typed.specs.declared.typed_stmt.TypedStart.{TypedStart}
use Rattle.wg_typed.specs.declared.typed_stmt.TypedStart.TheVariants as start
use Rattle.wg_typed.specs.declared.typed_stmt.TypedStep.{TypedStep}
use Rattle.wg_typed.specs.declared.typed_stmt.TypedStep.TheVariants as step
use Rattle.wg_lowered.specs.Where.{Names, size}
use Rattle.wg_lowered.specs.Fits.{typing, is_narrow, converts, variable_fits}

-- ---- places: a variable, or a part of one that is no list of several components

abbrev pub access_step : Access-F Bool Bool Bool Bool → Bool
access_step (Access-F.Field field of) = true
access_step (Access-F.Components [] of) = false
access_step (Access-F.Components (c ∷ []) of) = true
access_step (Access-F.Components (c ∷ x ∷ components) of) = false
access_step (Access-F.Index index of) = true

abbrev pub all_true : List Bool → Bool
all_true [] = true
all_true (b ∷ rest) = b && all_true rest

abbrev pub kind_step : TypedKind-F Bool Bool Bool Bool → Bool
kind_step (TypedKind-F.Variable variable) = true
kind_step (TypedKind-F.Shared variable) = true
kind_step (TypedKind-F.Access base forms) = base && all_true forms
kind_step _ = false

abbrev pub expr_step : TypedExpr-F Bool Bool Bool Bool → Bool
expr_step e = e.kind

abbrev pub link_step : TypedLink-F Bool Bool Bool Bool → Bool
link_step l = false

abbrev pub is_place : TypedExpr → Bool
is_place = fold-TypedExpr Bool Bool Bool Bool access_step kind_step expr_step link_step

-- ---- steps

abbrev pub is_target : Names → TypedExpr → Bool
is_target k e = (typing k e).fits && is_place e

-- an expression of so many words
abbrev pub value_fits : Names → TypedExpr → ℕ → Bool
value_fits k e n = (typing k e).fits && nat_eq (size k (typing k e).of) n

-- `&&` and `||` are no operators of an assignment
abbrev pub is_wordly : BinaryOperator → Bool
is_wordly binary.And = false
is_wordly binary.Or = false
is_wordly _ = true

abbrev pub combines : Names → TypeTree → BinaryOperator → TypeTree → Bool
combines k of operator by = (is_wordly operator && is_narrow by) && (converts k of by && converts k by of)

abbrev pub step_fits : Names → TypedStep → Bool
step_fits k (step.Evaluate value) = (typing k value).fits
step_fits k (step.Assign target value) = is_target k target && value_fits k value (size k (typing k target).of)
step_fits k (step.Update target operator by value) =
    is_target k target && (combines k (typing k target).of operator by && value_fits k value (size k by))
step_fits k (step.Change target operator) = is_target k target && is_narrow (typing k target).of
step_fits k _ = false

abbrev pub steps_fit : Names → List TypedStep → Bool
steps_fit k [] = true
steps_fit k (s ∷ rest) = step_fits k s && steps_fit k rest

abbrev pub start_value_fits : Names → ℕ → Option TypedExpr → Bool
start_value_fits k n None = true
start_value_fits k n (Some e) = value_fits k e n

abbrev pub declare_fits : Names → TypedDeclarator → Bool
declare_fits k v = variable_fits k.variables v.variable (size k v.of) && start_value_fits k (size k v.of) v.value

abbrev pub declares_fit : Names → List TypedDeclarator → Bool
declares_fit k [] = true
declares_fit k (v ∷ rest) = declare_fits k v && declares_fit k rest

abbrev pub start_fits : Names → Option TypedStart → Bool
start_fits k None = true
start_fits k (Some (start.Declare declarators)) = declares_fit k declarators
start_fits k (Some (start.Steps steps)) = steps_fit k steps
