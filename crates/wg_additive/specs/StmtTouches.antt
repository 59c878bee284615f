-- What a statement does to the shared buffers, wherever it stands and whether or not it is come to. Own.
use Rattle.std.specs.Prelude.{List, [], ◌∷◌, ◌++◌, map, Option, Some, None, is_some}
use Rattle.wg_typed.specs.declared.typed.TypedFunction.{TypedFunction}
use Rattle.wg_typed.specs.declared.typed_expr.TypedExpr.{TypedExpr}
use Rattle.wg_typed.specs.declared.typed_stmt.TypedDeclarator.{TypedDeclarator}
use Rattle.wg_typed.specs.declared.typed_stmt.Destination.{Destination}
use Rattle.wg_typed.specs.declared.typed_stmt.Destination.TheVariants as destination
use Rattle.wg_typed.specs.declared.typed_stmt.Interlocked.{Interlocked}
use Rattle.wg_typed.specs.declared.typed_stmt.TypedStep.{TypedStep}
use Rattle.wg_typed.specs.declared.typed_stmt.TypedStep.TheVariants as step
use Rattle.wg_typed.specs.declared.typed_stmt.TypedStart.{TypedStart}
use Rattle.wg_typed.specs.declared.typed_stmt.TypedStart.TheVariants as start
use Rattle.wg_typed.specs.declared.typed_stmt.TypedStmt.{TypedStmt}
use Rattle.wg_typed.specs.declared.typed_stmt.TypedStmt.TheFolds.{fold-TypedStmt}
use Rattle.wg_typed.specs.declared.typed_stmt.TypedStmt.TheOpen.{TypedStmt-F}
use Rattle.wg_additive.specs.Touch.{Touch, a_read, a_store, form_touch, joined, if_any}
use Rattle.wg_additive.specs.ExprTouches.{touched, value_touches, option_touches, place_touches, call_touches}

-- ---- steps

-- a word of a raw buffer is always in a buffer
abbrev pub destination_touches : List TypedFunction → Touch → Destination → List Touch
destination_touches functions there (destination.Scalar target) = place_touches functions (there ∷ []) target
destination_touches functions there (destination.Raw buffer address) = value_touches functions address ++ there ∷ []

-- the old word is stored where it is asked for
abbrev pub old_touches : List TypedFunction → Option TypedExpr → List Touch
old_touches functions None = []
old_touches functions (Some e) = place_touches functions (a_store ∷ []) e

abbrev pub interlocked_touches : List TypedFunction → Interlocked → List Touch
interlocked_touches functions i =
    destination_touches functions (form_touch i.form (is_some i.old)) i.destination
    ++ option_touches functions i.compare ++ value_touches functions i.value ++ old_touches functions i.old

-- `op=`, `++` and `--` read their target before they store it
abbrev pub step_touches : List TypedFunction → TypedStep → List Touch
step_touches functions (step.Evaluate value) = value_touches functions value
step_touches functions (step.Call function arguments) = call_touches functions function (map (touched functions) arguments)
step_touches functions (step.Assign target value) = place_touches functions (a_store ∷ []) target ++ value_touches functions value
step_touches functions (step.Update target operator by value) =
    place_touches functions (a_read ∷ a_store ∷ []) target ++ value_touches functions value
step_touches functions (step.Change target operator) = place_touches functions (a_read ∷ a_store ∷ []) target
step_touches functions (step.Store buffer address value) =
    value_touches functions address ++ value_touches functions value ++ a_store ∷ []
step_touches functions (step.Interlocked i) = interlocked_touches functions i

abbrev pub steps_touches : List TypedFunction → List TypedStep → List Touch
steps_touches functions steps = joined (map (step_touches functions) steps)

-- ---- declarations

abbrev pub declarator_touches : List TypedFunction → TypedDeclarator → List Touch
declarator_touches functions d = option_touches functions d.value

abbrev pub declared_touches : List TypedFunction → List TypedDeclarator → List Touch
declared_touches functions declared = joined (map (declarator_touches functions) declared)

-- what a `for` begins with
abbrev pub start_touches : List TypedFunction → Option TypedStart → List Touch
start_touches functions None = []
start_touches functions (Some (start.Declare declared)) = declared_touches functions declared
start_touches functions (Some (start.Steps steps)) = steps_touches functions steps

-- ---- statements

abbrev pub stmt_step : List TypedFunction → TypedStmt-F (List Touch) → List Touch
stmt_step functions (TypedStmt-F.Block body) = joined body
stmt_step functions TypedStmt-F.Empty = []
stmt_step functions (TypedStmt-F.Declare declared) = declared_touches functions declared
stmt_step functions (TypedStmt-F.Request handle group output element amount) =
    option_touches functions element ++ value_touches functions amount
stmt_step functions (TypedStmt-F.Increment group output element amount) =
    option_touches functions element ++ value_touches functions amount
stmt_step functions (TypedStmt-F.Complete handle) = []
stmt_step functions (TypedStmt-F.Barrier syncs) = []
stmt_step functions (TypedStmt-F.Step step) = step_touches functions step
stmt_step functions TypedStmt-F.Break = []
stmt_step functions TypedStmt-F.Continue = []
stmt_step functions (TypedStmt-F.Return value) = option_touches functions value
stmt_step functions (TypedStmt-F.If attributes collective test first other) = value_touches functions test ++ first ++ if_any other
stmt_step functions (TypedStmt-F.While attributes test body) = value_touches functions test ++ body
stmt_step functions (TypedStmt-F.For attributes start test steps body) =
    start_touches functions start ++ option_touches functions test ++ steps_touches functions steps ++ body

abbrev pub stmt_touches : List TypedFunction → TypedStmt → List Touch
stmt_touches functions = fold-TypedStmt (List Touch) (stmt_step functions)
