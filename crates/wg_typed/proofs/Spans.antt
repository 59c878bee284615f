-- How far a walk over a typed text has to go, calls included: each step of the walk leaves less.
use Rattle.std.proofs.Common.{ℕ, ◌+◌, List, [], map, take, Option, Some, None}
use Rattle.wg_typed.specs.declared.typed_expr.TypedExpr.{TypedExpr}
use Rattle.wg_typed.specs.declared.typed_expr.Access.{Access}
use Rattle.wg_typed.specs.declared.typed_expr.TypedLink.{TypedLink}
use Rattle.wg_typed.specs.declared.typed_expr.Access.TheFolds.{fold-TypedExpr, fold-Access, fold-TypedLink}
use Rattle.wg_typed.specs.declared.typed_expr.Access.TheOpen.{TypedExpr-F, TypedKind-F, Access-F, TypedLink-F}
use Rattle.wg_typed.specs.declared.typed_stmt.TypedDeclarator.{TypedDeclarator}
use Rattle.wg_typed.specs.declared.typed_stmt.Destination.{Destination}
use Rattle.wg_typed.specs.declared.typed_stmt.Destination.TheVariants as destination
use Rattle.wg_typed.specs.declared.typed_stmt.Interlocked.{Interlocked}
use Rattle.wg_typed.specs.declared.typed_stmt.TypedStep.{TypedStep}
use Rattle.wg_typed.specs.declared.typed_stmt.TypedStep.TheVariants as step
use Rattle.wg_typed.specs.declared.typed_stmt.TypedStart.{TypedStart}
use Rattle.wg_typed.specs.declared.typed_stmt.TypedStart.TheVariants as start
use Rattle.wg_typed.specs.declared.typed_stmt.TypedStmt.{TypedStmt}
use Rattle.wg_typed.specs.declared.typed_stmt.TypedStmt.TheFolds.{fold-TypedStmt}
use Rattle.wg_typed.specs.declared.typed_stmt.TypedStmt.TheOpen.{TypedStmt-F}
use Rattle.wg_typed.specs.declared.typed.TypedFunction.{TypedFunction}
use Rattle.wg_typed.specs.Weight.{total, called_weight}
use Rattle.wg_typed.specs.Earlier.{each_after}

abbrev pub option_count : Option ℕ → ℕ
option_count None = 1
option_count (Some n) = 1 + n

abbrev pub kind_span : List ℕ → TypedKind-F ℕ ℕ ℕ ℕ → ℕ
kind_span earlier (TypedKind-F.Literal words) = 1
kind_span earlier (TypedKind-F.Variable variable) = 1
kind_span earlier (TypedKind-F.Shared variable) = 1
kind_span earlier (TypedKind-F.Element buffer index) = 1 + index
kind_span earlier (TypedKind-F.Load buffer address) = 1 + address
kind_span earlier (TypedKind-F.Input index) = 1 + option_count index
kind_span earlier TypedKind-F.Count = 1
kind_span earlier TypedKind-F.Finished = 1
kind_span earlier (TypedKind-F.Handle handle index) = 1 + option_count index
kind_span earlier (TypedKind-F.IsValid output element) = 1 + option_count element
kind_span earlier TypedKind-F.Levels = 1
kind_span earlier TypedKind-F.Zeros = 1
kind_span earlier (TypedKind-F.Access base forms) = 2 + (base + total forms)
kind_span earlier (TypedKind-F.Prefix operator operand) = 1 + operand
kind_span earlier (TypedKind-F.Convert operand) = 1 + operand
kind_span earlier (TypedKind-F.Chain first rest) = 2 + (first + total rest)
kind_span earlier (TypedKind-F.Choice test then other) = 1 + (test + (then + other))
kind_span earlier (TypedKind-F.Construct parts) = 2 + total parts
kind_span earlier (TypedKind-F.Call function arguments) = 3 + (total arguments + called_weight earlier function)
kind_span earlier (TypedKind-F.Intrinsic _ arguments) = 2 + total arguments

abbrev pub access_span : Access-F ℕ ℕ ℕ ℕ → ℕ
access_span (Access-F.Field field of) = 1
access_span (Access-F.Components components of) = 1
access_span (Access-F.Index index of) = 1 + index

abbrev pub link_span : TypedLink-F ℕ ℕ ℕ ℕ → ℕ
link_span l = 1 + l.operand

abbrev pub expr_layer : TypedExpr-F ℕ ℕ ℕ ℕ → ℕ
expr_layer e = e.kind

abbrev pub expr_span : List ℕ → TypedExpr → ℕ
expr_span earlier = fold-TypedExpr ℕ ℕ ℕ ℕ access_span (kind_span earlier) expr_layer link_span

abbrev pub exprs_span : List ℕ → List TypedExpr → ℕ
exprs_span earlier values = 1 + total (map (expr_span earlier) values)

abbrev pub form_span : List ℕ → Access → ℕ
form_span earlier = fold-Access ℕ ℕ ℕ ℕ access_span (kind_span earlier) expr_layer link_span

abbrev pub link_span_of : List ℕ → TypedLink → ℕ
link_span_of earlier = fold-TypedLink ℕ ℕ ℕ ℕ access_span (kind_span earlier) expr_layer link_span

abbrev pub forms_span : List ℕ → List Access → ℕ
forms_span earlier forms = 1 + total (map (form_span earlier) forms)

abbrev pub links_span : List ℕ → List TypedLink → ℕ
links_span earlier links = 1 + total (map (link_span_of earlier) links)

abbrev pub option_span : List ℕ → Option TypedExpr → ℕ
option_span earlier None = 1
option_span earlier (Some value) = 1 + expr_span earlier value

abbrev pub destination_span : List ℕ → Destination → ℕ
destination_span earlier (destination.Scalar target) = expr_span earlier target
destination_span earlier (destination.Raw buffer address) = expr_span earlier address

abbrev pub interlocked_span : List ℕ → Interlocked → ℕ
interlocked_span earlier i = 1 + (destination_span earlier i.destination + (option_span earlier i.compare + (expr_span earlier i.value + option_span earlier i.old)))

abbrev pub step_span : List ℕ → TypedStep → ℕ
step_span earlier (step.Evaluate value) = 1 + expr_span earlier value
step_span earlier (step.Call function arguments) = 3 + (exprs_span earlier arguments + called_weight earlier function)
step_span earlier (step.Assign target value) = 1 + (expr_span earlier target + expr_span earlier value)
step_span earlier (step.Update target operator by value) = 1 + (expr_span earlier target + expr_span earlier value)
step_span earlier (step.Change target operator) = 1 + expr_span earlier target
step_span earlier (step.Store buffer address value) = 1 + (expr_span earlier address + expr_span earlier value)
step_span earlier (step.Interlocked interlocked) = 1 + interlocked_span earlier interlocked

abbrev pub steps_span : List ℕ → List TypedStep → ℕ
steps_span earlier steps = 1 + total (map (step_span earlier) steps)

abbrev pub declarator_span : List ℕ → TypedDeclarator → ℕ
declarator_span earlier d = 1 + option_span earlier d.value

abbrev pub declared_span : List ℕ → List TypedDeclarator → ℕ
declared_span earlier declared = 1 + total (map (declarator_span earlier) declared)

abbrev pub start_span : List ℕ → Option TypedStart → ℕ
start_span earlier None = 1
start_span earlier (Some (start.Declare declared)) = 1 + declared_span earlier declared
start_span earlier (Some (start.Steps steps)) = 1 + steps_span earlier steps

abbrev pub stmt_layer : List ℕ → TypedStmt-F ℕ → ℕ
stmt_layer earlier (TypedStmt-F.Block body) = 2 + total body
stmt_layer earlier TypedStmt-F.Empty = 1
stmt_layer earlier (TypedStmt-F.Declare declared) = 1 + declared_span earlier declared
stmt_layer earlier (TypedStmt-F.Request handle group output element amount) = 1 + (option_span earlier element + expr_span earlier amount)
stmt_layer earlier (TypedStmt-F.Increment group output element amount) = 1 + (option_span earlier element + expr_span earlier amount)
stmt_layer earlier (TypedStmt-F.Complete handle) = 1
stmt_layer earlier (TypedStmt-F.Barrier syncs) = 1
stmt_layer earlier (TypedStmt-F.Step step) = 1 + step_span earlier step
stmt_layer earlier TypedStmt-F.Break = 1
stmt_layer earlier TypedStmt-F.Continue = 1
stmt_layer earlier (TypedStmt-F.Return value) = 1 + option_span earlier value
stmt_layer earlier (TypedStmt-F.If attributes collective test then other) = 1 + (expr_span earlier test + (then + option_count other))
stmt_layer earlier (TypedStmt-F.While attributes test body) = 1 + (expr_span earlier test + body)
stmt_layer earlier (TypedStmt-F.For attributes start test steps body) = 1 + (start_span earlier start + (option_span earlier test + (steps_span earlier steps + body)))

abbrev pub stmt_span : List ℕ → TypedStmt → ℕ
stmt_span earlier = fold-TypedStmt ℕ (stmt_layer earlier)

abbrev pub body_span : List ℕ → List TypedStmt → ℕ
body_span earlier body = 1 + total (map (stmt_span earlier) body)

abbrev pub function_span : List ℕ → TypedFunction → ℕ
function_span earlier f = body_span earlier f.body

-- the spans of the functions before one
abbrev pub spans_before : List TypedFunction → ℕ → List ℕ
spans_before functions number = each_after function_span [] (take number functions)
