-- The weight of a function: how many statements and expressions its body has, and the weight of each function where it is called. Own.
-- Every expression counts 1: a number, a name, a read, a prefix, a written conversion, a choice, a constructor, a call, each form of an access and
-- each operator of a chain. A bracket and an object's name count nothing. Every statement counts 1, and so does each step and each declaration.
use Rattle.std.specs.Prelude.{ℕ, ◌+◌, List, [], ◌∷◌, map, Option, Some, None, unwrap_or, slice_get, take, min}
use Rattle.wg_words.specs.declared.limits.TheConstants.{MOST_CODE_WEIGHT}
use Rattle.wg_typed.specs.Earlier.{each_after}
use Rattle.wg_typed.specs.declared.types.TypeTree.{TypeTree}
use Rattle.wg_typed.specs.declared.typed_expr.TypedExpr.{TypedExpr}
use Rattle.wg_typed.specs.declared.typed_expr.Access.{Access}
use Rattle.wg_typed.specs.declared.typed_expr.TypedLink.{TypedLink}
use Rattle.wg_typed.specs.declared.typed_expr.Access.TheFolds.{fold-TypedExpr, fold-Access, fold-TypedLink}
use Rattle.wg_typed.specs.declared.typed_expr.Access.TheOpen.{TypedExpr-F, TypedKind-F, Access-F, TypedLink-F}
use Rattle.wg_typed.specs.declared.typed_stmt.TypedDeclarator.{TypedDeclarator}
use Rattle.wg_typed.specs.declared.typed_stmt.Destination.{Destination}
use Rattle.wg_typed.specs.declared.typed_stmt.Destination.TheVariants as destination
use Rattle.wg_typed.specs.declared.typed_stmt.Interlocked.{Interlocked}
use Rattle.wg_typed.specs.declared.typed_stmt.TypedStep.{TypedStep}
use Rattle.wg_typed.specs.declared.typed_stmt.TypedStep.TheVariants as step
use Rattle.wg_typed.specs.declared.typed_stmt.TypedStart.{TypedStart}
use Rattle.wg_typed.specs.declared.typed_stmt.TypedStart.TheVariants as start
use Rattle.wg_typed.specs.declared.typed_stmt.TypedStmt.{TypedStmt}
use Rattle.wg_typed.specs.declared.typed_stmt.TypedStmt.TheFolds.{fold-TypedStmt}
use Rattle.wg_typed.specs.declared.typed_stmt.TypedStmt.TheOpen.{TypedStmt-F}
use Rattle.wg_typed.specs.declared.typed.TypedFunction.{TypedFunction}

abbrev pub total : List ℕ → ℕ
total [] = 0
total (n ∷ rest) = n + total rest

abbrev pub if_any : Option ℕ → ℕ
if_any n = unwrap_or n 0

-- the weight of the function of that number among those before
abbrev pub called_weight : List ℕ → ℕ → ℕ
called_weight earlier function = unwrap_or (slice_get earlier function) 0

-- ---- expressions, where the functions before have these weights

abbrev pub kind_weight : List ℕ → TypedKind-F ℕ ℕ ℕ ℕ → ℕ
kind_weight earlier (TypedKind-F.Literal words) = 1
kind_weight earlier (TypedKind-F.Variable variable) = 1
kind_weight earlier (TypedKind-F.Shared variable) = 1
kind_weight earlier (TypedKind-F.Element buffer index) = 1 + index
kind_weight earlier (TypedKind-F.Load buffer address) = 1 + address
kind_weight earlier (TypedKind-F.Input index) = 1 + if_any index
kind_weight earlier TypedKind-F.Count = 1
kind_weight earlier TypedKind-F.Finished = 1
kind_weight earlier (TypedKind-F.Handle handle index) = 1 + if_any index
kind_weight earlier (TypedKind-F.IsValid output element) = 1 + if_any element
kind_weight earlier TypedKind-F.Levels = 1
kind_weight earlier TypedKind-F.Zeros = 1
kind_weight earlier (TypedKind-F.Access base forms) = base + total forms
kind_weight earlier (TypedKind-F.Prefix operator operand) = 1 + operand
kind_weight earlier (TypedKind-F.Convert operand) = 1 + operand
kind_weight earlier (TypedKind-F.Chain first rest) = first + total rest
kind_weight earlier (TypedKind-F.Choice test then other) = 1 + test + then + other
kind_weight earlier (TypedKind-F.Construct parts) = 1 + total parts
kind_weight earlier (TypedKind-F.Call function arguments) = 1 + total arguments + called_weight earlier function
kind_weight earlier (TypedKind-F.Intrinsic _ arguments) = 1 + total arguments

abbrev pub access_weight : Access-F ℕ ℕ ℕ ℕ → ℕ
access_weight (Access-F.Field field of) = 1
access_weight (Access-F.Components components of) = 1
access_weight (Access-F.Index index of) = 1 + index

-- the conversion of what stands before an operator
abbrev pub before_weight : Option TypeTree → ℕ
before_weight None = 0
before_weight (Some t) = 1

abbrev pub link_weight : TypedLink-F ℕ ℕ ℕ ℕ → ℕ
link_weight l = 1 + before_weight l.before + l.operand

-- an expression weighs what it is, whatever its type
abbrev pub expr_step : TypedExpr-F ℕ ℕ ℕ ℕ → ℕ
expr_step e = e.kind

abbrev pub expr_weight : List ℕ → TypedExpr → ℕ
expr_weight earlier = fold-TypedExpr ℕ ℕ ℕ ℕ access_weight (kind_weight earlier) expr_step link_weight

abbrev pub exprs_weight : List ℕ → List TypedExpr → ℕ
exprs_weight earlier values = total (map (expr_weight earlier) values)

abbrev pub form_weight : List ℕ → Access → ℕ
form_weight earlier = fold-Access ℕ ℕ ℕ ℕ access_weight (kind_weight earlier) expr_step link_weight

abbrev pub forms_weight : List ℕ → List Access → ℕ
forms_weight earlier forms = total (map (form_weight earlier) forms)

abbrev pub link_weight_of : List ℕ → TypedLink → ℕ
link_weight_of earlier = fold-TypedLink ℕ ℕ ℕ ℕ access_weight (kind_weight earlier) expr_step link_weight

abbrev pub links_weight : List ℕ → List TypedLink → ℕ
links_weight earlier links = total (map (link_weight_of earlier) links)

abbrev pub option_weight : List ℕ → Option TypedExpr → ℕ
option_weight earlier None = 0
option_weight earlier (Some value) = expr_weight earlier value

-- ---- steps and declarations

abbrev pub destination_weight : List ℕ → Destination → ℕ
destination_weight earlier (destination.Scalar target) = expr_weight earlier target
destination_weight earlier (destination.Raw buffer address) = expr_weight earlier address

abbrev pub interlocked_weight : List ℕ → Interlocked → ℕ
interlocked_weight earlier i = destination_weight earlier i.destination + option_weight earlier i.compare + expr_weight earlier i.value + option_weight earlier i.old

-- the conversion of an `op=`'s right side is written there and counts; that of its left side and back again is not
abbrev pub step_weight : List ℕ → TypedStep → ℕ
step_weight earlier (step.Evaluate value) = 1 + expr_weight earlier value
step_weight earlier (step.Call function arguments) = 1 + exprs_weight earlier arguments + called_weight earlier function
step_weight earlier (step.Assign target value) = 1 + expr_weight earlier target + expr_weight earlier value
step_weight earlier (step.Update target operator by value) = 1 + expr_weight earlier target + expr_weight earlier value
step_weight earlier (step.Change target operator) = 1 + expr_weight earlier target
step_weight earlier (step.Store buffer address value) = 1 + expr_weight earlier address + expr_weight earlier value
step_weight earlier (step.Interlocked interlocked) = 1 + interlocked_weight earlier interlocked

abbrev pub steps_weight : List ℕ → List TypedStep → ℕ
steps_weight earlier steps = total (map (step_weight earlier) steps)

abbrev pub declarator_weight : List ℕ → TypedDeclarator → ℕ
declarator_weight earlier d = option_weight earlier d.value

abbrev pub declared_weight : List ℕ → List TypedDeclarator → ℕ
declared_weight earlier declared = total (map (declarator_weight earlier) declared)

-- a declaration counts 1 whatever it declares, and its start values
abbrev pub declaration_weight : List ℕ → List TypedDeclarator → ℕ
declaration_weight earlier declared = 1 + declared_weight earlier declared

abbrev pub start_weight : List ℕ → Option TypedStart → ℕ
start_weight earlier None = 0
start_weight earlier (Some (start.Declare declared)) = declaration_weight earlier declared
start_weight earlier (Some (start.Steps steps)) = steps_weight earlier steps

-- ---- statements

abbrev pub stmt_step : List ℕ → TypedStmt-F ℕ → ℕ
stmt_step earlier (TypedStmt-F.Block body) = 1 + total body
stmt_step earlier TypedStmt-F.Empty = 1
stmt_step earlier (TypedStmt-F.Declare declared) = declaration_weight earlier declared
stmt_step earlier (TypedStmt-F.Request handle group output element amount) = 1 + option_weight earlier element + expr_weight earlier amount
stmt_step earlier (TypedStmt-F.Increment group output element amount) = 1 + option_weight earlier element + expr_weight earlier amount
stmt_step earlier (TypedStmt-F.Complete handle) = 1
stmt_step earlier (TypedStmt-F.Barrier syncs) = 1
stmt_step earlier (TypedStmt-F.Step step) = step_weight earlier step
stmt_step earlier TypedStmt-F.Break = 1
stmt_step earlier TypedStmt-F.Continue = 1
stmt_step earlier (TypedStmt-F.Return value) = 1 + option_weight earlier value
stmt_step earlier (TypedStmt-F.If attributes collective test then other) = 1 + expr_weight earlier test + then + if_any other
stmt_step earlier (TypedStmt-F.While attributes test body) = 1 + expr_weight earlier test + body
stmt_step earlier (TypedStmt-F.For attributes start test steps body) = 1 + start_weight earlier start + option_weight earlier test + steps_weight earlier steps + body

abbrev pub stmt_weight : List ℕ → TypedStmt → ℕ
stmt_weight earlier = fold-TypedStmt ℕ (stmt_step earlier)

abbrev pub body_weight : List ℕ → List TypedStmt → ℕ
body_weight earlier body = total (map (stmt_weight earlier) body)

-- ---- functions: each calls only those before it

abbrev pub function_weight : List ℕ → TypedFunction → ℕ
function_weight earlier f = body_weight earlier f.body

abbrev pub weights : List TypedFunction → List ℕ
weights functions = each_after function_weight [] functions

-- the weights of the functions before one
abbrev pub weights_before : List TypedFunction → ℕ → List ℕ
weights_before functions number = weights (take number functions)

-- the weight of the function of that number
abbrev pub weight_of : List TypedFunction → ℕ → ℕ
weight_of functions function = called_weight (weights functions) function

-- a sum, or the first number above the limit
abbrev pub raised : ℕ → ℕ → ℕ
raised n more = min (MOST_CODE_WEIGHT + 1) (n + more)
