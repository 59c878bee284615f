-- What is gathered from all parts of a typed form: a fold over one layer.
use Rattle.std.specs.Prelude.{ℕ, Bool, true, false, if◌then◌else◌, List, [], ◌∷◌, map, Option, Some, None}
use Rattle.wg_typing.specs.Conversions.{Class, arithmetic, shift, comparison, logic, class_of}
use Rattle.wg_tree.specs.declared.expr.BinaryOperator.{BinaryOperator}
use Rattle.wg_typed.specs.declared.types.TypeTree.{TypeTree}
use Rattle.wg_typed.specs.declared.typed_expr.Access.{Access}
use Rattle.wg_typed.specs.declared.typed_expr.Access.TheFolds.{fold-TypedExpr, fold-TypedKind, fold-Access, fold-TypedLink}
use Rattle.wg_typed.specs.declared.typed_expr.Access.TheOpen.{TypedExpr-F, TypedKind-F, Access-F, TypedLink-F}
use Rattle.wg_typed.specs.declared.typed_expr.TypedExpr.{TypedExpr}
use Rattle.wg_typed.specs.declared.typed_expr.TypedKind.{TypedKind}
use Rattle.wg_typed.specs.declared.typed_expr.TypedLink.{TypedLink}
use Rattle.wg_typed.specs.declared.typed_stmt.Destination.{Destination}
use Rattle.wg_typed.specs.declared.typed_stmt.Destination.TheVariants as destination
use Rattle.wg_typed.specs.declared.typed_stmt.Interlocked.{Interlocked}
use Rattle.wg_typed.specs.declared.typed_stmt.TypedDeclarator.{TypedDeclarator}
use Rattle.wg_typed.specs.declared.typed_stmt.TypedStart.{TypedStart}
use Rattle.wg_typed.specs.declared.typed_stmt.TypedStart.TheVariants as start
use Rattle.wg_typed.specs.declared.typed_stmt.TypedStep.{TypedStep}
use Rattle.wg_typed.specs.declared.typed_stmt.TypedStep.TheVariants as step
use Rattle.wg_typed.specs.declared.typed_stmt.TypedStmt.{TypedStmt}
use Rattle.wg_typed.specs.declared.typed_stmt.TypedStmt.TheFolds.{fold-TypedStmt}
use Rattle.wg_typed.specs.declared.typed_stmt.TypedStmt.TheOpen.{TypedStmt-F}

-- what nothing gives, what two parts give together, what a type gives, what the words of a literal give, what a call of the function of a number gives, and what is made of a
-- part that is evaluated only in some case: the results of `?:`, and the right operand of `&&` and `||`
pub record Measure (A : Type 0) : Type 0 where
  pub none : A
  pub join : A → A → A
  pub of : TypeTree → A
  pub literal : List ℕ → A
  pub call : ℕ → A
  pub branch : A → A

abbrev pub all_joined : {A : Type 0} → Measure A → List A → A
all_joined m [] = m.none
all_joined m (a ∷ rest) = m.join a (all_joined m rest)

abbrev pub maybe_joined : {A : Type 0} → Measure A → Option A → A
maybe_joined m None = m.none
maybe_joined m (Some a) = a

-- ---- expressions

abbrev pub is_logic : Class → Bool
is_logic arithmetic = false
is_logic shift = false
is_logic comparison = false
is_logic logic = true

-- whether its right operand is evaluated only in some case
abbrev pub is_logical : BinaryOperator → Bool
is_logical operator = is_logic (class_of operator)

abbrev pub access_gives : {A : Type 0} → Measure A → Access-F A A A A → A
access_gives m (Access-F.Field field of) = m.of of
access_gives m (Access-F.Components components of) = m.of of
access_gives m (Access-F.Index index of) = m.join (m.of of) index

-- the type to which what stands before is converted
abbrev pub before_gives : {A : Type 0} → Measure A → Option TypeTree → A
before_gives m None = m.none
before_gives m (Some t) = m.of t

abbrev pub link_gives : {A : Type 0} → Measure A → TypedLink-F A A A A → A
link_gives m l = m.join (m.join (m.of l.of) (before_gives m l.before)) (if is_logical l.operator then m.branch l.operand else l.operand)

abbrev pub kind_gives : {A : Type 0} → Measure A → TypedKind-F A A A A → A
kind_gives m (TypedKind-F.Literal words) = m.literal words
kind_gives m (TypedKind-F.Variable variable) = m.none
kind_gives m (TypedKind-F.Shared variable) = m.none
kind_gives m (TypedKind-F.Element buffer index) = index
kind_gives m (TypedKind-F.Load buffer address) = address
kind_gives m (TypedKind-F.Input index) = maybe_joined m index
kind_gives m TypedKind-F.Count = m.none
kind_gives m TypedKind-F.Finished = m.none
kind_gives m (TypedKind-F.Handle handle index) = maybe_joined m index
kind_gives m (TypedKind-F.IsValid output element) = maybe_joined m element
kind_gives m TypedKind-F.Levels = m.none
kind_gives m TypedKind-F.Zeros = m.none
kind_gives m (TypedKind-F.Access base forms) = m.join base (all_joined m forms)
kind_gives m (TypedKind-F.Prefix operator operand) = operand
kind_gives m (TypedKind-F.Convert operand) = operand
kind_gives m (TypedKind-F.Chain first rest) = m.join first (all_joined m rest)
kind_gives m (TypedKind-F.Choice test a b) = m.join test (m.branch (m.join a b))
kind_gives m (TypedKind-F.Construct parts) = all_joined m parts
kind_gives m (TypedKind-F.Call function arguments) = m.join (m.call function) (all_joined m arguments)
kind_gives m (TypedKind-F.Intrinsic _ arguments) = all_joined m arguments

abbrev pub expr_gives : {A : Type 0} → Measure A → TypedExpr-F A A A A → A
expr_gives m e = m.join (m.of e.of) e.kind

abbrev pub of_expr : {A : Type 0} → Measure A → TypedExpr → A
of_expr {A} m = fold-TypedExpr A A A A (access_gives m) (kind_gives m) (expr_gives m) (link_gives m)

abbrev pub of_kind : {A : Type 0} → Measure A → TypedKind → A
of_kind {A} m = fold-TypedKind A A A A (access_gives m) (kind_gives m) (expr_gives m) (link_gives m)

abbrev pub of_access : {A : Type 0} → Measure A → Access → A
of_access {A} m = fold-Access A A A A (access_gives m) (kind_gives m) (expr_gives m) (link_gives m)

abbrev pub of_link : {A : Type 0} → Measure A → TypedLink → A
of_link {A} m = fold-TypedLink A A A A (access_gives m) (kind_gives m) (expr_gives m) (link_gives m)

abbrev pub of_exprs : {A : Type 0} → Measure A → List TypedExpr → A
of_exprs m es = all_joined m (map (of_expr m) es)

abbrev pub of_maybe : {A : Type 0} → Measure A → Option TypedExpr → A
of_maybe m None = m.none
of_maybe m (Some e) = of_expr m e

-- ---- steps and declarations

abbrev pub of_destination : {A : Type 0} → Measure A → Destination → A
of_destination m (destination.Scalar target) = of_expr m target
of_destination m (destination.Raw buffer address) = of_expr m address

abbrev pub of_interlocked : {A : Type 0} → Measure A → Interlocked → A
of_interlocked m i = m.join (of_destination m i.destination) (m.join (of_maybe m i.compare) (m.join (of_expr m i.value) (of_maybe m i.old)))

abbrev pub of_step : {A : Type 0} → Measure A → TypedStep → A
of_step m (step.Evaluate value) = of_expr m value
of_step m (step.Call function arguments) = m.join (m.call function) (of_exprs m arguments)
of_step m (step.Assign target value) = m.join (of_expr m target) (of_expr m value)
of_step m (step.Update target operator by value) = m.join (m.of by) (m.join (of_expr m target) (of_expr m value))
of_step m (step.Change target operator) = of_expr m target
of_step m (step.Store buffer address value) = m.join (of_expr m address) (of_expr m value)
of_step m (step.Interlocked i) = of_interlocked m i

abbrev pub of_steps : {A : Type 0} → Measure A → List TypedStep → A
of_steps m steps = all_joined m (map (of_step m) steps)

abbrev pub of_declared : {A : Type 0} → Measure A → List TypedDeclarator → A
of_declared m declared = all_joined m (map (λ (d : TypedDeclarator). m.join (m.of d.of) (of_maybe m d.value)) declared)

abbrev pub of_start : {A : Type 0} → Measure A → Option TypedStart → A
of_start m None = m.none
of_start m (Some (start.Declare declared)) = of_declared m declared
of_start m (Some (start.Steps steps)) = of_steps m steps

-- ---- statements

abbrev pub stmt_gives : {A : Type 0} → Measure A → TypedStmt-F A → A
stmt_gives m (TypedStmt-F.Block body) = all_joined m body
stmt_gives m TypedStmt-F.Empty = m.none
stmt_gives m (TypedStmt-F.Declare declared) = of_declared m declared
stmt_gives m (TypedStmt-F.Request handle group output element amount) = m.join (of_maybe m element) (of_expr m amount)
stmt_gives m (TypedStmt-F.Increment group output element amount) = m.join (of_maybe m element) (of_expr m amount)
stmt_gives m (TypedStmt-F.Complete handle) = m.none
stmt_gives m (TypedStmt-F.Barrier syncs) = m.none
stmt_gives m (TypedStmt-F.Step s) = of_step m s
stmt_gives m TypedStmt-F.Break = m.none
stmt_gives m TypedStmt-F.Continue = m.none
stmt_gives m (TypedStmt-F.Return value) = of_maybe m value
stmt_gives m (TypedStmt-F.If attributes collective test first other) = m.join (of_expr m test) (m.join first (maybe_joined m other))
stmt_gives m (TypedStmt-F.While attributes test body) = m.join (of_expr m test) body
stmt_gives m (TypedStmt-F.For attributes begin test steps body) = m.join (of_start m begin) (m.join (of_maybe m test) (m.join (of_steps m steps) body))

abbrev pub of_stmt : {A : Type 0} → Measure A → TypedStmt → A
of_stmt {A} m = fold-TypedStmt A (stmt_gives m)

abbrev pub of_body : {A : Type 0} → Measure A → List TypedStmt → A
of_body m body = all_joined m (map (of_stmt m) body)
