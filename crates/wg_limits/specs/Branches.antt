-- How many parts that are evaluated only in some case stand in one another, in the expressions of a typed text and of its source. Own.
use Rattle.std.specs.Prelude.{ℕ, suc, max, if◌then◌else◌, List, [], ◌∷◌, map, Option, Some, None}
use Rattle.wg_limits.specs.Measure.{Measure, is_logical, of_body}
use Rattle.wg_typing.specs.TypingDeclaration.{all_declarators}
use Rattle.wg_typing.specs.TypingStep.{all_steps, maybe_steps}
use Rattle.wg_tree.specs.declared.expr.Expr.{Expr, fold-Expr}
use Rattle.wg_tree.specs.declared.expr.Expr.TheOpen.{Expr-F, Form-F, Link-F}
use Rattle.wg_tree.specs.declared.item.Item.{Item}
use Rattle.wg_tree.specs.declared.item.Item.TheVariants as item
use Rattle.wg_tree.specs.declared.item.Source.{Source}
use Rattle.wg_tree.specs.declared.stmt.Declarator.{Declarator}
use Rattle.wg_tree.specs.declared.stmt.Start.{Start}
use Rattle.wg_tree.specs.declared.stmt.Start.TheVariants as start
use Rattle.wg_tree.specs.declared.stmt.Step.{Step}
use Rattle.wg_tree.specs.declared.stmt.Step.TheVariants as step
use Rattle.wg_tree.specs.declared.stmt.Stmt.{Stmt, fold-Stmt}
use Rattle.wg_tree.specs.declared.stmt.Stmt.TheOpen.{Stmt-F}
use Rattle.wg_typed.specs.declared.typed.Typed.{Typed}
use Rattle.wg_typed.specs.declared.typed.TypedFunction.{TypedFunction}

abbrev pub most : List ℕ → ℕ
most [] = 0
most (n ∷ rest) = max n (most rest)

abbrev pub maybe : Option ℕ → ℕ
maybe None = 0
maybe (Some n) = n

-- ---- the typed text

abbrev pub branch_measure : Measure ℕ
branch_measure = record { none = 0; join = max; of = λ t. 0; literal = λ words. 0; call = λ function. 0; branch = suc }

abbrev pub text_branches : Typed → ℕ
text_branches text = most (map (λ (f : TypedFunction). of_body branch_measure f.body) text.functions)

-- ---- its source: sizes of arrays and attributes are not counted, since no typed form has them as expressions

abbrev pub expr_step : Expr-F ℕ ℕ ℕ → ℕ
expr_step (Expr-F.Number place n unsigned long) = 0
expr_step (Expr-F.Text place bytes) = 0
expr_step (Expr-F.Truth place b) = 0
expr_step (Expr-F.Name name) = 0
expr_step (Expr-F.Call name arguments) = most arguments
expr_step (Expr-F.Construct place of arguments) = most arguments
expr_step (Expr-F.Bracket place inner) = inner
expr_step (Expr-F.Prefix place operator operand) = operand
expr_step (Expr-F.Cast place to operand) = operand
expr_step (Expr-F.Zeros place of) = 0
expr_step (Expr-F.Postfix first forms) = max first (most forms)
expr_step (Expr-F.Chain first rest) = max first (most rest)
expr_step (Expr-F.Choice test a b) = max test (suc (max a b))

abbrev pub form_step : Form-F ℕ ℕ ℕ → ℕ
form_step (Form-F.Member name) = 0
form_step (Form-F.Method name arguments) = most arguments
form_step (Form-F.Index place at) = at

abbrev pub link_step : Link-F ℕ ℕ ℕ → ℕ
link_step l = if is_logical l.operator then suc l.operand else l.operand

abbrev pub expr_branches : Expr → ℕ
expr_branches = fold-Expr ℕ ℕ ℕ expr_step form_step link_step

abbrev pub maybe_branches : Option Expr → ℕ
maybe_branches None = 0
maybe_branches (Some e) = expr_branches e

abbrev pub step_branches : Step → ℕ
step_branches (step.Evaluate e) = expr_branches e
step_branches (step.Assign target operator place value) = max (expr_branches target) (expr_branches value)
step_branches (step.Before place operator target) = expr_branches target
step_branches (step.After target operator place) = expr_branches target

abbrev pub steps_branches : List Step → ℕ
steps_branches steps = most (map step_branches steps)

abbrev pub declared_branches : List Declarator → ℕ
declared_branches ds = most (map (λ (d : Declarator). maybe_branches d.value) ds)

abbrev pub start_branches : Option Start → ℕ
start_branches None = 0
start_branches (Some (start.Declare d)) = declared_branches (all_declarators d)
start_branches (Some (start.Steps s)) = steps_branches (all_steps s)

abbrev pub stmt_step : Stmt-F ℕ → ℕ
stmt_step (Stmt-F.Block place body) = most body
stmt_step (Stmt-F.Empty place) = 0
stmt_step (Stmt-F.Declare d) = declared_branches (all_declarators d)
stmt_step (Stmt-F.Handle of name e) = expr_branches e
stmt_step (Stmt-F.Step s) = step_branches s
stmt_step (Stmt-F.Break place) = 0
stmt_step (Stmt-F.Continue place) = 0
stmt_step (Stmt-F.Return place e) = maybe_branches e
stmt_step (Stmt-F.If attributes place test first other) = max (expr_branches test) (max first (maybe other))
stmt_step (Stmt-F.While attributes place test body) = max (expr_branches test) body
stmt_step (Stmt-F.For attributes place h body) = max (start_branches h.start) (max (maybe_branches h.test) (max (steps_branches (maybe_steps h.steps)) body))

abbrev pub stmt_branches : Stmt → ℕ
stmt_branches = fold-Stmt ℕ stmt_step

abbrev pub body_branches : List Stmt → ℕ
body_branches body = most (map stmt_branches body)

abbrev pub item_branches : Item → ℕ
item_branches (item.Struct place attributes name fields) = 0
item_branches (item.Buffer coherent of name registers) = 0
item_branches (item.Shared place of name size) = 0
item_branches (item.Constant place of name e) = 0
item_branches (item.Function attributes result name parameters place body) = body_branches body

abbrev pub source_branches : Source → ℕ
source_branches tree = most (map item_branches tree.items)
