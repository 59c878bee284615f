-- Vectors of 2 to 4 components and numbers below 2 ^ 64: those that are written in a source; and in a typed text all vectors, and literals of
-- words below 2 ^ 32 (HLSL Shader Model 6.8, vectors and literals).
use Rattle.std.specs.Prelude.{◌≡◌, ◌^◌, ℕ, nat_lt, Bool, true, not, ◌&&◌, List, [], ◌∷◌, map, Option, Some, None}
use Rattle.wg_facts.specs.Tests.{if_any, every}
use Rattle.wg_limits.specs.Measure.{Measure, of_body}
use Rattle.wg_typed.specs.Layout.{field_types}
use Rattle.wg_typed.specs.Operators.{is_wide}
use Rattle.wg_typing.specs.TypingDeclaration.{all_declarators}
use Rattle.wg_typing.specs.TypingStep.{all_steps, maybe_steps}
use Rattle.wg_tree.specs.declared.expr.Expr.{Expr, fold-Expr}
use Rattle.wg_tree.specs.declared.expr.Expr.TheOpen.{Expr-F, Form-F, Link-F}
use Rattle.wg_tree.specs.declared.expr.TypeName.{TypeName}
use Rattle.wg_tree.specs.declared.expr.TypeName.TheVariants as type_name
use Rattle.wg_tree.specs.declared.expr.ValueType.{ValueType}
use Rattle.wg_tree.specs.declared.expr.ValueType.TheVariants as value_type
use Rattle.wg_tree.specs.declared.item.BufferType.{BufferType}
use Rattle.wg_tree.specs.declared.item.BufferType.TheVariants as written_buffer
use Rattle.wg_tree.specs.declared.item.Field.{Field}
use Rattle.wg_tree.specs.declared.item.Item.{Item}
use Rattle.wg_tree.specs.declared.item.Item.TheVariants as item
use Rattle.wg_tree.specs.declared.item.Parameter.{Parameter}
use Rattle.wg_tree.specs.declared.item.ParameterType.{ParameterType}
use Rattle.wg_tree.specs.declared.item.ParameterType.TheVariants as written_parameter
use Rattle.wg_tree.specs.declared.item.ResultType.{ResultType}
use Rattle.wg_tree.specs.declared.item.ResultType.TheVariants as result_type
use Rattle.wg_tree.specs.declared.item.Source.{Source}
use Rattle.wg_tree.specs.declared.stmt.Declaration.{Declaration}
use Rattle.wg_tree.specs.declared.stmt.Declarator.{Declarator}
use Rattle.wg_tree.specs.declared.stmt.Start.{Start}
use Rattle.wg_tree.specs.declared.stmt.Start.TheVariants as start
use Rattle.wg_tree.specs.declared.stmt.Step.{Step}
use Rattle.wg_tree.specs.declared.stmt.Step.TheVariants as step
use Rattle.wg_tree.specs.declared.stmt.Stmt.{Stmt, fold-Stmt}
use Rattle.wg_tree.specs.declared.stmt.Stmt.TheOpen.{Stmt-F}
use Rattle.wg_typed.specs.declared.types.ElementType.TheVariants as element
use Rattle.wg_typed.specs.declared.types.TypeTree.{TypeTree}
use Rattle.wg_typed.specs.declared.types.TypeTree.TheVariants as type
use Rattle.wg_typed.specs.declared.typed.Typed.{Typed}
use Rattle.wg_typed.specs.declared.typed.TypedBuffer.{TypedBuffer}
use Rattle.wg_typed.specs.declared.typed.TypedBufferType.{TypedBufferType}
use Rattle.wg_typed.specs.declared.typed.TypedBufferType.TheVariants as buffer
use Rattle.wg_typed.specs.declared.typed.TypedFunction.{TypedFunction}
use Rattle.wg_typed.specs.declared.typed.TypedParameter.{TypedParameter}
use Rattle.wg_typed.specs.declared.typed.TypedParameterType.{TypedParameterType}
use Rattle.wg_typed.specs.declared.typed.TypedParameterType.TheVariants as parameter
use Rattle.wg_typed.specs.declared.typed.TypedShared.{TypedShared}
use Rattle.wg_typed.specs.declared.typed.TypedStruct.{TypedStruct}
use Rattle.wg_typed.specs.declared.typed.TypedVariable.{TypedVariable}

abbrev pub is_size : ℕ → Bool
is_size n = nat_lt 1 n && nat_lt n 5

-- ---- the typed text

abbrev pub is_small : TypeTree → Bool
is_small (type.Scalar of) = true
is_small (type.Vector of n) = is_size n
is_small (type.Struct number) = true
is_small (type.Array (element.Scalar of) n) = true
is_small (type.Array (element.Vector of m) n) = is_size m
is_small (type.Array (element.Struct number) n) = true

-- whether all types in a body are, and all words of its literals are below 2 ^ 32
abbrev pub small_measure : Measure Bool
small_measure = record { none = true; join = λ a b. a && b; of = is_small; literal = every (λ w. nat_lt w (2 ^ 32)); call = λ function. true; branch = λ a. a }

abbrev pub buffer_small : TypedBufferType → Bool
buffer_small (buffer.Raw writable) = true
buffer_small (buffer.Structured writable of) = is_small of

abbrev pub parameter_small : TypedParameterType → Bool
parameter_small (parameter.Value of) = is_small of
parameter_small (parameter.Object place word number) = true

pub record IsSmallFunction (f : TypedFunction) : Type 0 where
  pub result : if_any is_small f.result ≡ true
  pub parameters : every (λ (p : TypedParameter). parameter_small p.of) f.parameters ≡ true
  pub variables : every (λ (v : TypedVariable). is_small v.of) f.variables ≡ true
  pub body : of_body small_measure f.body ≡ true

abbrev pub AllSmallFunctions : List TypedFunction → Type 0
AllSmallFunctions [] = Unit {0}
AllSmallFunctions (f ∷ rest) = IsSmallFunction f × AllSmallFunctions rest

-- each type in the text has vectors of 2 to 4 components alone, and each literal has words of 32 bits
pub record IsSmallText (text : Typed) : Type 0 where
  pub structs : every (λ (s : TypedStruct). every is_small (field_types s)) text.structs ≡ true
  pub buffers : every (λ (b : TypedBuffer). buffer_small b.of) text.buffers ≡ true
  pub shared : every (λ (s : TypedShared). is_small s.of) text.shared ≡ true
  pub functions : AllSmallFunctions text.functions

-- ---- the source: sizes of arrays and attributes aside, since no typed form has their types

abbrev pub value_written : ValueType → Bool
value_written (value_type.Scalar of) = true
value_written (value_type.Vector of n) = is_size n && not (is_wide of)

abbrev pub type_written : TypeName → Bool
type_written (type_name.Value place of) = value_written of
type_written (type_name.Struct name) = true

abbrev pub all_true : List Bool → Bool
all_true [] = true
all_true (b ∷ rest) = b && all_true rest

abbrev pub if_true : Option Bool → Bool
if_true None = true
if_true (Some b) = b

abbrev pub expr_written_step : Expr-F Bool Bool Bool → Bool
expr_written_step (Expr-F.Number place n unsigned long) = nat_lt n (2 ^ 64)
expr_written_step (Expr-F.Text place bytes) = true
expr_written_step (Expr-F.Truth place b) = true
expr_written_step (Expr-F.Name name) = true
expr_written_step (Expr-F.Call name arguments) = all_true arguments
expr_written_step (Expr-F.Construct place of arguments) = value_written of && all_true arguments
expr_written_step (Expr-F.Bracket place inner) = inner
expr_written_step (Expr-F.Prefix place operator operand) = operand
expr_written_step (Expr-F.Cast place to operand) = value_written to && operand
expr_written_step (Expr-F.Zeros place of) = true
expr_written_step (Expr-F.Postfix first forms) = first && all_true forms
expr_written_step (Expr-F.Chain first rest) = first && all_true rest
expr_written_step (Expr-F.Choice test a b) = test && (a && b)

abbrev pub form_written_step : Form-F Bool Bool Bool → Bool
form_written_step (Form-F.Member name) = true
form_written_step (Form-F.Method name arguments) = all_true arguments
form_written_step (Form-F.Index place at) = at

abbrev pub link_written_step : Link-F Bool Bool Bool → Bool
link_written_step l = l.operand

abbrev pub expr_written : Expr → Bool
expr_written = fold-Expr Bool Bool Bool expr_written_step form_written_step link_written_step

abbrev pub maybe_written : Option Expr → Bool
maybe_written None = true
maybe_written (Some e) = expr_written e

abbrev pub step_written : Step → Bool
step_written (step.Evaluate e) = expr_written e
step_written (step.Assign target operator place value) = expr_written target && expr_written value
step_written (step.Before place operator target) = expr_written target
step_written (step.After target operator place) = expr_written target

abbrev pub steps_written : List Step → Bool
steps_written steps = all_true (map step_written steps)

abbrev pub declarators_written : List Declarator → Bool
declarators_written ds = all_true (map (λ (d : Declarator). maybe_written d.value) ds)

abbrev pub declaration_written : Declaration → Bool
declaration_written d = type_written d.of && declarators_written (all_declarators d)

abbrev pub start_written : Option Start → Bool
start_written None = true
start_written (Some (start.Declare d)) = declaration_written d
start_written (Some (start.Steps s)) = steps_written (all_steps s)

abbrev pub stmt_written_step : Stmt-F Bool → Bool
stmt_written_step (Stmt-F.Block place body) = all_true body
stmt_written_step (Stmt-F.Empty place) = true
stmt_written_step (Stmt-F.Declare d) = declaration_written d
stmt_written_step (Stmt-F.Handle of name e) = expr_written e
stmt_written_step (Stmt-F.Step s) = step_written s
stmt_written_step (Stmt-F.Break place) = true
stmt_written_step (Stmt-F.Continue place) = true
stmt_written_step (Stmt-F.Return place e) = maybe_written e
stmt_written_step (Stmt-F.If attributes place test first other) = expr_written test && (first && if_true other)
stmt_written_step (Stmt-F.While attributes place test body) = expr_written test && body
stmt_written_step (Stmt-F.For attributes place h body) = start_written h.start && (maybe_written h.test && (steps_written (maybe_steps h.steps) && body))

abbrev pub stmt_written : Stmt → Bool
stmt_written = fold-Stmt Bool stmt_written_step

abbrev pub body_written : List Stmt → Bool
body_written body = all_true (map stmt_written body)

abbrev pub buffer_written : BufferType → Bool
buffer_written (written_buffer.Raw place writable) = true
buffer_written (written_buffer.Structured place writable of) = type_written of

abbrev pub result_written : ResultType → Bool
result_written (result_type.Void place) = true
result_written (result_type.Value of) = type_written of

abbrev pub parameter_written : ParameterType → Bool
parameter_written (written_parameter.Value of) = type_written of
parameter_written (written_parameter.Object of) = true

abbrev pub parameters_written : List Parameter → Bool
parameters_written parameters = every (λ (p : Parameter). parameter_written p.of) parameters

abbrev pub item_written : Item → Bool
item_written (item.Struct place attributes name fields) = every (λ (f : Field). type_written f.of) fields
item_written (item.Buffer coherent of name registers) = buffer_written of
item_written (item.Shared place of name size) = type_written of
item_written (item.Constant place of name e) = type_written of
item_written (item.Function attributes result name parameters place body) = result_written result && (parameters_written parameters && body_written body)

-- each vector that is written has 2 to 4 components that are not wide, and each number that is written as an expression is below 2 ^ 64
abbrev pub source_written : Source → Bool
source_written tree = every item_written tree.items
