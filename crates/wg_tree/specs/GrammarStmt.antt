-- The grammar of statements, as a relation. This project's profile of HLSL.
use Rattle.std.specs.Prelude.{◌≡◌, ℕ, zero, suc, ◌==◌, Bool, true, false, if◌then◌else◌, List, [], ◌∷◌, ◌++◌, Option, Some, None}
use Rattle.wg_tokens.specs.declared.mark.Mark.TheVariants as sign
use Rattle.wg_words.specs.declared.place.Place.{Place}
use Rattle.wg_tokens.specs.declared.token.Token.{Token}
use Rattle.wg_tokens.specs.declared.keyword.Keyword.{Keyword}
use Rattle.wg_tokens.specs.declared.keyword.Keyword.TheVariants as k
use Rattle.wg_tree.specs.declared.expr.TypeName.{TypeName}
use Rattle.wg_tree.specs.declared.expr.TypeName.TheVariants as type_name
use Rattle.wg_tree.specs.declared.expr.Expr.{Expr}
use Rattle.wg_tree.specs.declared.stmt.Attribute.{Attribute}
use Rattle.wg_tree.specs.declared.stmt.ObjectWord.{ObjectWord}
use Rattle.wg_tree.specs.declared.stmt.ObjectWord.TheVariants as object_word
use Rattle.wg_tree.specs.declared.stmt.ObjectType.{ObjectType}
use Rattle.wg_tree.specs.declared.stmt.Declarator.{Declarator}
use Rattle.wg_tree.specs.declared.stmt.Declaration.{Declaration}
use Rattle.wg_tree.specs.declared.stmt.AssignOperator.{AssignOperator}
use Rattle.wg_tree.specs.declared.stmt.AssignOperator.TheVariants as assign
use Rattle.wg_tree.specs.declared.stmt.StepOperator.{StepOperator}
use Rattle.wg_tree.specs.declared.stmt.StepOperator.TheVariants as step_operator
use Rattle.wg_tree.specs.declared.stmt.Step.{Step}
use Rattle.wg_tree.specs.declared.stmt.Step.TheVariants as step
use Rattle.wg_tree.specs.declared.stmt.Steps.{Steps}
use Rattle.wg_tree.specs.declared.stmt.Start.{Start}
use Rattle.wg_tree.specs.declared.stmt.Start.TheVariants as start
use Rattle.wg_tree.specs.declared.stmt.Header.{Header}
use Rattle.wg_tree.specs.declared.stmt.Stmt.{Stmt}
use Rattle.wg_tree.specs.declared.stmt.Stmt.TheVariants as s
use Rattle.wg_tree.specs.declared.stmt.Stmt.TheOpen.{Stmt-F}
use Rattle.wg_tree.specs.declared.stmt.Stmt.TheFolds.{fold-Stmt}
use Rattle.wg_grammar.specs.Spans.{Seq, None_of, Leaf, Never, ◌or◌}
use Rattle.wg_grammar.specs.Productions.{Production, give, token, list, sub, ◌<*>◌, ◌<$>◌, ◌<*◌, ◌*>◌, ◌<|>◌, Rules, of, spells}
use Rattle.wg_tokens.specs.Classes.{of_mark, NAME, of_word, class}
use Rattle.wg_tree.specs.Depths.{Depth, in_statement}
use Rattle.wg_tree.specs.GrammarExpr.{full, constant, argument, value_types, value_type_of, at_class, by_code, classes, placed_name, mark, word, name, one_of, optional, Phrase, expr_at}

-- ---- what tokens spell

abbrev pub type_classes : List ℕ
type_classes = NAME ∷ classes (by_code value_types)

abbrev pub type_of : Token → TypeName
type_of t = if class t == NAME then type_name.Struct (placed_name t) else type_name.Value t.place (value_type_of t)

-- the objects with a record type
abbrev pub record_objects : List (Keyword × ObjectWord)
record_objects = (k.DispatchNodeInputRecord, object_word.DispatchNodeInputRecord) ∷ (k.RwDispatchNodeInputRecord, object_word.RwDispatchNodeInputRecord) ∷ (k.GroupNodeInputRecords, object_word.GroupNodeInputRecords)
    ∷ (k.RwGroupNodeInputRecords, object_word.RwGroupNodeInputRecords) ∷ (k.ThreadNodeInputRecord, object_word.ThreadNodeInputRecord) ∷ (k.RwThreadNodeInputRecord, object_word.RwThreadNodeInputRecord)
    ∷ (k.NodeOutput, object_word.NodeOutput) ∷ (k.NodeOutputArray, object_word.NodeOutputArray) ∷ []

abbrev pub handle_objects : List (Keyword × ObjectWord)
handle_objects = (k.ThreadNodeOutputRecords, object_word.ThreadNodeOutputRecords) ∷ (k.GroupNodeOutputRecords, object_word.GroupNodeOutputRecords) ∷ []

abbrev pub empty_objects : List (Keyword × ObjectWord)
empty_objects = (k.EmptyNodeInput, object_word.EmptyNodeInput) ∷ (k.EmptyNodeOutput, object_word.EmptyNodeOutput) ∷ (k.EmptyNodeOutputArray, object_word.EmptyNodeOutputArray) ∷ []

abbrev pub object_word_of : Token → ObjectWord
object_word_of t = at_class (by_code (record_objects ++ (handle_objects ++ empty_objects))) object_word.EmptyNodeInput (class t)

abbrev pub assign_operators : List (ℕ × AssignOperator)
assign_operators = (of_mark sign.Assign, assign.Plain) ∷ (of_mark sign.StarAssign, assign.Multiply) ∷ (of_mark sign.SlashAssign, assign.Divide) ∷ (of_mark sign.PercentAssign, assign.Remainder) ∷ (of_mark sign.PlusAssign, assign.Add) ∷ (of_mark sign.MinusAssign, assign.Subtract)
    ∷ (of_mark sign.ShiftLeftAssign, assign.ShiftLeft) ∷ (of_mark sign.ShiftRightAssign, assign.ShiftRight) ∷ (of_mark sign.AmpersandAssign, assign.BitAnd) ∷ (of_mark sign.CaretAssign, assign.BitXor) ∷ (of_mark sign.BarAssign, assign.BitOr) ∷ []

abbrev pub assign_operator : Token → AssignOperator
assign_operator t = at_class assign_operators assign.Plain (class t)

abbrev pub step_operators : List (ℕ × StepOperator)
step_operators = (of_mark sign.Increment, step_operator.Increment) ∷ (of_mark sign.Decrement, step_operator.Decrement) ∷ []

abbrev pub step_operator_of : Token → StepOperator
step_operator_of t = at_class step_operators step_operator.Increment (class t)

-- ---- parts that hold expressions: value, a `const`, and an argument of an attribute

module _ {N : Type 0} {Of : N → Type 0} where
  abbrev pub a_type : Production Token N Of TypeName
  a_type = token false type_classes type_of

  abbrev pub struct_type : Production Token N Of TypeName
  struct_type = (λ n. type_name.Struct n) <$> name

  abbrev pub type_of_values : Production Token N Of TypeName
  type_of_values = (λ t. type_name.Value t.place (value_type_of t)) <$> one_of (classes (by_code value_types))

  abbrev pub type_argument : Production Token N Of TypeName
  type_argument = mark sign.Less *> a_type <* mark sign.Greater

  -- an object of one of these classes, with its record type
  abbrev pub typed_object : List ℕ → Production Token N Of ObjectType
  typed_object set = (λ t r. record { place = t.place; word = object_word_of t; record_type = Some r }) <$> one_of set <*> type_argument

  abbrev pub empty_object : Production Token N Of ObjectType
  empty_object = (λ t. record { place = t.place; word = object_word_of t; record_type = None }) <$> one_of (classes (by_code empty_objects))

  -- an object, with these words besides the empty ones
  abbrev pub object : List (Keyword × ObjectWord) → Production Token N Of ObjectType
  object words = typed_object (classes (by_code words)) <|> empty_object

  abbrev pub size_of : Production Token N Of Expr → Production Token N Of (Option Expr)
  size_of const = optional (mark sign.LeftBracket *> const <* mark sign.RightBracket)

  module _ (argument : Production Token N Of Expr) where
    abbrev pub next_argument : Production Token N Of Expr
    next_argument = mark sign.Comma *> argument

    abbrev pub some_arguments : Production Token N Of (List Expr)
    some_arguments = (λ x xs. x ∷ xs) <$> argument <*> list next_argument

    abbrev pub attribute_arguments : Production Token N Of (List Expr)
    attribute_arguments = (mark sign.LeftParen *> some_arguments <* mark sign.RightParen) <|> give []

    abbrev pub attribute : Production Token N Of Attribute
    attribute = (λ place name arguments. record { place = place; name = name; arguments = arguments }) <$> mark sign.LeftBracket <*> name <*> attribute_arguments <* mark sign.RightBracket

  module _ (value const : Production Token N Of Expr) where
    abbrev pub start_value : Production Token N Of (Option Expr)
    start_value = optional (mark sign.Assign *> value)

    abbrev pub declarator : Production Token N Of Declarator
    declarator = (λ name size value. record { name = name; size = size; value = value }) <$> name <*> size_of const <*> start_value

    abbrev pub next_declarator : Production Token N Of Declarator
    next_declarator = mark sign.Comma *> declarator

    abbrev pub declaration : Production Token N Of Declaration
    declaration = (λ of first rest. record { constant = None; of = of; first = first; rest = rest }) <$> a_type <*> declarator <*> list next_declarator

    abbrev pub const_declaration : Production Token N Of Declaration
    const_declaration = (λ place of first rest. record { constant = Some place; of = of; first = first; rest = rest }) <$> word k.Const <*> a_type <*> declarator <*> list next_declarator

  module _ (value : Production Token N Of Expr) where
    -- what may follow the expression of a step
    abbrev pub step_rest : Production Token N Of (Expr → Step)
    step_rest = ((λ t value target. step.Assign target (assign_operator t) t.place value) <$> one_of (classes assign_operators) <*> value)
        <|> ((λ t target. step.After target (step_operator_of t) t.place) <$> one_of (classes step_operators))
        <|> give (λ value. step.Evaluate value)

    abbrev pub a_step : Production Token N Of Step
    a_step = ((λ x rest. rest x) <$> value <*> step_rest) <|> ((λ t target. step.Before t.place (step_operator_of t) target) <$> one_of (classes step_operators) <*> value)

    abbrev pub next_step : Production Token N Of Step
    next_step = mark sign.Comma *> a_step

    abbrev pub steps : Production Token N Of Steps
    steps = (λ first rest. record { first = first; rest = rest }) <$> a_step <*> list next_step

-- ---- what begins as a declaration or as a step

pub data Values : Type 0 where
  value : Values
  const : Values

abbrev pub Value : Values → Type 0
Value n = Expr

abbrev pub declared_stmt : Production Token Values Value Stmt
declared_stmt = (λ d. s.Declare d) <$> declaration (sub value) (sub const)

abbrev pub stepped_stmt : Production Token Values Value Stmt
stepped_stmt = (λ x. s.Step x) <$> a_step (sub value)

abbrev pub declared_start : Production Token Values Value Start
declared_start = (λ d. start.Declare d) <$> declaration (sub value) (sub const)

abbrev pub stepped_start : Production Token Values Value Start
stepped_start = (λ x. start.Steps x) <$> steps (sub value)

-- ---- statements up to the body that they have

pub data StmtHole : Type 0 where
  a_value : StmtHole
  a_const : StmtHole
  an_argument : StmtHole
  opening : StmtHole
  starting : StmtHole

abbrev pub HoleTree : StmtHole → Type 0
HoleTree a_value = Expr
HoleTree a_const = Expr
HoleTree an_argument = Expr
HoleTree opening = Stmt
HoleTree starting = Start

-- what stands before the body of an `if`, a `while` or a `for`
pub data Head : Type 0 where
  if_head : List Attribute → Place → Expr → Head
  while_head : List Attribute → Place → Expr → Head
  for_head : List Attribute → Place → Header → Head

abbrev pub value_part : Production Token StmtHole HoleTree Expr
value_part = sub a_value

abbrev pub const_part : Production Token StmtHole HoleTree Expr
const_part = sub a_const

abbrev pub some_value : Production Token StmtHole HoleTree (Option Expr)
some_value = optional value_part

abbrev pub empty_stmt : Production Token StmtHole HoleTree Stmt
empty_stmt = (λ place. s.Empty place) <$> mark sign.Semicolon

abbrev pub const_stmt : Production Token StmtHole HoleTree Stmt
const_stmt = (λ d. s.Declare d) <$> const_declaration value_part const_part

abbrev pub handle_stmt : Production Token StmtHole HoleTree Stmt
handle_stmt = (λ of name value. s.Handle of name value) <$> object (record_objects ++ handle_objects) <*> name <*> (mark sign.Assign *> value_part)

abbrev pub break_stmt : Production Token StmtHole HoleTree Stmt
break_stmt = (λ place. s.Break place) <$> word k.Break

abbrev pub continue_stmt : Production Token StmtHole HoleTree Stmt
continue_stmt = (λ place. s.Continue place) <$> word k.Continue

abbrev pub return_stmt : Production Token StmtHole HoleTree Stmt
return_stmt = (λ place value. s.Return place value) <$> word k.Return <*> some_value

-- a statement without a body, up to the `;` at its end
abbrev pub unended : Production Token StmtHole HoleTree Stmt
unended = const_stmt <|> sub opening <|> handle_stmt <|> break_stmt <|> continue_stmt <|> return_stmt

abbrev pub ended_stmt : Production Token StmtHole HoleTree Stmt
ended_stmt = unended <* mark sign.Semicolon

abbrev pub basic : Production Token StmtHole HoleTree Stmt
basic = empty_stmt <|> ended_stmt

abbrev pub condition : Production Token StmtHole HoleTree Expr
condition = mark sign.LeftParen *> value_part <* mark sign.RightParen

-- what a `for` begins with, if anything
abbrev pub first_start : Production Token StmtHole HoleTree (Option Start)
first_start = optional (((λ d. start.Declare d) <$> const_declaration value_part const_part) <|> sub starting)

abbrev pub some_steps : Production Token StmtHole HoleTree (Option Steps)
some_steps = optional (steps value_part)

abbrev pub header : Production Token StmtHole HoleTree Header
header = (λ start test steps. record { start = start; test = test; steps = steps })
    <$> (mark sign.LeftParen *> first_start) <*> (mark sign.Semicolon *> some_value) <*> (mark sign.Semicolon *> some_steps <* mark sign.RightParen)

abbrev pub if_head_part : Production Token StmtHole HoleTree (List Attribute → Head)
if_head_part = (λ place test attributes. if_head attributes place test) <$> word k.If <*> condition

abbrev pub while_head_part : Production Token StmtHole HoleTree (List Attribute → Head)
while_head_part = (λ place test attributes. while_head attributes place test) <$> word k.While <*> condition

abbrev pub for_head_part : Production Token StmtHole HoleTree (List Attribute → Head)
for_head_part = (λ place header attributes. for_head attributes place header) <$> word k.For <*> header

abbrev pub head : Production Token StmtHole HoleTree Head
head = (λ (attributes : List Attribute) (make : List Attribute → Head). make attributes) <$> list (attribute (sub an_argument)) <*> (if_head_part <|> while_head_part <|> for_head_part)

-- ---- statements

-- whether an `else` that followed would belong to it
abbrev pub open_step : Stmt-F Bool → Bool
open_step (Stmt-F.If attributes place test first None) = true
open_step (Stmt-F.If attributes place test first (Some other)) = other
open_step (Stmt-F.While attributes place test body) = body
open_step (Stmt-F.For attributes place h body) = body
open_step _ = false

abbrev pub is_open : Stmt → Bool
is_open = fold-Stmt Bool open_step

-- an `else` belongs to the nearest `if`: the branch before it is not open
abbrev pub finish : Phrase Stmt → Depth → Head → Phrase Stmt
finish body d (if_head attributes place test) = Seq body (λ first.
    (None_of (s.If attributes place test first None))
    or (λ x i r. (is_open first ≡ false) × Seq (Leaf (of class (of_word k.Else ∷ [])) (λ t. t.place) d) (λ p. Seq body (λ other. None_of (s.If attributes place test first (Some other)))) x i r))
finish body d (while_head attributes place test) = Seq body (λ b. None_of (s.While attributes place test b))
finish body d (for_head attributes place h) = Seq body (λ b. None_of (s.For attributes place h b))

abbrev pub values_at : {A : Type 1} → A → A → Values → A
values_at v c value = v
values_at v c const = c

-- room: how much deeper expressions may go
module _ (room : ℕ) (d : Depth) where
  abbrev pub values_rules : Rules Token Depth Values Value
  values_rules = record { room = true; here = d; below = d; rule = values_at (expr_at full room d) (expr_at constant room d) }

  abbrev pub hole_rule : (n : StmtHole) → Phrase (HoleTree n)
  hole_rule a_value = expr_at full room d
  hole_rule a_const = expr_at constant room d
  hole_rule an_argument = expr_at argument room d
  hole_rule opening = spells class values_rules declared_stmt or spells class values_rules stepped_stmt
  hole_rule starting = spells class values_rules declared_start or spells class values_rules stepped_start

  abbrev pub hole_rules : Rules Token Depth StmtHole HoleTree
  hole_rules = record { room = true; here = d; below = d; rule = hole_rule }

  abbrev pub unbraced : Phrase Stmt → Phrase Stmt
  unbraced body = Seq (spells class hole_rules head) (finish body d) or spells class hole_rules basic

pub data Inside : Type 0 where
  statement : Inside

abbrev pub Insides : Inside → Type 0
Insides n = Stmt

abbrev pub braces : Production Token Inside Insides (Place × List Stmt)
braces = (λ place body. (place, body)) <$> mark sign.LeftBrace <*> list (sub statement) <* mark sign.RightBrace

abbrev pub block_of : Place × List Stmt → Stmt
block_of p = s.Block p.0 p.1

abbrev pub as_block : Phrase (Place × List Stmt) → Phrase Stmt
as_block P = Seq P (λ p. None_of (block_of p))

-- what stands one statement deeper: a block, and a body
pub record Deeper : Type 1 where
  pub block : Phrase (Place × List Stmt)
  pub body : Phrase Stmt

module _ (room : ℕ) (d : Depth) (inner : Deeper) where
  abbrev pub stmt : Phrase Stmt
  stmt = as_block inner.block or unbraced room d inner.body

  abbrev pub block : Phrase (Place × List Stmt)
  block = spells class (record { room = true; here = d; below = d; rule = λ n. stmt }) braces

  -- a block that is a body counts once
  abbrev pub body : Phrase Stmt
  body = as_block block or unbraced room d inner.body

-- depth: how much deeper statements may go, and room, expressions
abbrev pub deeper_at : ℕ → ℕ → Depth → Deeper
deeper_at room zero d = record { block = Never; body = Never }
deeper_at room (suc depth) d = record { block = block room (in_statement d) (deeper_at room depth (in_statement d)); body = body room (in_statement d) (deeper_at room depth (in_statement d)) }
