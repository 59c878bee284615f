-- The grammar of a text, as a relation, and which texts are viable. This project's profile of HLSL.
use Rattle.std.specs.Prelude.{◌≡◌, ℕ, ◌==◌, true, false, List, [], ◌∷◌, ◌++◌, Option}
use Rattle.wg_tokens.specs.declared.mark.Mark.TheVariants as sign
use Rattle.wg_words.specs.declared.place.Place.{Place}
use Rattle.wg_tokens.specs.declared.token.Token.{Token}
use Rattle.wg_tokens.specs.declared.keyword.Keyword.TheVariants as k
use Rattle.wg_tree.specs.declared.expr.Named.{Named}
use Rattle.wg_tree.specs.declared.expr.Expr.{Expr}
use Rattle.wg_tree.specs.declared.stmt.Attribute.{Attribute}
use Rattle.wg_tree.specs.declared.stmt.Stmt.{Stmt}
use Rattle.wg_tree.specs.declared.item.Field.{Field}
use Rattle.wg_tree.specs.declared.item.BufferType.{BufferType}
use Rattle.wg_tree.specs.declared.item.BufferType.TheVariants as buffer_type
use Rattle.wg_tree.specs.declared.item.Direction.{Direction}
use Rattle.wg_tree.specs.declared.item.Direction.TheVariants as direction
use Rattle.wg_tree.specs.declared.item.Directed.{Directed}
use Rattle.wg_tree.specs.declared.item.ParameterType.{ParameterType}
use Rattle.wg_tree.specs.declared.item.ParameterType.TheVariants as parameter_type
use Rattle.wg_tree.specs.declared.item.Parameter.{Parameter}
use Rattle.wg_tree.specs.declared.item.ResultType.{ResultType}
use Rattle.wg_tree.specs.declared.item.ResultType.TheVariants as result_type
use Rattle.wg_tree.specs.declared.item.Item.{Item}
use Rattle.wg_tree.specs.declared.item.Item.TheVariants as item
use Rattle.wg_tree.specs.declared.item.Source.{Source}
use Rattle.wg_grammar.specs.Depths.{plain}
use Rattle.wg_grammar.specs.Productions.{Production, give, token, list, sub, ◌<*>◌, ◌<$>◌, ◌<*◌, ◌*>◌, ◌<|>◌, Rules, spells}
use Rattle.wg_tokens.specs.Classes.{of_word, class}
use Rattle.wg_tree.specs.Depths.{Depth}
use Rattle.wg_tree.specs.GrammarExpr.{constant, argument, mark, word, name, one_of, optional, at_class, classes, Phrase, expr_at}
use Rattle.wg_tree.specs.GrammarStmt.{a_type, type_argument, object, record_objects, size_of, attribute, deeper_at}

pub data Outer : Type 0 where
  a_const : Outer
  an_argument : Outer
  a_block : Outer

abbrev pub Outers : Outer → Type 0
Outers a_const = Expr
Outers an_argument = Expr
Outers a_block = Place × List Stmt

abbrev pub argument_part : Production Token Outer Outers Expr
argument_part = sub an_argument

abbrev pub attributes : Production Token Outer Outers (List Attribute)
attributes = list (attribute argument_part)

abbrev pub semantic : Production Token Outer Outers (Option Named)
semantic = optional (mark sign.Colon *> name)

abbrev pub field : Production Token Outer Outers Field
field = (λ of name size semantic. record { of = of; name = name; size = size; semantic = semantic }) <$> a_type <*> name <*> size_of (sub a_const) <*> semantic <* mark sign.Semicolon

abbrev pub struct_item : Production Token Outer Outers Item
struct_item = (λ place attributes name fields. item.Struct place attributes name fields) <$> word k.Struct <*> attributes <*> name <*> (mark sign.LeftBrace *> list field <* mark sign.RightBrace) <* mark sign.Semicolon

abbrev pub a_buffer_type : Production Token Outer Outers BufferType
a_buffer_type = ((λ t. buffer_type.Raw t.place (class t == of_word k.RwByteAddressBuffer)) <$> one_of (of_word k.RwByteAddressBuffer ∷ of_word k.ByteAddressBuffer ∷ []))
    <|> ((λ t of. buffer_type.Structured t.place (class t == of_word k.RwStructuredBuffer) of) <$> one_of (of_word k.RwStructuredBuffer ∷ of_word k.StructuredBuffer ∷ []) <*> type_argument)

abbrev pub next_name : Production Token Outer Outers Named
next_name = mark sign.Comma *> name

abbrev pub some_names : Production Token Outer Outers (List Named)
some_names = (λ x xs. x ∷ xs) <$> name <*> list next_name

abbrev pub registers : Production Token Outer Outers (List Named)
registers = (mark sign.Colon *> (word k.Register *> (mark sign.LeftParen *> some_names <* mark sign.RightParen))) <|> give []

abbrev pub coherent : Production Token Outer Outers (Option Place)
coherent = optional (word k.GloballyCoherent)

abbrev pub buffer_item : Production Token Outer Outers Item
buffer_item = (λ coherent of name registers. item.Buffer coherent of name registers) <$> coherent <*> a_buffer_type <*> name <*> registers <* mark sign.Semicolon

abbrev pub shared_item : Production Token Outer Outers Item
shared_item = (λ place of name size. item.Shared place of name size) <$> word k.GroupShared <*> a_type <*> name <*> size_of (sub a_const) <* mark sign.Semicolon

abbrev pub constant_item : Production Token Outer Outers Item
constant_item = (λ place of name value. item.Constant place of name value) <$> (word k.Static <* word k.Const) <*> a_type <*> name <*> (mark sign.Assign *> sub a_const) <* mark sign.Semicolon

abbrev pub a_result : Production Token Outer Outers ResultType
a_result = ((λ place. result_type.Void place) <$> word k.Void) <|> ((λ of. result_type.Value of) <$> a_type)

abbrev pub directions : List (ℕ × Direction)
directions = (of_word k.In, direction.In) ∷ (of_word k.Out, direction.Out) ∷ (of_word k.InOut, direction.InOut) ∷ []

abbrev pub directed : Token → Directed
directed t = record { place = t.place; direction = at_class directions direction.In (class t) }

abbrev pub some_direction : Production Token Outer Outers (Option Directed)
some_direction = optional (token false (classes directions) directed)

abbrev pub a_parameter_type : Production Token Outer Outers ParameterType
a_parameter_type = ((λ of. parameter_type.Value of) <$> a_type) <|> ((λ of. parameter_type.Object of) <$> object record_objects)

abbrev pub a_parameter : Production Token Outer Outers Parameter
a_parameter = (λ attributes direction of name semantic. record { attributes = attributes; direction = direction; of = of; name = name; semantic = semantic })
    <$> attributes <*> some_direction <*> a_parameter_type <*> name <*> semantic

abbrev pub next_parameter : Production Token Outer Outers Parameter
next_parameter = mark sign.Comma *> a_parameter

abbrev pub some_parameters : Production Token Outer Outers (List Parameter)
some_parameters = (λ x xs. x ∷ xs) <$> a_parameter <*> list next_parameter

abbrev pub parameters : Production Token Outer Outers (List Parameter)
parameters = mark sign.LeftParen *> (some_parameters <|> give []) <* mark sign.RightParen

abbrev pub function_item : Production Token Outer Outers Item
function_item = (λ attributes result name parameters body. item.Function attributes result name parameters body.0 body.1) <$> attributes <*> a_result <*> name <*> parameters <*> sub a_block

abbrev pub an_item : Production Token Outer Outers Item
an_item = struct_item <|> buffer_item <|> shared_item <|> constant_item <|> function_item

abbrev pub text : Production Token Outer Outers Source
text = (λ items. record { items = items }) <$> list an_item

-- the depth of what no statement and no expression holds
abbrev pub outermost : Depth
outermost = record { statement = 0; expression = 0 }

-- room: how deep statements and expressions may go, each
module _ (room : ℕ) where
  abbrev pub outer_rule : (n : Outer) → Phrase (Outers n)
  outer_rule a_const = expr_at constant room outermost
  outer_rule an_argument = expr_at argument room outermost
  outer_rule a_block = (deeper_at room room outermost).block

  abbrev pub outer_rules : Rules Token Depth Outer Outers
  outer_rules = record { room = true; here = outermost; below = outermost; rule = outer_rule }

  -- these tokens, with their depths, spell the tree within this nesting
  abbrev pub SpellsWithin : List (Token × Depth) → Source → Type 0
  SpellsWithin tokens tree = spells class outer_rules text tree tokens []

-- these tokens, with their depths, spell the tree, whatever their nesting
abbrev pub Spells : List (Token × Depth) → Source → Type 0
Spells tokens tree = (room : ℕ) × SpellsWithin room tokens tree

-- some continuation of the tokens spells a text, nesting not counted
abbrev pub IsViable : List Token → Type 0
IsViable tokens = (front more : List (Token × Depth)) × (tree : Source) × (plain front ≡ tokens) × Spells (front ++ more) tree
