-- The grammar of expressions, as a relation. Its productions are data, which `spells` of wg_grammar reads; no preview and no longest match. This project's profile of HLSL.
use Rattle.std.specs.Prelude.{ℕ, zero, suc, ◌==◌, true, false, if◌then◌else◌, List, [], ◌∷◌, map, Option, Some, None}
use Rattle.wg_tokens.specs.declared.mark.Mark.{Mark}
use Rattle.wg_tokens.specs.declared.mark.Mark.TheVariants as sign
use Rattle.wg_words.specs.declared.place.Place.{Place}
use Rattle.wg_tokens.specs.declared.token.Token.{Token}
use Rattle.wg_tokens.specs.declared.token.TokenKind.{TokenKind}
use Rattle.wg_tokens.specs.declared.token.TokenKind.TheVariants as kind
use Rattle.wg_tokens.specs.declared.keyword.Keyword.{Keyword}
use Rattle.wg_tokens.specs.declared.keyword.Keyword.TheVariants as k
use Rattle.wg_tree.specs.declared.expr.Named.{Named}
use Rattle.wg_tree.specs.declared.expr.Scalar.TheVariants as scalar
use Rattle.wg_tree.specs.declared.expr.ValueType.{ValueType}
use Rattle.wg_tree.specs.declared.expr.ValueType.TheVariants as value_type
use Rattle.wg_tree.specs.declared.expr.PrefixOperator.{PrefixOperator}
use Rattle.wg_tree.specs.declared.expr.PrefixOperator.TheVariants as prefix
use Rattle.wg_tree.specs.declared.expr.BinaryOperator.{BinaryOperator}
use Rattle.wg_tree.specs.declared.expr.BinaryOperator.TheVariants as binary
use Rattle.wg_tree.specs.declared.expr.Expr.{Expr}
use Rattle.wg_tree.specs.declared.expr.Expr.TheVariants as e
use Rattle.wg_tree.specs.declared.expr.Form.{Form}
use Rattle.wg_tree.specs.declared.expr.Form.TheVariants as form
use Rattle.wg_tree.specs.declared.expr.Link.{Link, roll-Link}
use Rattle.wg_grammar.specs.Spans.{Span, Never, ◌or◌}
use Rattle.wg_grammar.specs.Productions.{Production, give, token, list, sub, ◌<*>◌, ◌<$>◌, ◌<*◌, ◌*>◌, ◌<|>◌, Rules, spells}
use Rattle.wg_tokens.specs.Classes.{of_mark, NAME, ZERO, NUMBER, TEXT, of_word, class}
use Rattle.wg_tree.specs.Depths.{Depth, deeper}

-- ---- what tokens spell

abbrev pub name_bytes : TokenKind → List ℕ
name_bytes (kind.Plain name) = name
name_bytes _ = []

abbrev pub placed_name : Token → Named
placed_name t = record { name = name_bytes t.kind; place = t.place }

abbrev pub numeral_of : Place → TokenKind → Expr
numeral_of place (kind.Number value unsigned long) = e.Number place value unsigned long
numeral_of place _ = e.Number place 0 false false

abbrev pub numeral : Token → Expr
numeral t = numeral_of t.place t.kind

abbrev pub text_bytes : TokenKind → List ℕ
text_bytes (kind.Text bytes) = bytes
text_bytes _ = []

abbrev pub value_types : List (Keyword × ValueType)
value_types = (k.Bool, value_type.Scalar scalar.Bool) ∷ (k.Bool2, value_type.Vector scalar.Bool 2) ∷ (k.Bool3, value_type.Vector scalar.Bool 3) ∷ (k.Bool4, value_type.Vector scalar.Bool 4)
    ∷ (k.Int, value_type.Scalar scalar.Int) ∷ (k.Int2, value_type.Vector scalar.Int 2) ∷ (k.Int3, value_type.Vector scalar.Int 3) ∷ (k.Int4, value_type.Vector scalar.Int 4)
    ∷ (k.Uint, value_type.Scalar scalar.Uint) ∷ (k.Uint2, value_type.Vector scalar.Uint 2) ∷ (k.Uint3, value_type.Vector scalar.Uint 3) ∷ (k.Uint4, value_type.Vector scalar.Uint 4)
    ∷ (k.Int16, value_type.Scalar scalar.Int16) ∷ (k.Uint16, value_type.Scalar scalar.Uint16) ∷ (k.Int64, value_type.Scalar scalar.Int64) ∷ (k.Uint64, value_type.Scalar scalar.Uint64) ∷ []

-- what a table has for a class, and the other where it has none
abbrev pub at_class : {X : Type 0} → List (ℕ × X) → X → ℕ → X
at_class [] other c = other
at_class (entry ∷ rest) other c = if c == entry.0 then entry.1 else at_class rest other c

abbrev pub by_code : {X : Type 0} → List (Keyword × X) → List (ℕ × X)
by_code = map (λ entry. (of_word entry.0, entry.1))

abbrev pub value_type_of : Token → ValueType
value_type_of t = at_class (by_code value_types) (value_type.Scalar scalar.Bool) (class t)

abbrev pub prefix_operators : List (ℕ × PrefixOperator)
prefix_operators = (of_mark sign.Minus, prefix.Minus) ∷ (of_mark sign.Plus, prefix.Plus) ∷ (of_mark sign.Not, prefix.Not) ∷ (of_mark sign.Tilde, prefix.Complement) ∷ []

abbrev pub prefix_operator : Token → PrefixOperator
prefix_operator t = at_class prefix_operators prefix.Minus (class t)

-- the two-sided operators of a level, from the tightest, which is 1
abbrev pub operators : ℕ → List (ℕ × BinaryOperator)
operators level = if level == 1 then (of_mark sign.Star, binary.Multiply) ∷ (of_mark sign.Slash, binary.Divide) ∷ (of_mark sign.Percent, binary.Remainder) ∷ []
    else (if level == 2 then (of_mark sign.Plus, binary.Add) ∷ (of_mark sign.Minus, binary.Subtract) ∷ []
    else (if level == 3 then (of_mark sign.ShiftLeft, binary.ShiftLeft) ∷ (of_mark sign.ShiftRight, binary.ShiftRight) ∷ []
    else (if level == 4 then (of_mark sign.Less, binary.Less) ∷ (of_mark sign.Greater, binary.Greater) ∷ (of_mark sign.AtMost, binary.AtMost) ∷ (of_mark sign.AtLeast, binary.AtLeast) ∷ []
    else (if level == 5 then (of_mark sign.Equal, binary.Equal) ∷ (of_mark sign.NotEqual, binary.NotEqual) ∷ []
    else (if level == 6 then (of_mark sign.Ampersand, binary.BitAnd) ∷ []
    else (if level == 7 then (of_mark sign.Caret, binary.BitXor) ∷ []
    else (if level == 8 then (of_mark sign.Bar, binary.BitOr) ∷ []
    else (if level == 9 then (of_mark sign.And, binary.And) ∷ []
    else (of_mark sign.Or, binary.Or) ∷ []))))))))

abbrev pub binary_operator : ℕ → Token → BinaryOperator
binary_operator level t = at_class (operators level) binary.Or (class t)

abbrev pub classes : {X : Type 0} → List (ℕ × X) → List ℕ
classes = map (λ entry. entry.0)

-- ---- parts that stand in every grammar here

module _ {N : Type 0} {Of : N → Type 0} where
  abbrev pub mark : Mark → Production Token N Of Place
  mark m = token false (of_mark m ∷ []) (λ t. t.place)

  -- one deeper
  abbrev pub inner_mark : Mark → Production Token N Of Place
  inner_mark m = token true (of_mark m ∷ []) (λ t. t.place)

  abbrev pub word : Keyword → Production Token N Of Place
  word w = token false (of_word w ∷ []) (λ t. t.place)

  abbrev pub name : Production Token N Of Named
  name = token false (NAME ∷ []) placed_name

  -- one of these, itself
  abbrev pub one_of : List ℕ → Production Token N Of Token
  one_of set = token false set (λ t. t)

  abbrev pub optional : {X : Type 0} → Production Token N Of X → Production Token N Of (Option X)
  optional p = (Some <$> p) <|> give None

-- ---- expressions

-- an expression, or an expression that is a `const` outside of attributes, or an argument of an attribute
pub data ExprKind : Type 0 where
  full : ExprKind
  constant : ExprKind
  argument : ExprKind

-- what stands one deeper: an expression, or the operand of a prefix
pub data Nested : Type 0 where
  whole : Nested
  operand : Nested

abbrev pub Exprs : Nested → Type 0
Exprs n = Expr

abbrev pub Phrase : Type 0 → Type 1
Phrase X = X → Span (Token × Depth)

abbrev pub comma_expr : Production Token Nested Exprs Expr
comma_expr = inner_mark sign.Comma *> sub whole

abbrev pub some_exprs : Production Token Nested Exprs (List Expr)
some_exprs = (λ x xs. x ∷ xs) <$> sub whole <*> list comma_expr

abbrev pub exprs : Production Token Nested Exprs (List Expr)
exprs = some_exprs <|> give []

-- arguments in brackets
abbrev pub arguments : Production Token Nested Exprs (List Expr)
arguments = inner_mark sign.LeftParen *> exprs <* inner_mark sign.RightParen

abbrev pub numbers : Production Token Nested Exprs Expr
numbers = token false (NUMBER ∷ ZERO ∷ []) numeral

abbrev pub texts : Production Token Nested Exprs Expr
texts = token false (TEXT ∷ []) (λ t. e.Text t.place (text_bytes t.kind))

abbrev pub truths : Production Token Nested Exprs Expr
truths = token false (of_word k.True ∷ of_word k.False ∷ []) (λ t. e.Truth t.place (class t == of_word k.True))

abbrev pub name_only : Production Token Nested Exprs Expr
name_only = (λ n. e.Name n) <$> name

abbrev pub call_of : Named → Option (List Expr) → Expr
call_of name None = e.Name name
call_of name (Some arguments) = e.Call name arguments

-- a name, or a call, which is a name directly followed by a bracket
abbrev pub name_or_call : Production Token Nested Exprs Expr
name_or_call = call_of <$> name <*> optional arguments

abbrev pub a_value_type : Production Token Nested Exprs Token
a_value_type = one_of (classes (by_code value_types))

abbrev pub construct : Production Token Nested Exprs Expr
construct = (λ t xs. e.Construct t.place (value_type_of t) xs) <$> a_value_type <*> (inner_mark sign.LeftParen *> some_exprs <* inner_mark sign.RightParen)

abbrev pub bracket : Production Token Nested Exprs Expr
bracket = (λ place x. e.Bracket place x) <$> inner_mark sign.LeftParen <*> sub whole <* inner_mark sign.RightParen

abbrev pub prime : ExprKind → Production Token Nested Exprs Expr
prime full = numbers <|> truths <|> name_or_call <|> construct <|> bracket
prime constant = numbers <|> name_only <|> bracket
prime argument = numbers <|> texts <|> name_only <|> bracket

abbrev pub accessed : Named → Option (List Expr) → Form
accessed name None = form.Member name
accessed name (Some arguments) = form.Method name arguments

-- a member, or a method, which is a member directly followed by a bracket
abbrev pub member_or_method : Production Token Nested Exprs Form
member_or_method = accessed <$> (mark sign.Dot *> name) <*> optional arguments

abbrev pub index : Production Token Nested Exprs Form
index = (λ place x. form.Index place x) <$> inner_mark sign.LeftBracket <*> sub whole <* inner_mark sign.RightBracket

-- what may follow an operand
abbrev pub a_form : Production Token Nested Exprs Form
a_form = member_or_method <|> index

-- no chain is empty
abbrev pub with_forms : Expr → List Form → Expr
with_forms first [] = first
with_forms first (f ∷ forms) = e.Postfix first (f ∷ forms)

abbrev pub postfix : Production Token Nested Exprs Expr
postfix = with_forms <$> prime full <*> list a_form

abbrev pub prefixed : Production Token Nested Exprs Expr
prefixed = (λ t x. e.Prefix t.place (prefix_operator t) x) <$> one_of (classes prefix_operators) <*> sub operand

abbrev pub cast : Production Token Nested Exprs Expr
cast = (λ place t x. e.Cast place (value_type_of t) x) <$> inner_mark sign.LeftParen <*> token true (classes (by_code value_types)) (λ t. t) <* inner_mark sign.RightParen <*> sub operand

-- a struct of zeros
abbrev pub zero_struct : Production Token Nested Exprs Expr
zero_struct = (λ place name. e.Zeros place name) <$> inner_mark sign.LeftParen <*> token true (NAME ∷ []) placed_name <* inner_mark sign.RightParen <* token true (ZERO ∷ []) (λ t. t.place)

-- an operand that no prefix stands before
abbrev pub unprefixed : ExprKind → Production Token Nested Exprs Expr
unprefixed full = postfix
unprefixed constant = prime constant
unprefixed argument = prime argument

-- an operand without a cast
abbrev pub plain_operand : ExprKind → Production Token Nested Exprs Expr
plain_operand kind = prefixed <|> unprefixed kind

abbrev pub Inner : Type 1
Inner = Rules Token Depth Nested Exprs

abbrev pub unary : ExprKind → Inner → Phrase Expr
unary full inner = spells class inner cast or spells class inner zero_struct or spells class inner (plain_operand full)
unary constant inner = spells class inner (plain_operand constant)
unary argument inner = spells class inner (plain_operand argument)

-- the level below
pub data LevelBelow : Type 0 where
  lower : LevelBelow

abbrev pub LowerExpr : LevelBelow → Type 0
LowerExpr n = Expr

abbrev pub link_of : ℕ → Token → Expr → Link
link_of level t x = roll-Link (record { operator = binary_operator level t; place = t.place; operand = x })

-- no chain is empty
abbrev pub chain : Expr → List Link → Expr
chain first [] = first
chain first (l ∷ links) = e.Chain first (l ∷ links)

-- an operator of a level, and its right operand
abbrev pub link : ℕ → Production Token LevelBelow LowerExpr Link
link level = link_of level <$> one_of (classes (operators level)) <*> sub lower

abbrev pub links : ℕ → Production Token LevelBelow LowerExpr Expr
links level = chain <$> sub lower <*> list (link level)

abbrev pub level : ExprKind → Inner → ℕ → Phrase Expr
level kind inner zero = unary kind inner
level kind inner (suc j) = spells class (record { room = inner.room; here = inner.here; below = inner.below; rule = λ n. level kind inner j }) (links (suc j))

-- the loosest level of operators, and what stands to the right of `?`
pub data Sides : Type 0 where
  left : Sides
  right : Sides

abbrev pub Side : Sides → Type 0
Side n = Expr

abbrev pub choice_of : Expr → Option (Expr × Expr) → Expr
choice_of test None = test
choice_of test (Some p) = e.Choice test p.0 p.1

-- what stands on both sides of `:`
abbrev pub two_sides : Production Token Sides Side (Expr × Expr)
two_sides = (λ x y. (x, y)) <$> (mark sign.Question *> sub right) <* mark sign.Colon <*> sub right

abbrev pub choice : Production Token Sides Side Expr
choice = choice_of <$> sub left <*> optional two_sides

abbrev pub sides {ℓ} : {A : Type ℓ} → A → A → Sides → A
sides l r left = l
sides l r right = r

abbrev pub expr : ExprKind → Inner → Phrase Expr
expr kind inner = spells class (record { room = inner.room; here = inner.here; below = inner.below; rule = sides (level kind inner 10) (inner.rule whole) }) choice

abbrev pub nested {ℓ} : {A : Type ℓ} → A → A → Nested → A
nested w o whole = w
nested w o operand = o

-- room: how much deeper than d it may go
abbrev pub inner_at : ExprKind → ℕ → Depth → Inner
inner_at kind zero d = record { room = false; here = d; below = deeper d; rule = λ n. Never }
inner_at kind (suc room) d = record { room = true; here = d; below = deeper d; rule = nested (expr kind (inner_at kind room (deeper d))) (unary kind (inner_at kind room (deeper d))) }

abbrev pub expr_at : ExprKind → ℕ → Depth → Phrase Expr
expr_at kind room d = expr kind (inner_at kind room d)
