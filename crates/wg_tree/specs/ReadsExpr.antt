-- Expressions as they are read, from left to right with up to four tokens of preview.
use Rattle.std.specs.Prelude.{ℕ, zero, suc, Bool, true, false, List, [], ◌∷◌, ◌++◌}
use Rattle.wg_tokens.specs.declared.mark.Mark.TheVariants as sign
use Rattle.wg_tokens.specs.declared.token.Token.{Token}
use Rattle.wg_tree.specs.declared.expr.Expr.{Expr}
use Rattle.wg_grammar.specs.Reading.{Reader, too_deep, look}
use Rattle.wg_grammar.specs.Productions.{Production, Edges, Readers, of, first, reads}
use Rattle.wg_tokens.specs.Classes.{of_mark, NAME, ZERO, class}
use Rattle.wg_tree.specs.GrammarExpr.{value_types, by_code, classes, operators, ExprKind, full, constant, argument, Nested, whole, nested, Exprs, plain_operand, cast, zero_struct, LevelBelow, links, Sides, sides, choice}

abbrev pub TokenReader : Type 0 → Type 0
TokenReader X = Reader Token X

-- the classes with which an expression begins
abbrev pub starts : ExprKind → List ℕ
starts kind = first (record { first = λ n. []; stops = λ n. [] }) (plain_operand kind)

-- the classes with which an operand could go on; after one in brackets, a 0
abbrev pub operand_stops : ExprKind → List ℕ
operand_stops full = of_mark sign.Dot ∷ of_mark sign.LeftBracket ∷ of_mark sign.LeftParen ∷ ZERO ∷ []
operand_stops constant = []
operand_stops argument = []

abbrev pub level_stops : ExprKind → ℕ → List ℕ
level_stops kind zero = operand_stops kind
level_stops kind (suc j) = classes (operators (suc j)) ++ level_stops kind j

abbrev pub expr_stops : ExprKind → List ℕ
expr_stops kind = of_mark sign.Question ∷ level_stops kind 10

abbrev pub nested_edges : ExprKind → Edges Nested
nested_edges kind = record { first = λ n. starts kind; stops = nested (expr_stops kind) (operand_stops kind) }

abbrev pub level_edges : ExprKind → ℕ → Edges LevelBelow
level_edges kind j = record { first = λ n. starts kind; stops = λ n. level_stops kind j }

abbrev pub side_edges : ExprKind → Edges Sides
side_edges kind = record { first = λ n. starts kind; stops = sides (level_stops kind 10) (expr_stops kind) }

abbrev pub NestedReaders : Type 0
NestedReaders = Readers Token Nested Exprs

abbrev pub cast_tests : List (Token → Bool)
cast_tests = of class (of_mark sign.LeftParen ∷ []) ∷ of class (classes (by_code value_types)) ∷ of class (of_mark sign.RightParen ∷ []) ∷ []

abbrev pub zeros_tests : List (Token → Bool)
zeros_tests = of class (of_mark sign.LeftParen ∷ []) ∷ of class (NAME ∷ []) ∷ of class (of_mark sign.RightParen ∷ []) ∷ of class (ZERO ∷ []) ∷ []

abbrev pub read_part : {X : Type 0} → ExprKind → NestedReaders → Production Token Nested Exprs X → TokenReader X
read_part kind inside p = reads class (nested_edges kind) inside p

abbrev pub read_unary : ExprKind → NestedReaders → TokenReader Expr
read_unary full inside = look cast_tests (read_part full inside cast) (look zeros_tests (read_part full inside zero_struct) (read_part full inside (plain_operand full)))
read_unary constant inside = read_part constant inside (plain_operand constant)
read_unary argument inside = read_part argument inside (plain_operand argument)

abbrev pub read_level : ExprKind → NestedReaders → ℕ → TokenReader Expr
read_level kind inside zero = read_unary kind inside
read_level kind inside (suc j) = reads class (level_edges kind j) (record { room = inside.room; read = λ n. read_level kind inside j }) (links (suc j))

abbrev pub read_expr : ExprKind → NestedReaders → TokenReader Expr
read_expr kind inside = reads class (side_edges kind) (record { room = inside.room; read = sides (read_level kind inside 10) (inside.read whole) }) choice

-- room: how much deeper it may go
abbrev pub inside_at : ExprKind → ℕ → NestedReaders
inside_at kind zero = record { room = false; read = λ n. too_deep (of class (starts kind)) }
inside_at kind (suc room) = record { room = true; read = nested (read_expr kind (inside_at kind room)) (read_unary kind (inside_at kind room)) }

abbrev pub expr_read_at : ExprKind → ℕ → TokenReader Expr
expr_read_at kind room = read_expr kind (inside_at kind room)
