-- Statements as they are read, from left to right with two tokens of preview.
use Rattle.std.specs.Prelude.{ℕ, zero, suc, Bool, true, List, [], ◌∷◌, ◌++◌, Some, None}
use Rattle.wg_tokens.specs.declared.mark.Mark.TheVariants as sign
use Rattle.wg_words.specs.declared.place.Place.{Place}
use Rattle.wg_tokens.specs.declared.token.Token.{Token}
use Rattle.wg_tokens.specs.declared.keyword.Keyword.TheVariants as k
use Rattle.wg_tree.specs.declared.stmt.Stmt.{Stmt}
use Rattle.wg_tree.specs.declared.stmt.Stmt.TheVariants as s
use Rattle.wg_grammar.specs.Reading.{◌>>=◌, pure, take_if, too_deep, by_next, look}
use Rattle.wg_grammar.specs.Productions.{Edges, Readers, of, first, stops, reads}
use Rattle.wg_tokens.specs.Classes.{of_mark, NAME, of_word, class}
use Rattle.wg_tree.specs.GrammarExpr.{full, constant, argument}
use Rattle.wg_tree.specs.ReadsExpr.{TokenReader, starts, expr_stops, expr_read_at}
use Rattle.wg_tree.specs.GrammarStmt.{type_classes, Values, value, const, Value, declared_stmt, stepped_stmt, declared_start, stepped_start, StmtHole, a_value, a_const, an_argument, opening, starting, HoleTree, Head, if_head, while_head, for_head, basic, head, Inside, braces, block_of}

abbrev pub values_of {ℓ} : {A : Type ℓ} → A → A → Values → A
values_of v c value = v
values_of v c const = c

abbrev pub values_edges : Edges Values
values_edges = record { first = values_of (starts full) (starts constant); stops = values_of (expr_stops full) (expr_stops constant) }

-- a type and a name begin a declaration
abbrev pub declares : List (Token → Bool)
declares = of class type_classes ∷ of class (NAME ∷ []) ∷ []

-- the classes with which a step begins
abbrev pub step_starts : List ℕ
step_starts = first values_edges stepped_stmt

-- a name does not follow a step, since it would make a declaration
abbrev pub opening_stops : List ℕ
opening_stops = NAME ∷ (stops values_edges declared_stmt ++ stops values_edges stepped_stmt)

abbrev pub starting_stops : List ℕ
starting_stops = NAME ∷ (stops values_edges declared_start ++ stops values_edges stepped_start)

abbrev pub hole_starts : StmtHole → List ℕ
hole_starts a_value = starts full
hole_starts a_const = starts constant
hole_starts an_argument = starts argument
hole_starts opening = step_starts
hole_starts starting = step_starts

abbrev pub hole_stops : StmtHole → List ℕ
hole_stops a_value = expr_stops full
hole_stops a_const = expr_stops constant
hole_stops an_argument = expr_stops argument
hole_stops opening = opening_stops
hole_stops starting = starting_stops

abbrev pub hole_edges : Edges StmtHole
hole_edges = record { first = hole_starts; stops = hole_stops }

abbrev pub head_starts : List ℕ
head_starts = first hole_edges head

abbrev pub basic_starts : List ℕ
basic_starts = first hole_edges basic

abbrev pub brace : List ℕ
brace = of_mark sign.LeftBrace ∷ []

abbrev pub stmt_starts : List ℕ
stmt_starts = brace ++ (head_starts ++ basic_starts)

abbrev pub inside_edges : Edges Inside
inside_edges = record { first = λ n. stmt_starts; stops = λ n. of_word k.Else ∷ [] }

-- room: how much deeper expressions may go
module _ (room : ℕ) where
  abbrev pub values_readers : Readers Token Values Value
  values_readers = record { room = true; read = values_of (expr_read_at full room) (expr_read_at constant room) }

  abbrev pub read_hole : (n : StmtHole) → TokenReader (HoleTree n)
  read_hole a_value = expr_read_at full room
  read_hole a_const = expr_read_at constant room
  read_hole an_argument = expr_read_at argument room
  read_hole opening = look declares (reads class values_edges values_readers declared_stmt) (reads class values_edges values_readers stepped_stmt)
  read_hole starting = look declares (reads class values_edges values_readers declared_start) (reads class values_edges values_readers stepped_start)

  abbrev pub hole_readers : Readers Token StmtHole HoleTree
  hole_readers = record { room = true; read = read_hole }

  abbrev pub read_finish : TokenReader Stmt → Head → TokenReader Stmt
  read_finish body (if_head attributes place test) = body >>= λ one.
      by_next (of class (of_word k.Else ∷ [])) (take_if (of class (of_word k.Else ∷ [])) (λ t. t.place) >>= λ p. body >>= λ other. pure (s.If attributes place test one (Some other))) (pure (s.If attributes place test one None))
  read_finish body (while_head attributes place test) = body >>= λ b. pure (s.While attributes place test b)
  read_finish body (for_head attributes place header) = body >>= λ b. pure (s.For attributes place header b)

  abbrev pub read_unbraced : TokenReader Stmt → TokenReader Stmt
  read_unbraced body = by_next (of class head_starts) (reads class hole_edges hole_readers head >>= read_finish body) (reads class hole_edges hole_readers basic)

-- what stands one statement deeper
pub record Below : Type 0 where
  pub block : TokenReader (Place × List Stmt)
  pub body : TokenReader Stmt

module _ (room : ℕ) (inner : Below) where
  abbrev pub read_stmt : TokenReader Stmt
  read_stmt = by_next (of class brace) (inner.block >>= λ p. pure (block_of p)) (read_unbraced room inner.body)

  abbrev pub read_block : TokenReader (Place × List Stmt)
  read_block = reads class inside_edges (record { room = true; read = λ n. read_stmt }) braces

  abbrev pub read_body : TokenReader Stmt
  read_body = by_next (of class brace) (read_block >>= λ p. pure (block_of p)) (read_unbraced room inner.body)

-- depth: how much deeper statements may go, and room, expressions
abbrev pub below_at : ℕ → ℕ → Below
below_at room zero = record { block = too_deep (of class brace); body = too_deep (of class stmt_starts) }
below_at room (suc depth) = record { block = read_block room (below_at room depth); body = read_body room (below_at room depth) }
