-- A text as it is read, from left to right.
use Rattle.std.specs.Prelude.{ℕ, true, List, []}
use Rattle.wg_tokens.specs.declared.token.Token.{Token}
use Rattle.wg_tree.specs.declared.item.Source.{Source}
use Rattle.wg_grammar.specs.Productions.{Edges, Readers, reads}
use Rattle.wg_tokens.specs.Classes.{class}
use Rattle.wg_tree.specs.GrammarExpr.{constant, argument}
use Rattle.wg_tree.specs.GrammarItem.{Outer, a_const, an_argument, a_block, Outers, text}
use Rattle.wg_tree.specs.ReadsExpr.{TokenReader, starts, expr_stops, expr_read_at}
use Rattle.wg_tree.specs.ReadsStmt.{brace, below_at}

abbrev pub outer_starts : Outer → List ℕ
outer_starts a_const = starts constant
outer_starts an_argument = starts argument
outer_starts a_block = brace

abbrev pub outer_stops : Outer → List ℕ
outer_stops a_const = expr_stops constant
outer_stops an_argument = expr_stops argument
outer_stops a_block = []

abbrev pub outer_edges : Edges Outer
outer_edges = record { first = outer_starts; stops = outer_stops }

-- room: how deep statements and expressions may go, each
module _ (room : ℕ) where
  abbrev pub read_outer : (n : Outer) → TokenReader (Outers n)
  read_outer a_const = expr_read_at constant room
  read_outer an_argument = expr_read_at argument room
  read_outer a_block = (below_at room room).block

  abbrev pub outer_readers : Readers Token Outer Outers
  outer_readers = record { room = true; read = read_outer }

  abbrev pub read_text : TokenReader Source
  read_text = reads class outer_edges outer_readers text
