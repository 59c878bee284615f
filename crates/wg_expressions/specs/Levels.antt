-- The levels of two-sided operators, as they are read.
use Rattle.std.specs.Prelude.{ℕ, List}
use Rattle.wg_tokens.specs.declared.token.Token.{Token}
use Rattle.wg_tree.specs.declared.expr.Expr.{Expr}
use Rattle.wg_grammar.specs.Productions.{Production, first, reads}
use Rattle.wg_tokens.specs.Classes.{class}
use Rattle.wg_tree.specs.GrammarExpr.{LevelBelow, LowerExpr, link, Sides, Side, sides, whole}
use Rattle.wg_tree.specs.ReadsExpr.{TokenReader, read_level, level_edges, side_edges}
use Rattle.wg_expressions.specs.declared.kind.ExprKind.{ExprKind}
use Rattle.wg_expressions.specs.Kinds.{kind_of}
use Rattle.wg_expressions.specs.Rooms.{inside}

-- a part over operands of level j
abbrev pub read_above : {X : Type 0} → ExprKind → ℕ → ℕ → Production Token LevelBelow LowerExpr X → TokenReader X
read_above kind room j part = reads class (level_edges (kind_of kind) j) (record { room = (inside kind room).room; read = λ n. read_level (kind_of kind) (inside kind room) j }) part

-- the classes of the operators of a level
abbrev pub link_starts : ExprKind → ℕ → ℕ → List ℕ
link_starts kind j level = first (level_edges (kind_of kind) j) (link level)

-- a part over what stands at the sides of `?`
abbrev pub read_sides : {X : Type 0} → ExprKind → ℕ → Production Token Sides Side X → TokenReader X
read_sides kind room part = reads class (side_edges (kind_of kind)) (record { room = (inside kind room).room; read = sides (read_level (kind_of kind) (inside kind room) 10) ((inside kind room).read whole) }) part
