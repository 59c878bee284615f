-- How the parts of statements and of items are read, with this room for the nesting in them.
use Rattle.std.specs.Prelude.{ℕ, List}
use Rattle.wg_tree.specs.declared.expr.Expr.{Expr}
use Rattle.wg_tree.specs.declared.stmt.Attribute.{Attribute}
use Rattle.wg_tree.specs.declared.stmt.Step.{Step}
use Rattle.wg_tree.specs.declared.stmt.Stmt.{Stmt}
use Rattle.wg_tokens.specs.declared.token.Token.{Token}
use Rattle.wg_grammar.specs.Reading.{◌>>=◌, pure}
use Rattle.wg_grammar.specs.Productions.{Production, reads}
use Rattle.wg_tokens.specs.Classes.{class}
use Rattle.wg_tree.specs.GrammarStmt.{StmtHole, HoleTree, Head, value_part, step_rest}
use Rattle.wg_tree.specs.GrammarItem.{Outer, Outers}
use Rattle.wg_tree.specs.ReadsExpr.{TokenReader}
use Rattle.wg_tree.specs.ReadsStmt.{hole_edges, hole_readers, read_finish}
use Rattle.wg_tree.specs.ReadsItem.{outer_edges, outer_readers}

abbrev pub stmt_part_read : {X : Type 0} → ℕ → Production Token StmtHole HoleTree X → TokenReader X
stmt_part_read room p = reads class hole_edges (hole_readers room) p

abbrev pub item_part_read : {X : Type 0} → ℕ → Production Token Outer Outers X → TokenReader X
item_part_read room p = reads class outer_edges (outer_readers room) p

-- a step, after the expression with which it begins
abbrev pub step_after : ℕ → Expr → TokenReader Step
step_after room target = stmt_part_read room (step_rest value_part) >>= λ rest. pure (rest target)

-- a statement with this body, after its attributes
abbrev pub headed : ℕ → TokenReader Stmt → List Attribute → Production Token StmtHole HoleTree (List Attribute → Head) → TokenReader Stmt
headed room body attributes p = (stmt_part_read room p >>= λ make. pure (make attributes)) >>= read_finish room body
