-- Parts of expressions as a function value reads what is nested in them.
use Rattle.std.specs.Prelude.{ℕ, List, Result}
use Rattle.std.specs.declared.alloc.Global.{Global}
use denote.Ref.{MutBor}
use Rattle.wg_tokens.specs.declared.token.Token.{Token}
use Rattle.wg_tree.specs.declared.expr.Expr.{Expr}
use Rattle.wg_grammar.specs.Productions.{Production}
use Rattle.wg_tree.specs.GrammarExpr as grammar
use Rattle.wg_tree.specs.ReadsExpr.{TokenReader, NestedReaders, inside_at, read_part}
use Rattle.wg_cursor.specs.declared.halt.Halt.{Halt}
use Rattle.wg_expressions.specs.declared.kind.ExprKind.{ExprKind}
use Rattle.wg_expressions.specs.declared.kind.ExprKind.TheVariants as kind
use Rattle.wg_expressions.specs.declared.kind.Nested.{Nested}
use Rattle.wg_expressions.specs.declared.kind.Nested.TheVariants as nested
use Rattle.wg_cursor.specs.IsReading.{IsReading}
use Rattle.wg_expressions.specs.Kinds.{kind_of}

abbrev pub nested_of : Nested → grammar.Nested
nested_of nested.Whole = grammar.whole
nested_of nested.Operand = grammar.operand

abbrev pub inside : ExprKind → ℕ → NestedReaders
inside kind room = inside_at (kind_of kind) room

abbrev pub read : {X : Type 0} → ExprKind → ℕ → Production Token grammar.Nested grammar.Exprs X → TokenReader X
read kind room part = read_part (kind_of kind) (inside kind room) part

-- a function value that reads what is nested, with this much room
pub record Nests (room : ℕ) (pre : Global → MutBor (List Token) → ExprKind → ℕ → Nested → Type 0)
    (post : Global → MutBor (List Token) → ExprKind → ℕ → Nested → Result Expr Halt → MutBor (List Token) → Type 0) : Type 0 where
  pub callable : (alloc : Global) (old : MutBor (List Token)) (kind : ExprKind) (part : Nested) → pre alloc old kind room part
  pub reads : (alloc : Global) (old new : MutBor (List Token)) (kind : ExprKind) (part : Nested) (result : Result Expr Halt) → post alloc old kind room part result new
      → IsReading ((inside kind room).read (nested_of part) old.now) result new.now
