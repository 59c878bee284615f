-- Where there is room, what is nested is read with less of it.
use Rattle.std.proofs.Common.{◌≡◌, ℕ, zero, suc, ◌-◌, ◌<◌, List, refl, arith}
use Rattle.wg_tokens.specs.declared.token.Token.{Token}
use Rattle.wg_tree.specs.GrammarExpr as grammar
use Rattle.wg_tree.specs.ReadsExpr.{read_expr, read_unary}
use Rattle.wg_expressions.specs.declared.kind.ExprKind.{ExprKind}
use Rattle.wg_expressions.specs.Kinds.{kind_of}
use Rattle.wg_expressions.specs.Rooms.{inside}

pub reads_below : (k : ExprKind) (room : ℕ) (part : grammar.Nested) (ts : List Token) → 0 < room
    → (inside k room).read part ts ≡ grammar.nested (read_expr (kind_of k) (inside k (room - 1))) (read_unary (kind_of k) (inside k (room - 1))) part ts
reads_below k zero part ts h = absurd (omega (arith, h))
reads_below k (suc room) part ts h = let e : suc room - 1 ≡ room = omega arith in rw e refl
