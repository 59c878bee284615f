-- Which operand is read, by the next tokens.
use Rattle.std.proofs.Common.{◌≡◌, ℕ, true, false, List, refl}
use Rattle.wg_tokens.specs.declared.token.Token.{Token}
use Rattle.wg_tokens.specs.Classes.{class}
use Rattle.wg_tree.specs.GrammarExpr as grammar
use Rattle.wg_tree.specs.ReadsExpr.{read_unary, cast_tests, zeros_tests}
use Rattle.wg_grammar.specs.Productions.{of}
use Rattle.wg_grammar.specs.Reading.{sees, begins_with}
use Rattle.wg_expressions.specs.declared.kind.ExprKind.{ExprKind}
use Rattle.wg_expressions.specs.declared.kind.ExprKind.TheVariants as kind
use Rattle.wg_expressions.specs.Kinds.{kind_of}
use Rattle.wg_expressions.specs.Rooms.{inside, read}

pub reads_prefixed : (k : ExprKind) (room : ℕ) (ts : List Token) → sees (of class (grammar.classes grammar.prefix_operators)) ts ≡ true
    → read k room (grammar.plain_operand (kind_of k)) ts ≡ read k room grammar.prefixed ts
reads_prefixed kind.Full room ts e = rw e refl
reads_prefixed kind.Constant room ts e = rw e refl
reads_prefixed kind.Argument room ts e = rw e refl

pub reads_unprefixed : (k : ExprKind) (room : ℕ) (ts : List Token) → sees (of class (grammar.classes grammar.prefix_operators)) ts ≡ false
    → read k room (grammar.plain_operand (kind_of k)) ts ≡ read k room (grammar.unprefixed (kind_of k)) ts
reads_unprefixed kind.Full room ts e = rw e refl
reads_unprefixed kind.Constant room ts e = rw e refl
reads_unprefixed kind.Argument room ts e = rw e refl

pub reads_plain : (k : ExprKind) (room : ℕ) (ts : List Token) → k ≡ kind.Full → begins_with cast_tests ts ≡ false → begins_with zeros_tests ts ≡ false
    → read_unary (kind_of k) (inside k room) ts ≡ read k room (grammar.plain_operand (kind_of k)) ts
reads_plain kind.Full room ts k c z = rw (c, z) refl
reads_plain kind.Constant room ts k c z = absurd (cc)
reads_plain kind.Argument room ts k c z = absurd (cc)
