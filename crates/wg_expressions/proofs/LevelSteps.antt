-- Levels of operators, a level at a time.
use Rattle.std.proofs.Common.{◌≡◌, ◌∙◌, ℕ, zero, suc, ◌-◌, ◌<◌, Bool, List, refl, sym, ap, subst, arith}
use Rattle.std.proofs.lemmas.List.{append-nil}
use Rattle.wg_tokens.specs.declared.token.Token.{Token}
use Rattle.wg_tokens.specs.Classes.{class}
use Rattle.wg_tree.specs.GrammarExpr.{links, classes, operators}
use Rattle.wg_tree.specs.ReadsExpr.{read_level}
use Rattle.wg_grammar.specs.Productions.{of}
use Rattle.wg_grammar.specs.Reading.{sees}
use Rattle.wg_expressions.specs.declared.kind.ExprKind.{ExprKind}
use Rattle.wg_expressions.specs.Kinds.{kind_of}
use Rattle.wg_expressions.specs.Levels.{link_starts, read_above}
use Rattle.wg_expressions.specs.Rooms.{inside}

pub reads_chain : (k : ExprKind) (room level : ℕ) (ts : List Token) → 0 < level → read_level (kind_of k) (inside k room) level ts ≡ read_above k room (level - 1) (links level) ts
reads_chain k room zero ts h = absurd (omega (arith, h))
reads_chain k room (suc j) ts h = let e : suc j - 1 ≡ j = omega arith in rw e refl

starts_link : (k : ExprKind) (j level : ℕ) (ts : List Token) → sees (of class (link_starts k j level)) ts ≡ sees (of class (classes (operators level))) ts
starts_link k j level ts = ap (λ set. sees (of class set) ts) (append-nil (classes (operators level)))

-- where an operator of the level is seen, a link begins
pub sees_link : (k : ExprKind) (j level : ℕ) (ts : List Token) (set : List ℕ) (seen v : Bool) → set ≡ classes (operators level) → seen ≡ sees (of class set) ts → seen ≡ v → sees (of class (link_starts k j level)) ts ≡ v
sees_link k j level ts set seen v e f g = starts_link k j level ts ∙ subst (λ s. sees (of class s) ts ≡ v) e (sym f ∙ g)
