-- A text is read exactly, whatever the room, so no list of tokens spells two trees.
use Rattle.std.proofs.Common.{◌≡◌, ℕ, ◌+◌, ◌≤◌, List, [], refl, sym, ◌∙◌, ap, arith}
use Rattle.wg_tokens.specs.declared.token.Token.{Token}
use Rattle.wg_tree.specs.declared.item.Source.{Source}
use Rattle.wg_grammar.specs.Reading.{Reading, Got, Wrong, Deep}
use Rattle.wg_grammar.specs.Depths.{plain}
use Rattle.wg_grammar.proofs.Kept.{Persists, Kept}
use Rattle.wg_grammar.proofs.PartKept.{part_persists}
use Rattle.wg_grammar.proofs.PartFull.{part_full}
use Rattle.wg_grammar.proofs.Exact.{Exact, grows_self}
use Rattle.wg_tokens.specs.Classes.{class}
use Rattle.wg_tree.specs.Depths.{Depth}
use Rattle.wg_tree.specs.GrammarExpr.{constant, argument}
use Rattle.wg_tree.specs.GrammarItem.{Outer, a_const, an_argument, a_block, text, outermost, outer_rules, SpellsWithin, Spells}
use Rattle.wg_tree.specs.ReadsItem.{outer_edges, outer_readers, read_text}
use Rattle.wg_tree.proofs.Examples.{example}
use Rattle.wg_tree.proofs.ExprExact.{known, exact_expr_at, expr_more}
use Rattle.wg_tree.proofs.StmtExact.{known_stmt, below_more}
use Rattle.wg_tree.proofs.ItemDecides.{text_decides}

pub exact_outer : (room : ℕ) (n : Outer) → Exact class (outer_edges.first n) (outer_edges.stops n) ((outer_readers room).read n) ((outer_rules room).rule n)
exact_outer room a_const = exact_expr_at constant room (known constant room) outermost
exact_outer room an_argument = exact_expr_at argument room (known argument room) outermost
exact_outer room a_block = (known_stmt room room).block outermost

-- what is spelled is read
pub complete : (room : ℕ) (tokens : List (Token × Depth)) (tree : Source) → SpellsWithin room tokens tree → read_text room (plain tokens) ≡ Got tree []
complete room tokens tree h = (part_full class outer_edges example (outer_rules room) (λ n. (exact_outer room n).begins_with) (outer_readers room) refl (grows_self class outer_edges example (outer_readers room) (outer_rules room) refl (exact_outer room)) (λ n. (exact_outer room n).full) text text_decides).reads tree tokens [] h refl

pub text_more : (room more : ℕ) → room ≤ more → Persists (read_text room) (read_text more)
text_more room more l = part_persists class outer_edges example (outer_readers room) (outer_readers more) (record { room = λ e. refl; kept = kept; eats = λ n. (exact_outer room n).eats }) text text_decides
  where
    kept : (n : Outer) → Persists ((outer_readers room).read n) ((outer_readers more).read n)
    kept a_const = expr_more constant room more l
    kept an_argument = expr_more argument room more l
    kept a_block = (below_more room more room more l l).block

-- with more room it is read the same
pub raise : (room more : ℕ) (tokens : List Token) (tree : Source) → room ≤ more → read_text room tokens ≡ Got tree [] → read_text more tokens ≡ Got tree []
raise room more tokens tree l e = go (read_text room tokens) e ((text_more room more l).at tokens)
  where
    go : (o : Reading Token Source) → o ≡ Got tree [] → Kept (λ i o. read_text more i ≡ o) tokens o → read_text more tokens ≡ Got tree []
    go (Got y b) q k = ap (read_text more) k.1 ∙ k.2 b refl ∙ q
    go (Wrong b) q k = absurd (cc)
    go (Deep b) q k = absurd (cc)

same_tree : (x y : Source) → ◌≡◌ {A = Reading Token Source} (Got x []) (Got y []) → x ≡ y
same_tree x y e = cc

pub one_tree : (a b : List (Token × Depth)) (x y : Source) → plain a ≡ plain b → Spells a x → Spells b y → x ≡ y
one_tree a b x y e h k =
    let more = h.0 + k.0 in
    let first = raise h.0 more (plain a) x (omega arith) (complete h.0 a x h.1) in
    let second = raise k.0 more (plain b) y (omega arith) (complete k.0 b y k.1) in
    same_tree x y (sym first ∙ ap (read_text more) e ∙ second)
