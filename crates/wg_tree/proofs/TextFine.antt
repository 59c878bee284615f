-- What is read as a text is spelled so, and what was read before a fault can be completed.
use Rattle.std.proofs.Common.{ℕ, ◌+◌, ◌≤◌, refl, arith}
use Rattle.wg_grammar.specs.Productions.{spells}
use Rattle.wg_grammar.proofs.Fine as f
use Rattle.wg_grammar.proofs.PartFine.{part_fine}
use Rattle.wg_tokens.specs.Classes.{class}
use Rattle.wg_tree.specs.Depths.{Within}
use Rattle.wg_tree.specs.GrammarExpr.{constant, argument}
use Rattle.wg_tree.specs.GrammarItem.{Outer, a_const, an_argument, a_block, text, outermost, outer_rules}
use Rattle.wg_tree.specs.ReadsItem.{outer_edges, outer_readers, read_text}
use Rattle.wg_tree.proofs.Examples.{example}
use Rattle.wg_tree.proofs.ExprFine.{expr_fine}
use Rattle.wg_tree.proofs.BodyFine.{below_fine}
use Rattle.wg_tree.proofs.ItemDecides.{text_decides}

-- read with this room, spelled with that one
pub text_fine : (ok : Type 0) (room more : ℕ) → room ≤ more → (ok → room + 2 ≤ more) → f.Fine ok (Within room) (read_text room) (spells class (outer_rules more) text)
text_fine ok room more l o = part_fine ok class outer_edges example (Within room) (outer_rules more) (outer_readers room) (λ z. refl) (λ q. refl) here (λ q. here) (λ q. absurd (cc)) fine text text_decides
  where
    here : Within room outermost
    here = (omega arith, omega arith)

    fine : (n : Outer) → f.Fine ok (Within room) ((outer_readers room).read n) ((outer_rules more).rule n)
    fine a_const = expr_fine ok room constant room more outermost (omega arith) (omega arith) l o
    fine an_argument = expr_fine ok room argument room more outermost (omega arith) (omega arith) l o
    fine a_block = (below_fine ok room room more l o room more outermost (omega arith) (omega arith) l o).block
