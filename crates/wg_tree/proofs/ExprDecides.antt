-- The next token decides how an expression goes on.
use Rattle.std.proofs.Common.{◌≡◌, ℕ, suc, zero, ◌&&◌, Bool, true, refl}
use Rattle.wg_grammar.specs.Productions.{decides, covered, stops}
use Rattle.wg_tokens.specs.Classes.{class}
use Rattle.wg_tree.specs.GrammarExpr.{ExprKind, full, constant, argument, plain_operand, cast, zero_struct, links, choice}
use Rattle.wg_tree.specs.ReadsExpr.{operand_stops, level_stops, expr_stops, nested_edges, level_edges, side_edges}
use Rattle.wg_tree.proofs.Examples.{example}

pub cast_decides : decides class (nested_edges full) example cast ≡ true
cast_decides = refl

pub zeros_decides : decides class (nested_edges full) example zero_struct ≡ true
zeros_decides = refl

pub plain_decides : (kind : ExprKind) → decides class (nested_edges kind) example (plain_operand kind) ≡ true
plain_decides full = refl
plain_decides constant = refl
plain_decides argument = refl

pub plain_covered : (kind : ExprKind) → covered (stops (nested_edges kind) (plain_operand kind)) (operand_stops kind) ≡ true
plain_covered full = refl
plain_covered constant = refl
plain_covered argument = refl

-- each level up to this one
abbrev pub levels_decide : ExprKind → ℕ → Bool
levels_decide kind zero = true
levels_decide kind (suc j) = decides class (level_edges kind j) example (links (suc j)) && (covered (stops (level_edges kind j) (links (suc j))) (level_stops kind (suc j)) && levels_decide kind j)

pub all_levels : (kind : ExprKind) → levels_decide kind 10 ≡ true
all_levels full = refl
all_levels constant = refl
all_levels argument = refl

pub choice_decides : (kind : ExprKind) → decides class (side_edges kind) example choice ≡ true
choice_decides full = refl
choice_decides constant = refl
choice_decides argument = refl

pub choice_covered : (kind : ExprKind) → covered (stops (side_edges kind) choice) (expr_stops kind) ≡ true
choice_covered full = refl
choice_covered constant = refl
choice_covered argument = refl
