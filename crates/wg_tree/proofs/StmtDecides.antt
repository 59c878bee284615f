-- The next token decides how a statement goes on, but for what begins a declaration or a step.
use Rattle.std.proofs.Common.{◌≡◌, ◌++◌, true, refl}
use Rattle.wg_grammar.specs.Productions.{decides, apart}
use Rattle.wg_tokens.specs.Classes.{class}
use Rattle.wg_tree.specs.GrammarStmt.{declared_stmt, stepped_stmt, declared_start, stepped_start, basic, head, braces}
use Rattle.wg_tree.specs.ReadsStmt.{values_edges, hole_edges, head_starts, basic_starts, brace, inside_edges}
use Rattle.wg_tree.proofs.Examples.{example}

pub declared_stmt_decides : decides class values_edges example declared_stmt ≡ true
declared_stmt_decides = refl

pub stepped_stmt_decides : decides class values_edges example stepped_stmt ≡ true
stepped_stmt_decides = refl

pub declared_start_decides : decides class values_edges example declared_start ≡ true
declared_start_decides = refl

pub stepped_start_decides : decides class values_edges example stepped_start ≡ true
stepped_start_decides = refl

pub basic_decides : decides class hole_edges example basic ≡ true
basic_decides = refl

pub head_decides : decides class hole_edges example head ≡ true
head_decides = refl

pub braces_decides : decides class inside_edges example braces ≡ true
braces_decides = refl

pub heads_apart : apart head_starts basic_starts ≡ true
heads_apart = refl

pub brace_apart : apart brace (head_starts ++ basic_starts) ≡ true
brace_apart = refl
