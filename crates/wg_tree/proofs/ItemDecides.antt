-- The next token decides how a text goes on.
use Rattle.std.proofs.Common.{◌≡◌, true, refl}
use Rattle.wg_grammar.specs.Productions.{decides}
use Rattle.wg_tokens.specs.Classes.{class}
use Rattle.wg_tree.specs.GrammarItem.{text}
use Rattle.wg_tree.specs.ReadsItem.{outer_edges}
use Rattle.wg_tree.proofs.Examples.{example}

pub text_decides : decides class outer_edges example text ≡ true
text_decides = refl
