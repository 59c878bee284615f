-- The kinds of expressions of the code are those of the grammar.
use Rattle.wg_tree.specs.GrammarExpr as grammar
use Rattle.wg_expressions.specs.declared.kind.ExprKind.{ExprKind}
use Rattle.wg_expressions.specs.declared.kind.ExprKind.TheVariants as kind

abbrev pub kind_of : ExprKind → grammar.ExprKind
kind_of kind.Full = grammar.full
kind_of kind.Constant = grammar.constant
kind_of kind.Argument = grammar.argument
