-- The parts of an expression, each as what it shows. Own.
use Rattle.std.specs.Prelude.{List, map}
use Rattle.wg_tree.specs.declared.expr.Expr.{Expr}
use Rattle.wg_tree.specs.declared.expr.Link.{Link}
use Rattle.wg_typing.specs.Scope.{Context}
use Rattle.wg_typing.specs.TypingExpr.{ExprForm, expr_form}
use Rattle.wg_typing.specs.declared.part.LinkLayer.{LinkLayer}

abbrev pub all_seen : Context → List Expr → List ExprForm
all_seen c es = map (expr_form c) es

abbrev pub link_seen : Context → Link → LinkLayer ExprForm
link_seen c l = record { operator = l.operator; operand = expr_form c l.operand }

abbrev pub links_seen : Context → List Link → List (LinkLayer ExprForm)
links_seen c rest = map (link_seen c) rest
