-- Operators on parts that have types: what they give, and the sites at which they are looked at. Own.
use Rattle.std.specs.Prelude.{List, [], ◌∷◌, ◌++◌, Option, Some, None}
use Rattle.wg_words.specs.declared.place.Place.{Place}
use Rattle.wg_words.specs.Maybe.{◌>>=◌}
use Rattle.wg_tree.specs.declared.expr.BinaryOperator.{BinaryOperator}
use Rattle.wg_tree.specs.declared.expr.PrefixOperator.{PrefixOperator}
use Rattle.wg_typed.specs.declared.types.TypeTree.{TypeTree}
use Rattle.wg_typed.specs.declared.typed_expr.TypedExpr.{TypedExpr}
use Rattle.wg_typed.specs.declared.typed_expr.TypedKind.TheVariants as tree
use Rattle.wg_typed.specs.declared.typed_expr.TypedLink.{TypedLink, roll-TypedLink}
use Rattle.wg_typing.specs.Maybe.{where_true}
use Rattle.wg_typing.specs.Conversions.{numbers, type_of, truth_type, fits}
use Rattle.wg_typing.specs.Layers.{convert, fixed, typed_part}
use Rattle.wg_typing.specs.RulesMismatchExpr.{choice_of}
use Rattle.wg_typing.specs.Site.{Site, AtGoal, AtResults}
use Rattle.wg_typing.specs.Sites.{Sites, nowhere, only, ◌&◌}
use Rattle.wg_typing.specs.TypingOperators.{prefix_type, suited, if_other}
use Rattle.wg_typing.specs.declared.part.LinkLayer.{LinkLayer}
use Rattle.wg_typing.specs.declared.part.Part.{Part}
use Rattle.wg_typing.specs.declared.part.TypedPart.{TypedPart}
use Rattle.wg_typing.specs.declared.scope.Value.{Value}
use Rattle.wg_operators.specs.declared.chains.Run.{Run}
use Rattle.wg_operators.specs.declared.chains.Chained.{Chained}

abbrev pub prefix_from : Place → PrefixOperator → Option TypedPart → Option Value
prefix_from place operator part = do
  t ← part
  n ← numbers t.of
  operand ← convert (type_of (prefix_type operator n)) t
  fixed place (type_of (prefix_type operator n)) (tree.Prefix operator operand)

abbrev pub cast_from : Place → TypeTree → Option TypedPart → Option Value
cast_from place goal part = do
  t ← part
  where_true (fits t.of goal) t.tree >>= (λ operand. fixed place goal (tree.Convert operand))

abbrev pub chosen : Place → Option TypedExpr → TypedPart → TypedPart → Option Value
chosen place test a b = do
  condition ← test
  c ← choice_of (numbers a.of) (numbers b.of)
  then_tree ← convert (type_of c) a
  else_tree ← convert (type_of c) b
  fixed place (type_of c) (tree.Choice condition then_tree else_tree)

abbrev pub choice_from : Place → Option TypedPart → Option TypedPart → Option TypedPart → Option Value
choice_from place test first second = do
  t ← test
  a ← first
  b ← second
  chosen place (convert truth_type t) a b

-- what is wanted of them, where all three have types
abbrev pub choice_sites : Place → Option TypedPart → Option TypedPart → Option TypedPart → Sites Site
choice_sites place (Some t) (Some a) (Some b) = only (AtGoal truth_type t) & only (AtResults place a b)
choice_sites place (Some t) (Some a) None = nowhere
choice_sites place (Some t) None b = nowhere
choice_sites place None a b = nowhere

-- ---- chains, from left to right

-- the operators of a chain so far, and the type of what they give, which is known also where one of them is not written
abbrev pub begun : Option TypedPart → Chained
begun part = record { of = part >>= (λ t. Some t.of); run = part >>= (λ t. Some (record { first = t.tree; links = []; of = t.of })) }

abbrev pub linked : Run → Option TypedLink → Option TypeTree → Option Run
linked r link of = do
  l ← link
  t ← of
  Some (record { first = r.first; links = r.links ++ l ∷ []; of = t })

-- one more operator and its operand
abbrev pub run_from : TypeTree → BinaryOperator → Option TypedPart → Option TypedLink
run_from before operator part = do
  t ← part
  o ← suited operator before t.of
  operand ← convert (type_of o.right) t
  Some (roll-TypedLink (record { operator = operator; before = if_other before (type_of o.left); operand = operand; of = type_of o.result }))

abbrev pub type_from : TypeTree → BinaryOperator → Option TypedPart → Option TypeTree
type_from before operator part = do
  t ← part
  o ← suited operator before t.of
  Some (type_of o.result)

abbrev pub run_after : Option Run → BinaryOperator → Option TypedPart → Option Run
run_after None operator part = None
run_after (Some r) operator part = linked r (run_from r.of operator part) (type_from r.of operator part)

abbrev pub chained_on : Chained → BinaryOperator → Option TypedPart → Chained
chained_on s operator part = record { of = s.of >>= (λ of. type_from of operator part); run = run_after s.run operator part }

abbrev pub chained : Chained → List (LinkLayer Part) → Chained
chained s [] = s
chained s (l ∷ rest) = chained (chained_on s l.operator (typed_part l.operand)) rest

abbrev pub ended : Place → Option Run → Option Value
ended place run = run >>= (λ r. fixed place r.of (tree.Chain r.first r.links))
