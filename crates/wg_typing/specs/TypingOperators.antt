-- The typed form of operators: prefix operators, casts, `?:`, and chains of operators from left to right (HLSL Shader Model 6.8, operators).
use Rattle.std.specs.Prelude.{◌&&◌, if◌then◌else◌, List, [], ◌∷◌, Option, Some, None}
use Rattle.wg_words.specs.declared.place.Place.{Place}
use Rattle.wg_words.specs.Maybe.{◌>>=◌}
use Rattle.wg_typing.specs.Maybe.{where_true}
use Rattle.wg_typing.specs.Conversions.{numbers, type_of, truth_type, same_type, fits, truths, common_numbers, class_of, suits, operation_on}
use Rattle.wg_typing.specs.Layers.{typed_part, convert, fit, fixed}
use Rattle.wg_tree.specs.declared.expr.PrefixOperator.{PrefixOperator}
use Rattle.wg_tree.specs.declared.expr.PrefixOperator.TheVariants as prefix
use Rattle.wg_tree.specs.declared.expr.BinaryOperator.{BinaryOperator}
use Rattle.wg_typed.specs.declared.types.TypeTree.{TypeTree}
use Rattle.wg_typed.specs.declared.types.TypeTree.TheVariants as type
use Rattle.wg_typed.specs.declared.typed_expr.TypedKind.TheVariants as tree
use Rattle.wg_typed.specs.declared.typed_expr.TypedLink.{TypedLink, roll-TypedLink}
use Rattle.wg_typing.specs.declared.scope.Meant.{Meant}
use Rattle.wg_typing.specs.declared.scope.Meant.TheVariants as meant
use Rattle.wg_typing.specs.declared.scope.Value.{Value}
use Rattle.wg_typed.specs.Operators.{counted}
use Rattle.wg_typing.specs.declared.numbers.Numbers.{Numbers}
use Rattle.wg_typing.specs.declared.numbers.Operation.{Operation}
use Rattle.wg_typing.specs.declared.part.LinkLayer.{LinkLayer}
use Rattle.wg_typing.specs.declared.part.Part.{Part}

abbrev pub prefix_type : PrefixOperator → Numbers → Numbers
prefix_type prefix.Minus n = record { of = counted n.of; size = n.size }
prefix_type prefix.Plus n = record { of = counted n.of; size = n.size }
prefix_type prefix.Not n = truths n.size
prefix_type prefix.Complement n = record { of = counted n.of; size = n.size }

abbrev pub prefix_value : Place → PrefixOperator → Part → Option Value
prefix_value place operator p = do
  t ← typed_part p
  n ← numbers t.of
  operand ← convert (type_of (prefix_type operator n)) t
  fixed place (type_of (prefix_type operator n)) (tree.Prefix operator operand)

-- a cast always stands in the typed form
abbrev pub cast_value : Place → TypeTree → Part → Option Value
cast_value place goal p = do
  t ← typed_part p
  where_true (fits t.of goal) t.tree >>= (λ operand. fixed place goal (tree.Convert operand))

abbrev pub zeros_value : Place → Option Meant → Option Value
zeros_value place (Some (meant.Struct number)) = fixed place (type.Struct number) tree.Zeros
zeros_value place (Some (meant.Constant of words known)) = None
zeros_value place (Some (meant.Shared variable of)) = None
zeros_value place (Some (meant.Variable variable of constant)) = None
zeros_value place (Some (meant.Object object)) = None
zeros_value place (Some (meant.Function number is_entry result parameters chain)) = None
zeros_value place (Some meant.Itself) = None
zeros_value place (Some meant.Broken) = None
zeros_value place None = None

abbrev pub choice_value : Place → Part → Part → Part → Option Value
choice_value place test first second = do
  condition ← fit truth_type test
  a ← typed_part first
  b ← typed_part second
  m ← numbers a.of
  n ← numbers b.of
  c ← common_numbers m n
  then_tree ← convert (type_of c) a
  else_tree ← convert (type_of c) b
  fixed place (type_of c) (tree.Choice condition then_tree else_tree)

-- the operation on what stands so far, where both operands suit and fit together
abbrev pub suited : BinaryOperator → TypeTree → TypeTree → Option Operation
suited operator a b =
    where_true (suits (class_of operator) a && suits (class_of operator) b) operator >>= (λ operator. operation_on operator a b)

-- the type to which what stands before is converted, if that is another one
abbrev pub if_other : TypeTree → TypeTree → Option TypeTree
if_other from goal = if same_type from goal then None else Some goal

abbrev pub run_on : TypeTree → LinkLayer Part → Option TypedLink
run_on before l = do
  t ← typed_part l.operand
  o ← suited l.operator before t.of
  operand ← convert (type_of o.right) t
  Some (roll-TypedLink (record { operator = l.operator; before = if_other before (type_of o.left); operand = operand; of = type_of o.result }))

-- the type of what stands with one more operator
abbrev pub run_type : TypeTree → LinkLayer Part → Option TypeTree
run_type before l = do
  t ← typed_part l.operand
  o ← suited l.operator before t.of
  Some (type_of o.result)

abbrev pub type_after : Option TypeTree → LinkLayer Part → Option TypeTree
type_after before l = before >>= (λ of. run_type of l)

abbrev pub chain_type : Option TypeTree → List (LinkLayer Part) → Option TypeTree
chain_type before [] = before
chain_type before (l ∷ rest) = chain_type (type_after before l) rest

abbrev pub chain_links : Option TypeTree → List (LinkLayer Part) → Option (List TypedLink)
chain_links before [] = Some []
chain_links before (l ∷ rest) = do
  of ← before
  first ← run_on of l
  others ← chain_links (run_type of l) rest
  Some (first ∷ others)

abbrev pub typed_of : Part → Option TypeTree
typed_of p = typed_part p >>= (λ t. Some t.of)

abbrev pub chain_value : Place → Part → List (LinkLayer Part) → Option Value
chain_value place first rest = do
  t ← typed_part first
  links ← chain_links (Some t.of) rest
  of ← chain_type (Some t.of) rest
  fixed place of (tree.Chain t.tree links)
