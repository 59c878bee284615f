-- The types on which operators reckon, where conversions are written.
use Rattle.std.specs.Prelude.{ℕ, ◌==◌, Bool, true, false, not, ◌&&◌, List, [], ◌∷◌, Option, Some, None}
use Rattle.wg_words.specs.Maybe.{◌>>=◌}
use Rattle.wg_typing.specs.Maybe.{where_true}
use Rattle.wg_typing.specs.Conversions.{numbers, type_of, same_scalar, same_type, fits, truths, truth_type, Class, arithmetic, shift, comparison, logic, class_of}
use Rattle.wg_facts.specs.Tests.{test}
use Rattle.wg_sound.specs.SoundForms.{Shown, Held, Form}
use Rattle.wg_tree.specs.declared.expr.Scalar.TheVariants as scalar
use Rattle.wg_tree.specs.declared.expr.PrefixOperator.{PrefixOperator}
use Rattle.wg_tree.specs.declared.expr.PrefixOperator.TheVariants as prefix
use Rattle.wg_tree.specs.declared.expr.BinaryOperator.{BinaryOperator}
use Rattle.wg_typed.specs.declared.types.TypeTree.{TypeTree}
use Rattle.wg_typed.specs.declared.typed_expr.Access.TheOpen.{TypedLink-F}
use Rattle.wg_typing.specs.declared.numbers.Numbers.{Numbers}

-- numbers that are no truths
abbrev pub is_counted : TypeTree → Bool
is_counted t = test (λ (n : Numbers). not (same_scalar n.of scalar.Bool)) (numbers t)

abbrev pub is_truths : TypeTree → Bool
is_truths t = test (λ (n : Numbers). same_scalar n.of scalar.Bool) (numbers t)

abbrev pub same_sizes : Option ℕ → Option ℕ → Bool
same_sizes None None = true
same_sizes (Some a) (Some b) = a == b
same_sizes None (Some b) = false
same_sizes (Some a) None = false

-- scalars both, or vectors of one size
abbrev pub same_shape : TypeTree → TypeTree → Bool
same_shape a b = test (λ (m : Numbers). test (λ (n : Numbers). same_sizes m.size n.size) (numbers b)) (numbers a)

-- the operands of an operator, converted, and its result
abbrev pub operates_in : Class → TypeTree → TypeTree → TypeTree → Bool
operates_in arithmetic left right result = is_counted left && (same_type right left && same_type result left)
operates_in shift left right result = is_counted left && (is_counted right && (same_shape left right && same_type result left))
operates_in comparison left right result = is_counted left && (same_type right left && (is_truths result && same_shape left result))
operates_in logic left right result = same_type left truth_type && (same_type right truth_type && same_type result truth_type)

abbrev pub operates : BinaryOperator → TypeTree → TypeTree → TypeTree → Bool
operates operator left right result = operates_in (class_of operator) left right result

-- truths of as many components
abbrev pub truths_like : TypeTree → Option TypeTree
truths_like t = numbers t >>= (λ n. Some (type_of (truths n.size)))

-- the result on a left operand of the type
abbrev pub result_in : Class → TypeTree → Option TypeTree
result_in arithmetic by = Some by
result_in shift by = Some by
result_in comparison by = truths_like by
result_in logic by = Some truth_type

abbrev pub result_of : BinaryOperator → TypeTree → Option TypeTree
result_of operator by = result_in (class_of operator) by

-- the type of the left operand: what stands before, or to which that is converted
abbrev pub before_type : Option TypeTree → TypeTree → Option TypeTree
before_type None from = Some from
before_type (Some by) from = where_true (fits from by) by

abbrev pub link_step : TypedLink-F Form (TypeTree → Held) Shown (TypeTree → Option TypeTree) → TypeTree → Option TypeTree
link_step l from = before_type l.before from >>= (λ left. where_true (l.operand.sound && operates l.operator left l.operand.of l.of) l.of)

-- the type at the end of a chain of operators
abbrev pub chain_end : List (TypeTree → Option TypeTree) → TypeTree → Option TypeTree
chain_end [] from = Some from
chain_end (l ∷ rest) from = l from >>= chain_end rest

abbrev pub is_end : TypeTree → Option TypeTree → Bool
is_end t o = test (λ x. same_type x t) o

abbrev pub prefix_fits : PrefixOperator → TypeTree → Bool
prefix_fits prefix.Minus t = is_counted t
prefix_fits prefix.Plus t = is_counted t
prefix_fits prefix.Not t = is_truths t
prefix_fits prefix.Complement t = is_counted t
