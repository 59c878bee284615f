-- Which types convert to which, and the types in which operators reckon (HLSL Shader Model 6.8, without implicit truncation; the
-- sizes of the operands of a shift are own).
use Rattle.std.specs.Prelude.{ℕ, ◌==◌, Bool, true, false, ◌&&◌, ◌||◌, if◌then◌else◌, Option, Some, None, not}
use Rattle.wg_words.specs.Maybe.{◌>>=◌}
use Rattle.wg_typing.specs.Maybe.{where_true}
use Rattle.wg_tree.specs.declared.expr.Scalar.{Scalar}
use Rattle.wg_tree.specs.declared.expr.Scalar.TheVariants as scalar
use Rattle.wg_tree.specs.declared.expr.ValueType.{ValueType}
use Rattle.wg_tree.specs.declared.expr.ValueType.TheVariants as value_type
use Rattle.wg_tree.specs.declared.expr.BinaryOperator.{BinaryOperator}
use Rattle.wg_tree.specs.declared.expr.BinaryOperator.TheVariants as binary
use Rattle.wg_typed.specs.declared.types.ElementType.{ElementType}
use Rattle.wg_typed.specs.declared.types.ElementType.TheVariants as element
use Rattle.wg_typed.specs.declared.types.TypeTree.{TypeTree}
use Rattle.wg_typed.specs.declared.types.TypeTree.TheVariants as type
use Rattle.wg_typed.specs.Operators.{is_wide, counted, common_scalar, literal_scalar}
use Rattle.wg_typing.specs.declared.numbers.Numbers.{Numbers}
use Rattle.wg_typing.specs.declared.numbers.Operation.{Operation}

-- ---- equal types

-- a number of its own for each scalar
abbrev pub scalar_number : Scalar → ℕ
scalar_number scalar.Bool = 0
scalar_number scalar.Int = 1
scalar_number scalar.Uint = 2
scalar_number scalar.Int16 = 3
scalar_number scalar.Uint16 = 4
scalar_number scalar.Int64 = 5
scalar_number scalar.Uint64 = 6

abbrev pub same_scalar : Scalar → Scalar → Bool
same_scalar a b = scalar_number a == scalar_number b

abbrev pub same_element : ElementType → ElementType → Bool
same_element (element.Scalar a) (element.Scalar b) = same_scalar a b
same_element (element.Vector a m) (element.Vector b n) = same_scalar a b && m == n
same_element (element.Struct a) (element.Struct b) = a == b
same_element _ _ = false

-- Equal struct types are of one name.
abbrev pub same_type : TypeTree → TypeTree → Bool
same_type (type.Scalar a) (type.Scalar b) = same_scalar a b
same_type (type.Vector a m) (type.Vector b n) = same_scalar a b && m == n
same_type (type.Struct a) (type.Struct b) = a == b
same_type (type.Array a m) (type.Array b n) = same_element a b && m == n
same_type _ _ = false

-- ---- types of numbers

abbrev pub numbers : TypeTree → Option Numbers
numbers (type.Scalar of) = Some (record { of = of; size = None })
numbers (type.Vector of n) = Some (record { of = of; size = Some n })
numbers (type.Struct number) = None
numbers (type.Array of n) = None

abbrev pub sized : Scalar → Option ℕ → TypeTree
sized of None = type.Scalar of
sized of (Some n) = type.Vector of n

abbrev pub type_of : Numbers → TypeTree
type_of n = sized n.of n.size

abbrev pub of_value_type : ValueType → TypeTree
of_value_type (value_type.Scalar of) = type.Scalar of
of_value_type (value_type.Vector of n) = type.Vector of n

-- the size of a vector
abbrev pub size_of : ValueType → Option ℕ
size_of (value_type.Scalar of) = None
size_of (value_type.Vector of n) = Some n

abbrev pub truth_type : TypeTree
truth_type = type.Scalar scalar.Bool

abbrev pub uint_type : TypeTree
uint_type = type.Scalar scalar.Uint

-- as many `uint` as that: a scalar for one
abbrev pub uints : ℕ → TypeTree
uints n = if n == 1 then uint_type else type.Vector scalar.Uint n

abbrev pub is_number : TypeTree → Bool
is_number (type.Scalar of) = true
is_number (type.Vector of n) = true
is_number (type.Struct number) = false
is_number (type.Array of n) = false

abbrev pub is_scalar : TypeTree → Bool
is_scalar (type.Scalar of) = true
is_scalar _ = false

-- `int` or `uint`
abbrev pub is_word : TypeTree → Bool
is_word t = same_type t (type.Scalar scalar.Int) || same_type t uint_type

abbrev pub is_uint : Scalar → Bool
is_uint s = same_scalar s scalar.Uint

abbrev pub number_type : ℕ → Bool → Bool → TypeTree
number_type value unsigned long = type.Scalar (literal_scalar value unsigned long)

-- ---- conversions

-- a scalar fills a vector, but no wide one does; two vectors have equal sizes
abbrev pub sizes_fit : Scalar → Option ℕ → Option ℕ → Bool
sizes_fit of None None = true
sizes_fit of None (Some n) = not (is_wide of)
sizes_fit of (Some m) (Some n) = m == n
sizes_fit of (Some m) None = false

abbrev pub size_fits : Numbers → Option ℕ → Bool
size_fits n size = sizes_fit n.of n.size size

abbrev pub numbers_fit : Option Numbers → Option Numbers → Bool
numbers_fit (Some a) (Some b) = size_fits a b.size
numbers_fit _ _ = false

-- whether a value of the one type may stand where the other is wanted: the scalars convert to each other
abbrev pub fits : TypeTree → TypeTree → Bool
fits from goal = same_type from goal || numbers_fit (numbers from) (numbers goal)

-- ---- common types

-- a scalar with a vector is taken for each component
abbrev pub common_size : Option ℕ → Option ℕ → Option (Option ℕ)
common_size None b = Some b
common_size (Some m) None = Some (Some m)
common_size (Some m) (Some n) = where_true (m == n) (Some m)

-- the common size, where both may be of it: a wide scalar is not taken with a vector
abbrev pub joined_size : Numbers → Numbers → Option (Option ℕ)
joined_size a b = common_size a.size b.size >>= (λ size. where_true (size_fits a size && size_fits b size) size)

abbrev pub is_truth : Scalar → Bool
is_truth s = same_scalar s scalar.Bool

-- the common scalar, where two `bool` stay `bool`
abbrev pub chosen_scalar : Scalar → Scalar → Scalar
chosen_scalar a b = if is_truth a && is_truth b then scalar.Bool else common_scalar a b

abbrev pub common : Numbers → Numbers → Option Numbers
common a b = joined_size a b >>= (λ size. Some (record { of = common_scalar a.of b.of; size = size }))

abbrev pub common_numbers : Numbers → Numbers → Option Numbers
common_numbers a b = joined_size a b >>= (λ size. Some (record { of = chosen_scalar a.of b.of; size = size }))

-- ---- operators

pub data Class : Type 0 where
  arithmetic : Class
  shift : Class
  comparison : Class
  logic : Class

abbrev pub class_of : BinaryOperator → Class
class_of binary.Multiply = arithmetic
class_of binary.Divide = arithmetic
class_of binary.Remainder = arithmetic
class_of binary.Add = arithmetic
class_of binary.Subtract = arithmetic
class_of binary.ShiftLeft = shift
class_of binary.ShiftRight = shift
class_of binary.Less = comparison
class_of binary.Greater = comparison
class_of binary.AtMost = comparison
class_of binary.AtLeast = comparison
class_of binary.Equal = comparison
class_of binary.NotEqual = comparison
class_of binary.BitAnd = arithmetic
class_of binary.BitXor = arithmetic
class_of binary.BitOr = arithmetic
class_of binary.And = logic
class_of binary.Or = logic

-- whether an operand may be of the type, whatever the other one
abbrev pub suits : Class → TypeTree → Bool
suits arithmetic t = is_number t
suits shift t = is_number t
suits comparison t = is_number t
suits logic t = is_scalar t

abbrev pub truths : Option ℕ → Numbers
truths size = record { of = scalar.Bool; size = size }

-- A shift has the left type, of the common size, and its count keeps its own scalar.
abbrev pub operation : Class → Numbers → Numbers → Option Operation
operation arithmetic a b = common a b >>= (λ c. Some (record { left = c; right = c; result = c }))
operation shift a b = joined_size a b >>= (λ size. Some (record {
  left = record { of = counted a.of; size = size };
  right = record { of = counted b.of; size = size };
  result = record { of = counted a.of; size = size };
}))
operation comparison a b = common a b >>= (λ c. Some (record { left = c; right = c; result = truths c.size }))
operation logic a b = Some (record { left = truths None; right = truths None; result = truths None })

abbrev pub operation_on : BinaryOperator → TypeTree → TypeTree → Option Operation
operation_on operator a b = do
  left ← numbers a
  right ← numbers b
  operation (class_of operator) left right

-- ---- elements

abbrev pub element_of : TypeTree → Option ElementType
element_of (type.Scalar of) = Some (element.Scalar of)
element_of (type.Vector of n) = Some (element.Vector of n)
element_of (type.Struct number) = Some (element.Struct number)
element_of (type.Array of n) = None
