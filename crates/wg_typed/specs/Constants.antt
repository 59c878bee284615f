-- The value of a `const`: arithmetic on whole numbers of 16, 32 and 64 bits, by the operators of HLSL Shader Model 6.8. A truth is the `int` 1 or 0.
use Rattle.std.specs.Prelude.{ℕ, ◌%◌, ◌^◌, Bool, if◌then◌else◌, List, [], ◌∷◌, map, Option, Some, None}
use Rattle.std.specs.Global.{Vec}
use Rattle.std.specs.Str.{bytes_eq}
use Rattle.wg_typed.specs.declared.types.ConstValue.{ConstValue}
use Rattle.wg_typed.specs.Operators.{width_of, is_signed, integer, counted, wider, literal_scalar, words_for, converted_number, combined, prefixed, gives_truth, is_shift}
use Rattle.wg_words.specs.Truth.{is_true}
use Rattle.wg_tree.specs.declared.expr.Scalar.{Scalar}
use Rattle.wg_tree.specs.declared.expr.Scalar.TheVariants as scalar
use Rattle.wg_tree.specs.declared.expr.PrefixOperator.{PrefixOperator}
use Rattle.wg_tree.specs.declared.expr.PrefixOperator.TheVariants as prefix
use Rattle.wg_tree.specs.declared.expr.BinaryOperator.{BinaryOperator}
use Rattle.wg_tree.specs.declared.expr.Expr.{Expr}
use Rattle.wg_tree.specs.declared.expr.Link.{Link}
use Rattle.wg_tree.specs.declared.expr.Expr.TheFolds.{fold-Expr}
use Rattle.wg_tree.specs.declared.expr.Expr.TheOpen.{Expr-F, Form-F, Link-F}

-- ---- numbers with their types

-- the scalar of a constant
abbrev pub const_scalar : ConstValue → Scalar
const_scalar c = integer c.bits c.signed

-- a constant's number in its scalar; a value that has more bits counts by its low ones
abbrev pub const_number : ConstValue → ℕ
const_number c = c.value % 2 ^ width_of (const_scalar c)

-- a number of a scalar as a constant; a `bool` counts as `int`
abbrev pub constant_of : Scalar → ℕ → ConstValue
constant_of s n = record { value = n; signed = is_signed (counted s); bits = width_of (counted s) }

-- a constant's number as one of a scalar
abbrev pub number_as : Scalar → ConstValue → ℕ
number_as s c = converted_number (const_scalar c) s (const_number c)

-- a constant that is declared with the scalar: its value is converted
abbrev pub const_as : Scalar → ConstValue → ConstValue
const_as s c = constant_of s (number_as s c)

-- the words of a constant that is declared with the scalar
abbrev pub const_words : Scalar → ConstValue → List ℕ
const_words s c = words_for s (number_as s c ∷ [])

-- a number as it is written, with its suffixes `u` and `l`
abbrev pub literal : ℕ → Bool → Bool → ConstValue
literal value unsigned long = constant_of (literal_scalar value unsigned long) value

-- ---- operators

-- the scalar in which the operator takes both: a shift does by its left one, every other by what is common to them
abbrev pub reckoned_in : BinaryOperator → ConstValue → ConstValue → Scalar
reckoned_in operator a b = if is_shift operator then const_scalar a else wider (const_scalar a) (const_scalar b)

-- what the operator gives on two numbers of the scalar
abbrev pub combined_value : BinaryOperator → Scalar → ℕ → ℕ → ConstValue
combined_value operator s a b = constant_of (if gives_truth operator then scalar.Int else s) (combined operator s a b)

-- the operator on both as numbers of the scalar; what is converted of a shift's count is more than a shift looks at
abbrev pub applied_in : BinaryOperator → Scalar → ConstValue → ConstValue → ConstValue
applied_in operator s a b = combined_value operator s (number_as s a) (number_as s b)

abbrev pub applied : BinaryOperator → ConstValue → ConstValue → ConstValue
applied operator a b = applied_in operator (reckoned_in operator a b) a b

-- `!` gives a truth, every other prefix a number of the operand's scalar
abbrev pub prefix_scalar : PrefixOperator → Scalar → Scalar
prefix_scalar prefix.Minus s = s
prefix_scalar prefix.Plus s = s
prefix_scalar prefix.Not s = scalar.Int
prefix_scalar prefix.Complement s = s

abbrev pub prefixed_constant : PrefixOperator → ConstValue → ConstValue
prefixed_constant operator a = constant_of (prefix_scalar operator (const_scalar a)) (prefixed operator (const_scalar a) (const_number a))

-- the two results of a choice have a common type
abbrev pub chosen : ConstValue → ConstValue → ConstValue → ConstValue
chosen test a b = const_as (wider (const_scalar a) (const_scalar b)) (if is_true (const_number test) then a else b)

-- ---- expressions, where names have these values

abbrev pub Known : Type 0
Known = List ℕ → Option ConstValue

-- an operator of a chain and its right operand's value
abbrev pub Right : Type 0
Right = BinaryOperator × Option ConstValue

abbrev pub prefixed_value : PrefixOperator → Option ConstValue → Option ConstValue
prefixed_value operator None = None
prefixed_value operator (Some a) = Some (prefixed_constant operator a)

abbrev pub applied_value : BinaryOperator → Option ConstValue → Option ConstValue → Option ConstValue
applied_value operator (Some a) (Some b) = Some (applied operator a b)
applied_value operator _ _ = None

-- operators of one level, from left to right
abbrev pub chain_value : Option ConstValue → List Right → Option ConstValue
chain_value before [] = before
chain_value before (r ∷ rest) = chain_value (applied_value r.0 before r.1) rest

abbrev pub chosen_value : Option ConstValue → Option ConstValue → Option ConstValue → Option ConstValue
chosen_value (Some test) (Some a) (Some b) = Some (chosen test a b)
chosen_value _ _ _ = None

-- A `const` is made of numbers, names, brackets, prefix and two-sided operators and `?:`; no other expression has a value.
abbrev pub expr_value : Known → Expr-F (Option ConstValue) (Unit {0}) Right → Option ConstValue
expr_value known (Expr-F.Number place value unsigned long) = Some (literal value unsigned long)
expr_value known (Expr-F.Text place bytes) = None
expr_value known (Expr-F.Truth place b) = None
expr_value known (Expr-F.Name name) = known name.name
expr_value known (Expr-F.Call name arguments) = None
expr_value known (Expr-F.Construct place of arguments) = None
expr_value known (Expr-F.Bracket place inner) = inner
expr_value known (Expr-F.Prefix place operator operand) = prefixed_value operator operand
expr_value known (Expr-F.Cast place to operand) = None
expr_value known (Expr-F.Zeros place of) = None
expr_value known (Expr-F.Postfix first forms) = None
expr_value known (Expr-F.Chain first rest) = chain_value first rest
expr_value known (Expr-F.Choice test a b) = chosen_value test a b

abbrev pub form_value : Form-F (Option ConstValue) (Unit {0}) Right → Unit {0}
form_value f = tt

abbrev pub link_value : Link-F (Option ConstValue) (Unit {0}) Right → Right
link_value l = (l.operator, l.operand)

-- the value of a `const`; none where it is no `const`, or where a name has no value
abbrev pub const_value : Known → Expr → Option ConstValue
const_value known = fold-Expr (Option ConstValue) (Unit {0}) Right (expr_value known) form_value link_value

-- the operators of a chain with the values of their right operands
abbrev pub rights_of : Known → List Link → List Right
rights_of known rest = map (λ (l : Link). (l.operator, const_value known l.operand)) rest

-- ---- names with their values

-- the value of the first of the name
abbrev pub known_in : List (List ℕ × ConstValue) → Known
known_in [] name = None
known_in (c ∷ rest) name = if bytes_eq name c.0 then Some c.1 else known_in rest name

-- one more value, of a name that had none or another
abbrev pub with_value : Known → List ℕ → ConstValue → Known
with_value known name value other = if bytes_eq name other then Some value else known other

-- a map's entries, with the names as bytes
abbrev pub named_values : List (Vec ℕ × ConstValue) → List (List ℕ × ConstValue)
named_values [] = []
named_values (c ∷ rest) = (c.0.items, c.1) ∷ named_values rest
