-- What the attributes of a function and their arguments tell (DirectX-Specs, Work Graphs, shader function attributes; that names of attributes
-- are compared without regard to case is own).
use Rattle.std.specs.Prelude.{ℕ, ◌*◌, Bool, false, not, ◌&&◌, ◌||◌, nat_lt, nat_le, if◌then◌else◌, is_some, List, [], ◌∷◌, codes, Option, Some, None, true, ◌==◌}
use Prim.Native.String.{String}
use Rattle.std.specs.Str.{bytes_eq}
use Rattle.wg_words.specs.Maybe.{◌>>=◌}
use Rattle.wg_typing.specs.Maybe.{where_true}
use Rattle.wg_typing.specs.Named.{at_name, is_same_name, is_called}
use Rattle.wg_typed.specs.declared.types.ConstValue.{ConstValue}
use Rattle.wg_typed.specs.declared.typed_stmt.ArgumentValue.{ArgumentValue}
use Rattle.wg_typed.specs.declared.typed_stmt.ArgumentValue.TheVariants as argument
use Rattle.wg_typed.specs.declared.typed_stmt.TypedArgument.{TypedArgument}
use Rattle.wg_typed.specs.declared.typed_stmt.TypedAttribute.{TypedAttribute}
use Rattle.wg_typing.specs.declared.attribute.Mode.{Mode}
use Rattle.wg_typing.specs.declared.attribute.Mode.TheVariants.{Broadcasting, Coalescing, Thread}

abbrev pub is_text : String → ArgumentValue → Bool
is_text word (argument.Number v) = false
is_text word (argument.Text bytes) = bytes_eq (codes word) bytes
is_text word (argument.Parameter number) = false
is_text word argument.Other = false

abbrev pub is_one_text : String → List TypedArgument → Bool
is_one_text word (a ∷ []) = is_text word a.value
is_one_text word _ = false

-- `Shader` with exactly the string "node" makes an entry function; own
abbrev pub is_entry : List TypedAttribute → Bool
is_entry [] = false
is_entry (a ∷ rest) = (is_called "Shader" a.name.name && is_one_text "node" a.arguments) || is_entry rest

-- the first attribute of a name
abbrev pub first_named : List ℕ → List TypedAttribute → Option TypedAttribute
first_named name [] = None
first_named name (a ∷ rest) = if is_same_name name a.name.name then Some a else first_named name rest

abbrev pub first_called : String → List TypedAttribute → Option TypedAttribute
first_called word attributes = first_named (codes word) attributes

-- an `int` or a `uint`
abbrev pub is_narrow : ConstValue → Bool
is_narrow v = v.bits == 32

-- such a number, of at least 1
abbrev pub is_positive : ConstValue → Bool
is_positive v = is_narrow v && nat_lt 0 v.value && not (v.signed && nat_le 2147483648 v.value)

abbrev pub count_in : ArgumentValue → Option ℕ
count_in (argument.Number v) = where_true (is_positive v) v.value
count_in (argument.Text bytes) = None
count_in (argument.Parameter number) = None
count_in argument.Other = None

abbrev pub product : List TypedArgument → Option ℕ
product (x ∷ y ∷ z ∷ []) = do
  a ← count_in x.value
  b ← count_in y.value
  c ← count_in z.value
  where_true (nat_le (a * b * c) 1024) (a * b * c)
product _ = None

abbrev pub one_if_none : Option ℕ → ℕ
one_if_none (Some n) = n
one_if_none None = 1

-- The lanes of a node for the rules on collective statements: its first `NumThreads` multiplied. A node without one, or whose one breaks
-- the rules of that attribute, counts as one lane. Own.
abbrev pub lanes_of : List TypedAttribute → ℕ
lanes_of attributes = one_if_none (first_called "NumThreads" attributes >>= (λ a. product a.arguments))

-- ---- the launch mode

abbrev pub mode_names : List (String × Mode)
mode_names = ("broadcasting", Broadcasting) ∷ ("coalescing", Coalescing) ∷ ("thread", Thread) ∷ []

abbrev pub named_by : ArgumentValue → Option Mode
named_by (argument.Number v) = None
named_by (argument.Text bytes) = at_name mode_names bytes
named_by (argument.Parameter number) = None
named_by argument.Other = None

-- the mode that one string names
abbrev pub mode_named : List TypedArgument → Option Mode
mode_named (a ∷ []) = named_by a.value
mode_named _ = None

-- The launch mode of a node, by its first `NodeLaunch`. It is open where that is missing or names no mode; own.
abbrev pub mode_of : List TypedAttribute → Option Mode
mode_of attributes = first_called "NodeLaunch" attributes >>= (λ a. mode_named a.arguments)

-- an attribute of the name is there
abbrev pub has : String → List TypedAttribute → Bool
has word attributes = is_some (first_called word attributes)

-- whether a mode that is known passes; where the mode is open no rule on it is tried
abbrev pub in_mode : (Mode → Bool) → Option Mode → Bool
in_mode test None = false
in_mode test (Some mode) = test mode

abbrev pub is_broadcasting : Mode → Bool
is_broadcasting Broadcasting = true
is_broadcasting Coalescing = false
is_broadcasting Thread = false

abbrev pub is_coalescing : Mode → Bool
is_coalescing Broadcasting = false
is_coalescing Coalescing = true
is_coalescing Thread = false

abbrev pub is_thread : Mode → Bool
is_thread Broadcasting = false
is_thread Coalescing = false
is_thread Thread = true
