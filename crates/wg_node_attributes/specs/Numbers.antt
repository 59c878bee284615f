-- The number that an attribute with one argument says (DirectX-Specs, Work Graphs, shader function attributes).
use Rattle.std.specs.Prelude.{ℕ, ◌&&◌, nat_le, List, [], ◌∷◌, Option, None, unwrap_or}
use Rattle.wg_words.specs.Maybe.{◌>>=◌}
use Rattle.wg_typing.specs.Maybe.{where_true}
use Rattle.wg_typing.specs.AttributeArguments.{first_named, is_narrow}
use Rattle.wg_typed.specs.declared.types.ConstValue.{ConstValue}
use Rattle.wg_typed.specs.declared.typed_stmt.ArgumentValue.{ArgumentValue}
use Rattle.wg_typed.specs.declared.typed_stmt.ArgumentValue.TheVariants as argument
use Rattle.wg_typed.specs.declared.typed_stmt.TypedArgument.{TypedArgument}
use Rattle.wg_typed.specs.declared.typed_stmt.TypedAttribute.{TypedAttribute}

-- an `int` or a `uint` from `low` to `high`
abbrev pub between : ℕ → ℕ → ConstValue → Option ℕ
between low high v = where_true (is_narrow v && nat_le low v.value && nat_le v.value high) v.value

abbrev pub number_in : ℕ → ℕ → ArgumentValue → Option ℕ
number_in low high (argument.Number v) = between low high v
number_in low high (argument.Text bytes) = None
number_in low high (argument.Parameter number) = None
number_in low high argument.Other = None

abbrev pub one_number : ℕ → ℕ → List TypedArgument → Option ℕ
one_number low high (a ∷ []) = number_in low high a.value
one_number low high _ = None

-- the number of the first attribute of a name
abbrev pub number_said : ℕ → ℕ → List ℕ → List TypedAttribute → Option ℕ
number_said low high name attributes = first_named name attributes >>= (λ a. one_number low high a.arguments)

-- the same, and 1 where there is none
abbrev pub count_said : ℕ → List ℕ → List TypedAttribute → ℕ
count_said high name attributes = unwrap_or (number_said 1 high name attributes) 1
