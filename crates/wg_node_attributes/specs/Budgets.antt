-- The budgets of a node: an output with `MaxRecords` owns one, and one with `MaxRecordsSharedWith` counts against that of the named output
-- (DirectX-Specs, Work Graphs, "MaxRecords", "MaxRecordsSharedWith"). Their order is own.
use Rattle.std.specs.Prelude.{ℕ, ◌==◌, Bool, if◌then◌else◌, List, [], ◌∷◌, codes, filter, Option, Some, None, unwrap_or, suc}
use Rattle.wg_words.specs.Maybe.{◌>>=◌}
use Rattle.wg_typing.specs.AttributeArguments.{first_called, has}
use Rattle.wg_typed.specs.declared.typed.TypedParameter.{TypedParameter}
use Rattle.wg_typed.specs.declared.typed_stmt.ArgumentValue.{ArgumentValue}
use Rattle.wg_typed.specs.declared.typed_stmt.ArgumentValue.TheVariants as argument
use Rattle.wg_typed.specs.declared.typed_stmt.TypedArgument.{TypedArgument}
use Rattle.wg_typed.specs.declared.typed_stmt.TypedAttribute.{TypedAttribute}
use Rattle.wg_node_attributes.specs.Numbers.{count_said}
use Rattle.wg_node_attributes.specs.Parameters.{attributes_at}

abbrev pub owns : List TypedParameter → ℕ → Bool
owns parameters number = has "MaxRecords" (attributes_at parameters number)

-- those of the outputs that own a budget, in their order; each budget has its owner's place here as its number
abbrev pub owners : List TypedParameter → List ℕ → List ℕ
owners parameters outputs = filter (owns parameters) outputs

abbrev pub parameter_in : ArgumentValue → Option ℕ
parameter_in (argument.Number v) = None
parameter_in (argument.Text bytes) = None
parameter_in (argument.Parameter number) = Some number
parameter_in argument.Other = None

abbrev pub one_parameter : List TypedArgument → Option ℕ
one_parameter (a ∷ []) = parameter_in a.value
one_parameter _ = None

abbrev pub partner : List TypedAttribute → Option ℕ
partner attributes = first_called "MaxRecordsSharedWith" attributes >>= (λ a. one_parameter a.arguments)

-- the output whose budget an output's records count against
abbrev pub owner_of : List TypedParameter → ℕ → ℕ
owner_of parameters number =
    if owns parameters number then number else unwrap_or (partner (attributes_at parameters number)) number

-- the place of a number in a list
abbrev pub place_in : List ℕ → ℕ → ℕ
place_in [] n = 0
place_in (m ∷ rest) n = if m == n then 0 else suc (place_in rest n)

-- an owner's `MaxRecords`
abbrev pub most_at : List TypedParameter → ℕ → ℕ
most_at parameters owner = count_said 256 (codes "MaxRecords") (attributes_at parameters owner)
