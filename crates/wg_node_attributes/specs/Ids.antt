-- The name and the index of a node, or of that to which an output sends, by `NodeID` (DirectX-Specs, Work Graphs, "NodeID").
use Rattle.std.specs.Prelude.{ℕ, Bool, if◌then◌else◌, List, [], ◌∷◌, Option, None, unwrap_or}
use Rattle.wg_words.specs.Characters.{is_identifier}
use Rattle.wg_words.specs.Maybe.{◌>>=◌}
use Rattle.wg_typing.specs.Maybe.{where_true}
use Rattle.wg_typing.specs.AttributeArguments.{first_called}
use Rattle.wg_typed.specs.declared.typed_stmt.ArgumentValue.{ArgumentValue}
use Rattle.wg_typed.specs.declared.typed_stmt.ArgumentValue.TheVariants as argument
use Rattle.wg_typed.specs.declared.typed_stmt.TypedArgument.{TypedArgument}
use Rattle.wg_typed.specs.declared.typed_stmt.TypedAttribute.{TypedAttribute}
use Rattle.wg_node_attributes.specs.Numbers.{number_in}

-- a string that is a name
abbrev pub name_in : ArgumentValue → Option (List ℕ)
name_in (argument.Number v) = None
name_in (argument.Text bytes) = where_true (is_identifier bytes) bytes
name_in (argument.Parameter number) = None
name_in argument.Other = None

abbrev pub first_name : List TypedArgument → Option (List ℕ)
first_name (name ∷ []) = name_in name.value
first_name (name ∷ index ∷ []) = name_in name.value
first_name _ = None

abbrev pub second_number : List TypedArgument → Option ℕ
second_number (name ∷ index ∷ []) = number_in 0 255 index.value
second_number _ = None

abbrev pub name_said : List TypedAttribute → Option (List ℕ)
name_said attributes = first_called "NodeID" attributes >>= (λ a. first_name a.arguments)

-- the own name of the function or the parameter where no other is said
abbrev pub id_name : List ℕ → List TypedAttribute → List ℕ
id_name own attributes = unwrap_or (name_said attributes) own

abbrev pub index_said : List TypedAttribute → Option ℕ
index_said attributes = first_called "NodeID" attributes >>= (λ a. second_number a.arguments)

-- 0 where none is said
abbrev pub id_index : List TypedAttribute → ℕ
id_index attributes = unwrap_or (index_said attributes) 0

-- the elements of an array have the indices from 0 on
abbrev pub output_index : Bool → List TypedAttribute → ℕ
output_index array attributes = if array then 0 else id_index attributes
