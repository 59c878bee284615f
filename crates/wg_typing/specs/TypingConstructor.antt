-- Constructors of scalars and vectors (HLSL Shader Model 6.8).
use Rattle.std.specs.Prelude.{ℕ, ◌+◌, ◌==◌, List, [], ◌∷◌, map, Option, Some, None, Bool, true, false, not, ◌&&◌, is_some}
use Rattle.wg_words.specs.declared.place.Place.{Place}
use Rattle.wg_words.specs.Maybe.{◌>>=◌}
use Rattle.wg_typing.specs.Maybe.{where_true}
use Rattle.wg_typing.specs.Conversions.{type_of, numbers}
use Rattle.wg_typing.specs.Layers.{all_typed_parts, fixed}
use Rattle.wg_typing.specs.TypingIntrinsic.{all_numbers, convert_all}
use Rattle.wg_typed.specs.declared.typed_expr.TypedKind.TheVariants as tree
use Rattle.wg_typing.specs.declared.scope.Value.{Value}
use Rattle.wg_typed.specs.Operators.{is_wide}
use Rattle.wg_typed.specs.declared.types.TypeTree.{TypeTree}
use Rattle.wg_typing.specs.declared.numbers.Numbers.{Numbers}
use Rattle.wg_typing.specs.declared.part.Part.{Part}
use Rattle.wg_typing.specs.declared.part.TypedPart.{TypedPart}

abbrev pub components : Option ℕ → ℕ
components None = 1
components (Some n) = n

abbrev pub component_count : List Numbers → ℕ
component_count [] = 0
component_count (n ∷ rest) = components n.size + component_count rest

-- whether a part may be of the type: a number, and no wide one in a vector
abbrev pub may_make : Option ℕ → Option Numbers → Bool
may_make None n = is_some n
may_make (Some size) None = false
may_make (Some size) (Some n) = not (is_wide n.of)

abbrev pub makes : Option ℕ → TypeTree → Bool
makes size t = may_make size (numbers t)

abbrev pub all_make : Option ℕ → List TypedPart → Bool
all_make size [] = true
all_make size (t ∷ rest) = makes size t.of && all_make size rest

-- each part keeps its size and takes the scalar that is made
abbrev pub constructed : Place → Numbers → List Part → Option Value
constructed place goal parts = do
  ts ← all_typed_parts parts
  ns ← all_numbers ts
  trees ← where_true (component_count ns == components goal.size && all_make goal.size ts) ns >>= (λ ns. convert_all (map (λ n. record { of = goal.of; size = n.size }) ns) ts)
  fixed place (type_of goal) (tree.Construct trees)
