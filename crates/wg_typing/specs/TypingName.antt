-- The typed form of numbers and names (HLSL Shader Model 6.8, literals and names).
use Rattle.std.specs.Prelude.{ℕ, Bool, if◌then◌else◌, [], ◌∷◌, Option, Some, None}
use Rattle.wg_words.specs.declared.place.Place.{Place}
use Rattle.wg_typing.specs.Named.{is_among}
use Rattle.wg_typing.specs.Conversions.{truth_type, number_type}
use Rattle.wg_typing.specs.Layers.{valued, fixed}
use Rattle.wg_tree.specs.declared.expr.Named.{Named}
use Rattle.wg_typed.specs.declared.typed_expr.TypedKind.TheVariants as tree
use Rattle.wg_typing.specs.declared.scope.Meant.{Meant}
use Rattle.wg_typing.specs.declared.scope.Meant.TheVariants as meant
use Rattle.wg_typing.specs.declared.scope.Standing.TheVariants as standing
use Rattle.wg_typing.specs.declared.scope.Value.{Value}
use Rattle.wg_typing.specs.declared.scope.Value.TheVariants as value
use Rattle.wg_typed.specs.Operators.{words_for, literal_scalar}
use Rattle.wg_typing.specs.declared.context.Around.{Around}
use Rattle.wg_typing.specs.declared.context.Around.TheVariants as surrounding

abbrev pub number_value : Place → ℕ → Bool → Bool → Option Value
number_value place n unsigned long = fixed place (number_type n unsigned long) (tree.Literal (words_for (literal_scalar n unsigned long) (n ∷ [])))

abbrev pub truth_value : Place → Bool → Option Value
truth_value place b = fixed place truth_type (tree.Literal ((if b then 1 else 0) ∷ []))

-- a name in a function
abbrev pub name_value : Place → Option Meant → Option Value
name_value place (Some (meant.Struct number)) = None
name_value place (Some (meant.Constant of words known)) = fixed place of (tree.Literal words)
name_value place (Some (meant.Shared variable of)) = valued standing.Memory place of (tree.Shared variable)
name_value place (Some (meant.Variable variable of constant)) = valued (if constant then standing.Fixed else standing.Own) place of (tree.Variable variable)
name_value place (Some (meant.Object object)) = Some (value.Object object None)
name_value place (Some (meant.Function number entry result parameters chain)) = None
name_value place (Some meant.Itself) = None
name_value place (Some meant.Broken) = None
name_value place None = None

-- a name in a `const`: a static constant of a scalar type
abbrev pub const_name : Place → Option Meant → Option Value
const_name place (Some (meant.Constant of words (Some known))) = fixed place of (tree.Literal words)
const_name place (Some (meant.Constant of words None)) = None
const_name place (Some (meant.Struct number)) = None
const_name place (Some (meant.Shared variable of)) = None
const_name place (Some (meant.Variable variable of constant)) = None
const_name place (Some (meant.Object object)) = None
const_name place (Some (meant.Function number is_entry result parameters chain)) = None
const_name place (Some meant.Itself) = None
const_name place (Some meant.Broken) = None
const_name place None = None

abbrev pub named_value : Around → Named → Option Meant → Option Value
named_value (surrounding.Entry lanes) name m = name_value name.place m
named_value surrounding.Plain name m = name_value name.place m
named_value surrounding.Const name m = const_name name.place m
named_value (surrounding.Attribute allowed) name m = if is_among allowed name.name then None else const_name name.place m
