-- Attributes with their evaluated arguments (DirectX-Specs, Work Graphs, shader function attributes).
use Rattle.std.specs.Prelude.{ℕ, suc, if◌then◌else◌, List, [], ◌∷◌, map, Option, Some, None}
use Rattle.std.specs.Str.{bytes_eq}
use Rattle.wg_typing.specs.Named.{is_called}
use Rattle.wg_typed.specs.Constants.{const_value}
use Rattle.wg_typing.specs.Scope.{Context, as_attribute, known_names}
use Rattle.wg_typing.specs.Sites.{Sites, nowhere, ◌&◌}
use Rattle.wg_typing.specs.Site.{Site}
use Rattle.wg_typing.specs.TypingExpr.{Alone, a_text, a_name, neither, expr_form, part, sites_of}
use Rattle.wg_tree.specs.declared.expr.Expr.{Expr}
use Rattle.wg_tree.specs.declared.stmt.Attribute.{Attribute}
use Rattle.wg_typed.specs.declared.types.ConstValue.{ConstValue}
use Rattle.wg_typed.specs.declared.typed_stmt.ArgumentValue.{ArgumentValue}
use Rattle.wg_typed.specs.declared.typed_stmt.ArgumentValue.TheVariants as argument
use Rattle.wg_typed.specs.declared.typed_stmt.TypedArgument.{TypedArgument}
use Rattle.wg_typed.specs.declared.typed_stmt.TypedAttribute.{TypedAttribute}

-- ---- arguments

-- the parameters that may be named in an attribute's arguments
abbrev pub allowed_in : Context → Attribute → List (List ℕ)
allowed_in c a = if is_called "MaxRecordsSharedWith" a.name.name then c.parameters else []

-- the number of a name among these, counted from one on
abbrev pub number_among : ℕ → List (List ℕ) → List ℕ → Option ℕ
number_among at [] name = None
number_among at (x ∷ rest) name = if bytes_eq x name then Some at else number_among (suc at) rest name

abbrev pub number_if : Option ConstValue → ArgumentValue
number_if (Some v) = argument.Number v
number_if None = argument.Other

abbrev pub parameter_if : Option ℕ → ArgumentValue → ArgumentValue
parameter_if (Some p) v = argument.Parameter p
parameter_if None v = v

-- where the parameters may be named: a string, a parameter's name by itself, or the value of a `const`
abbrev pub alone_value : List (List ℕ) → Alone → Option ConstValue → ArgumentValue
alone_value allowed (a_text bytes) v = argument.Text bytes
alone_value allowed (a_name name) v = parameter_if (number_among 0 allowed name.name) (number_if v)
alone_value allowed neither v = number_if v

abbrev pub argument_of : Context → List (List ℕ) → Expr → TypedArgument
argument_of c allowed e = record {
  place = (part (as_attribute allowed c) e).place;
  value = alone_value allowed (expr_form (as_attribute allowed c) e).alone (const_value (known_names c.names) e);
}

-- an attribute with its evaluated arguments
abbrev pub attribute_of : Context → Attribute → TypedAttribute
attribute_of c a = record { place = a.place; name = a.name; arguments = map (argument_of c (allowed_in c a)) a.arguments }

abbrev pub attributes_of : Context → List Attribute → List TypedAttribute
attributes_of c attributes = map (attribute_of c) attributes

abbrev pub arguments_sites : Context → List Expr → Sites Site
arguments_sites c [] = nowhere
arguments_sites c (e ∷ rest) = sites_of c e & arguments_sites c rest

abbrev pub attribute_sites : Context → List Attribute → Sites Site
attribute_sites c [] = nowhere
attribute_sites c (a ∷ rest) = arguments_sites (as_attribute (allowed_in c a) c) a.arguments & attribute_sites c rest
