-- Types that are declared, with their sizes and limits, and expressions that have to convert (HLSL Shader Model 6.8; the limits are own).
use Rattle.std.specs.Prelude.{ℕ, nat_le, List, Option, Some, None}
use Rattle.wg_words.specs.Maybe.{◌>>=◌}
use Rattle.wg_typing.specs.Maybe.{where_true}
use Rattle.wg_typing.specs.Conversions.{uint_type, truth_type, element_of}
use Rattle.wg_typed.specs.Layout.{words_of}
use Rattle.wg_typed.specs.Constants.{const_value}
use Rattle.wg_typing.specs.Scope.{Context, as_const, known_names}
use Rattle.wg_typing.specs.Layers.{typed_part, fit}
use Rattle.wg_typing.specs.TypingExpr.{part, sites_of_value}
use Rattle.wg_typing.specs.PartSites.{goal_if}
use Rattle.wg_typing.specs.AttributeArguments.{is_positive}
use Rattle.wg_typing.specs.Sites.{Sites, nowhere, only, ◌&◌}
use Rattle.wg_typing.specs.Site.{Site, AtConst, AtName, AtSize, AtLimit}
use Rattle.wg_tree.specs.declared.expr.Named.{Named}
use Rattle.wg_tree.specs.declared.expr.Expr.{Expr}
use Rattle.wg_typed.specs.declared.types.ConstValue.{ConstValue}
use Rattle.wg_typed.specs.declared.types.TypeTree.{TypeTree}
use Rattle.wg_typed.specs.declared.types.TypeTree.TheVariants as type
use Rattle.wg_typed.specs.declared.typed_expr.TypedExpr.{TypedExpr}

-- the most words of a type, and of a record
abbrev pub type_limit : ℕ
type_limit = 8192

abbrev pub record_limit : ℕ
record_limit = 2048

-- the value of a `const` in which no rule is broken
abbrev pub size_value : Context → Expr → Option ConstValue
size_value c e = typed_part (part (as_const c) e) >>= (λ t. const_value (known_names c.names) e)

-- an array of a type, where its size is at least 1
abbrev pub array_of : TypeTree → ConstValue → Option TypeTree
array_of of v = element_of of >>= (λ of. where_true (is_positive v) (type.Array of v.value))

-- what the words of a type name, with or without a size
abbrev pub type_of_size : Context → Option TypeTree → Option Expr → Option TypeTree
type_of_size c of None = of
type_of_size c of (Some size) = do
  element ← of
  v ← size_value c size
  array_of element v

-- one above the limit is broken
abbrev pub declared_type : Context → Option TypeTree → Option Expr → Option TypeTree
declared_type c of size = type_of_size c of size >>= (λ t. where_true (nat_le (words_of c.structs t) type_limit) t)

abbrev pub limit_site : Context → Named → Option TypeTree → Sites Site
limit_site c name None = nowhere
limit_site c name (Some t) = only (AtLimit name (words_of c.structs t) type_limit)

abbrev pub wanted_sites : Context → Option TypeTree → Expr → Sites Site
wanted_sites c goal e = sites_of_value c e & goal_if goal (part c e)

abbrev pub fit_in : Context → TypeTree → Expr → Option TypedExpr
fit_in c goal e = fit goal (part c e)

-- a condition is a scalar and becomes `bool`
abbrev pub condition_sites : Context → Expr → Sites Site
condition_sites c e = wanted_sites c (Some truth_type) e

-- a `const` of a type, in the context around it
abbrev pub const_sites : Context → Option TypeTree → Expr → Sites Site
const_sites c goal e = wanted_sites (as_const c) goal e & only (AtConst (const_value (known_names c.names) e) (part (as_const c) e))

-- the size of an array is a number
abbrev pub size_sites : Context → Named → Option Expr → Sites Site
size_sites c name None = nowhere
size_sites c name (Some size) = const_sites c (Some uint_type) size & only (AtSize name (part (as_const c) size).place (size_value c size))

-- a name that is declared with a type and perhaps a size: the size, its bounds, and the name in its scope
abbrev pub declared_sites : Context → List (List ℕ) → Option TypeTree → Named → Option Expr → Sites Site
declared_sites c scope of name size =
    size_sites c name size & limit_site c name (type_of_size c of size) & only (AtName scope name)
