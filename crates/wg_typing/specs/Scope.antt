-- Names in scope, and the context in which a statement or an expression stands (HLSL Shader Model 6.8, scopes; which constructs
-- open a scope is own).
use Rattle.std.specs.Prelude.{ℕ, true, if◌then◌else◌, List, [], ◌∷◌, ◌++◌, length, map, drop, Option, Some, None}
use Rattle.std.specs.Option.{option_or}
use Rattle.std.specs.Str.{bytes_eq}
use Rattle.wg_typing.specs.Maybe.{where_true}
use Rattle.wg_typing.specs.Conversions.{of_value_type}
use Rattle.wg_typed.specs.Constants.{Known}
use Rattle.wg_tree.specs.declared.expr.Named.{Named}
use Rattle.wg_tree.specs.declared.expr.TypeName.{TypeName}
use Rattle.wg_tree.specs.declared.expr.TypeName.TheVariants as type_name
use Rattle.wg_typed.specs.declared.types.ConstValue.{ConstValue}
use Rattle.wg_typed.specs.declared.types.TypeTree.{TypeTree}
use Rattle.wg_typed.specs.declared.types.TypeTree.TheVariants as type
use Rattle.wg_typing.specs.declared.scope.Declared.{Declared}
use Rattle.wg_typing.specs.declared.scope.Meant.{Meant}
use Rattle.wg_typing.specs.declared.scope.Meant.TheVariants as meant
use Rattle.wg_typing.specs.Named.{is_among}
use Rattle.wg_typing.specs.declared.context.ContextOf.{ContextOf}
use Rattle.wg_typing.specs.declared.context.Around.TheVariants as surrounding

-- ---- names

-- what a name stands for: of several the last one counts
abbrev pub look : List ℕ → List Declared → Option Meant
look name [] = None
look name (d ∷ rest) = option_or (look name rest) (where_true (bytes_eq d.name.name name) d.meant)

abbrev pub constant_if : Option Meant → Option ConstValue
constant_if (Some (meant.Constant of words value)) = value
constant_if (Some (meant.Struct number)) = None
constant_if (Some (meant.Shared variable of)) = None
constant_if (Some (meant.Variable variable of constant)) = None
constant_if (Some (meant.Object object)) = None
constant_if (Some (meant.Function number is_entry result parameters chain)) = None
constant_if (Some meant.Itself) = None
constant_if (Some meant.Broken) = None
constant_if None = None

-- the values of the names that may stand in a `const`
abbrev pub known_names : List Declared → Known
known_names names name = constant_if (look name names)

abbrev pub struct_if : Option Meant → Option TypeTree
struct_if (Some (meant.Struct number)) = Some (type.Struct number)
struct_if (Some (meant.Constant of words known)) = None
struct_if (Some (meant.Shared variable of)) = None
struct_if (Some (meant.Variable variable of constant)) = None
struct_if (Some (meant.Object object)) = None
struct_if (Some (meant.Function number is_entry result parameters chain)) = None
struct_if (Some meant.Itself) = None
struct_if (Some meant.Broken) = None
struct_if None = None

-- the type that a type's words name
abbrev pub named_type : List Declared → TypeName → Option TypeTree
named_type names (type_name.Value place of) = Some (of_value_type of)
named_type names (type_name.Struct name) = struct_if (look name.name names)

-- ---- contexts

-- where a statement stands, by the names that are declared there
abbrev pub Context : Type 0
Context = ContextOf (List Declared)

abbrev pub name_bytes : Declared → List ℕ
name_bytes d = d.name.name

-- the names of the own scope
abbrev pub own : Context → List Declared
own c = drop c.start c.names

abbrev pub own_names : Context → List (List ℕ)
own_names c = map name_bytes (own c)

-- a scope within
abbrev pub enter : Context → Context
enter c = record c { start = length c.names }

-- a scope within that is the body of a loop
abbrev pub enter_loop : Context → Context
enter_loop c = record c { start = length c.names; looped = true }

-- after a scope within: its names are gone, its variables and handles keep their numbers
abbrev pub leave : Context → Context → Context
leave outer inner = record outer { variables = inner.variables; handles = inner.handles }

-- Of two declarations of one name in a scope the first counts, and the second declares nothing: what a declaration leaves.
abbrev pub once : Named → Context → Context → Context
once name c declared = if is_among (own_names c) name.name then c else declared

abbrev pub declare : Named → Meant → Context → Context
declare name m c = record c { names = c.names ++ record { name = name; meant = m } ∷ [] }

-- the same place, in a `const`
abbrev pub as_const : Context → Context
as_const c = record c { around = surrounding.Const }

-- the same place, in an attribute, where these names may stand
abbrev pub as_attribute : List (List ℕ) → Context → Context
as_attribute allowed c = record c { around = surrounding.Attribute allowed }
