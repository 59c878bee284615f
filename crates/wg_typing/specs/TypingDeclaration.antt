-- Declarations of locals (HLSL Shader Model 6.8, declarations).
use Rattle.std.specs.Prelude.{ℕ, Bool, List, [], ◌∷◌, ◌++◌, length, map, is_some, Option, Some, None, if◌then◌else◌, ◌&&◌}
use Rattle.wg_words.specs.Maybe.{◌>>=◌}
use Rattle.wg_typing.specs.Maybe.{if_there, listed, where_true}
use Rattle.wg_typed.specs.Layout.{words_of}
use Rattle.wg_typing.specs.Scope.{Context, own_names, declare, named_type, once}
use Rattle.wg_typing.specs.Sites.{Sites, nowhere, only, ◌&◌}
use Rattle.wg_typing.specs.Site.{Site, AtType, AtLocal, AtStart}
use Rattle.wg_typing.specs.TypingDeclared.{declared_type, declared_sites}
use Rattle.wg_tree.specs.declared.expr.Named.{Named}
use Rattle.wg_tree.specs.declared.stmt.Declaration.{Declaration}
use Rattle.wg_tree.specs.declared.stmt.Declarator.{Declarator}
use Rattle.wg_typed.specs.declared.types.TypeTree.{TypeTree}
use Rattle.wg_typed.specs.declared.typed_stmt.TypedDeclarator.{TypedDeclarator}
use Rattle.wg_typing.specs.declared.context.VariableForm.{VariableForm}
use Rattle.wg_typing.specs.declared.scope.Meant.{Meant}
use Rattle.wg_typing.specs.declared.scope.Meant.TheVariants as meant
use Rattle.wg_typing.specs.Named.{is_among}
use Rattle.wg_words.specs.declared.place.Place.{Place}
use Rattle.wg_typing.specs.Conversions.{same_type, truth_type}
use Rattle.wg_typing.specs.Layers.{tree_of, typed_at, convert}
use Rattle.wg_typing.specs.TypingExpr.{part, sites_of}
use Rattle.wg_typing.specs.PartSites.{goal_if}
use Rattle.wg_tree.specs.declared.expr.Expr.{Expr}
use Rattle.wg_typed.specs.declared.typed_expr.TypedExpr.{TypedExpr}
use Rattle.wg_typed.specs.declared.typed_expr.TypedKind.TheVariants as tree
use Rattle.wg_typing.specs.declared.scope.Act.TheVariants as act
use Rattle.wg_typing.specs.declared.scope.Value.{Value}
use Rattle.wg_typing.specs.declared.scope.Value.TheVariants as value

-- ---- start values

-- a value that converts; or whether the group is the record's last, as the start value of a `bool`
abbrev pub start_in : TypeTree → Place → Option Value → Option TypedExpr
start_in goal place (Some (value.Act name (act.Finished tracked))) = where_true (tracked && same_type goal truth_type) (tree_of place goal tree.Finished)
start_in goal place v = typed_at place v >>= convert goal

abbrev pub start_of : Context → TypeTree → Expr → Option TypedExpr
start_of c goal e = start_in goal (part c e).place (part c e).value

abbrev pub start_there : Context → Option TypeTree → Option Expr → Option TypedExpr
start_there c goal e = goal >>= (λ goal. e >>= start_of c goal)

abbrev pub start_sites_of : Context → Option TypeTree → Option Expr → Sites Site
start_sites_of c goal None = nowhere
start_sites_of c goal (Some e) = sites_of c e & only (AtStart goal (part c e)) & goal_if goal (part c e)

-- ---- locals

-- what a local means, as the variable of a number
abbrev pub local_meant : ℕ → Bool → Option TypeTree → Meant
local_meant number constant None = meant.Broken
local_meant number constant (Some of) = meant.Variable number of constant

abbrev pub local_form : Bool → Option TypedExpr → TypeTree → VariableForm
local_form constant v of = record { of = of; system = None; constant = constant; value = v }

-- a local of a type is the variable of the next number
abbrev pub with_local : Named → Bool → Option TypeTree → Option TypedExpr → Context → Context
with_local name constant of v c =
    record (declare name (local_meant (length c.variables) constant of) c) { variables = c.variables ++ map (local_form constant v) (listed of) }

abbrev pub local_site : Context → Named → Option TypeTree → Sites Site
local_site c name None = nowhere
local_site c name (Some of) = if is_among (own_names c) name.name then nowhere else only (AtLocal name (words_of c.structs of))

-- a local is in scope after its own start value
abbrev pub declarator_after : Bool → Option TypeTree → Declarator → Context → Context
declarator_after constant of d c = once d.name c (with_local d.name constant (declared_type c of d.size) (start_there c (declared_type c of d.size) d.value) c)

abbrev pub declarator_sites : Option TypeTree → Declarator → Context → Sites Site
declarator_sites of d c =
    declared_sites c (own_names c) of d.name d.size & local_site c d.name (declared_type c of d.size) & start_sites_of c (declared_type c of d.size) d.value

abbrev pub declarator_tree : Option TypeTree → Declarator → Context → Option TypedDeclarator
declarator_tree of d c = do
  local ← declared_type c of d.size
  start ← if_there (start_of c local) d.value
  Some (record { variable = length c.variables; of = local; value = start })

abbrev pub declarators_after : Bool → Option TypeTree → List Declarator → Context → Context
declarators_after constant of [] c = c
declarators_after constant of (d ∷ rest) c = declarators_after constant of rest (declarator_after constant of d c)

abbrev pub declarators_sites : Bool → Option TypeTree → List Declarator → Context → Sites Site
declarators_sites constant of [] c = nowhere
declarators_sites constant of (d ∷ rest) c = declarator_sites of d c & declarators_sites constant of rest (declarator_after constant of d c)

abbrev pub declarators_trees : Bool → Option TypeTree → List Declarator → Context → Option (List TypedDeclarator)
declarators_trees constant of [] c = Some []
declarators_trees constant of (d ∷ rest) c = do
  first ← declarator_tree of d c
  others ← declarators_trees constant of rest (declarator_after constant of d c)
  Some (first ∷ others)

abbrev pub all_declarators : Declaration → List Declarator
all_declarators d = d.first ∷ d.rest

-- The words of the type are read once, before all declarators, whatever these hide.
abbrev pub declared_as : Declaration → Context → Option TypeTree
declared_as d c = named_type c.names d.of

abbrev pub declaration_after : Declaration → Context → Context
declaration_after d c = declarators_after (is_some d.constant) (declared_as d c) (all_declarators d) c

abbrev pub declaration_sites : Declaration → Context → Sites Site
declaration_sites d c = only (AtType c d.of) & declarators_sites (is_some d.constant) (declared_as d c) (all_declarators d) c

abbrev pub declaration_trees : Declaration → Context → Option (List TypedDeclarator)
declaration_trees d c = declarators_trees (is_some d.constant) (declared_as d c) (all_declarators d) c
