-- The typed form of members, methods and indexes after a value, from left to right (HLSL Shader Model 6.8).
use Rattle.std.specs.Prelude.{ℕ, suc, ◌==◌, ◌&&◌, nat_lt, if◌then◌else◌, List, [], ◌∷◌, ◌++◌, length, map, slice_get, Option, Some, None}
use Rattle.std.specs.Str.{bytes_eq}
use Rattle.wg_words.specs.declared.place.Place.{Place}
use Rattle.wg_words.specs.Maybe.{◌>>=◌}
use Rattle.wg_typing.specs.Maybe.{where_true, all_of}
use Rattle.wg_typing.specs.Conversions.{uint_type}
use Rattle.wg_typing.specs.Scope.{Context}
use Rattle.wg_typing.specs.Layers.{fit, tree_of}
use Rattle.wg_typing.specs.TypingObjects.{method_of, method_value, takes, element_value}
use Rattle.wg_typed.specs.Layout.{element_type}
use Rattle.wg_tree.specs.declared.expr.Scalar.{Scalar}
use Rattle.wg_typed.specs.declared.types.TypeTree.{TypeTree}
use Rattle.wg_typed.specs.declared.types.TypeTree.TheVariants as type
use Rattle.wg_typed.specs.declared.typed.TypedStruct.{TypedStruct}
use Rattle.wg_typed.specs.declared.typed.TypedField.{TypedField}
use Rattle.wg_typed.specs.declared.typed_expr.TypedExpr.{TypedExpr}
use Rattle.wg_typed.specs.declared.typed_expr.TypedKind.TheVariants as tree
use Rattle.wg_typed.specs.declared.typed_expr.Access.{Access}
use Rattle.wg_typed.specs.declared.typed_expr.Access.TheVariants as access
use Rattle.wg_typing.specs.declared.scope.Object.{Object}
use Rattle.wg_typing.specs.declared.scope.Standing.{Standing}
use Rattle.wg_typing.specs.declared.scope.Standing.TheVariants as standing
use Rattle.wg_typing.specs.declared.scope.Value.{Value}
use Rattle.wg_typing.specs.declared.scope.Value.TheVariants as value
use Rattle.wg_typing.specs.declared.part.FormLayer.{FormLayer}
use Rattle.wg_typing.specs.declared.part.Part.{Part}
use Rattle.wg_typing.specs.declared.called.Method.{Method}
use Rattle.wg_typing.specs.declared.part.Reached.{Reached}
use Rattle.wg_typing.specs.declared.part.Along.{Along}
use Rattle.wg_typing.specs.declared.part.FoundField.{FoundField}
use Rattle.wg_typing.specs.declared.part.FormLayer.TheVariants as form_layer
use Rattle.wg_typing.specs.declared.part.Along.TheVariants as along

abbrev pub begin : Value → Along
begin (value.Typed of s base) = along.Typed (record { of = of; standing = s; base = base; accesses = [] })
begin v = along.Other v

abbrev pub with_accesses : Place → TypeTree → TypedExpr → List Access → TypedExpr
with_accesses place of base [] = base
with_accesses place of base accesses = tree_of place of (tree.Access base accesses)

abbrev pub finish : Place → Along → Value
finish place (along.Typed r) = value.Typed r.of r.standing (with_accesses place r.of r.base r.accesses)
finish place (along.Other v) = v

abbrev pub extended : Reached → TypeTree → Standing → Access → Option Along
extended r of s a = Some (along.Typed (record { of = of; standing = s; base = r.base; accesses = r.accesses ++ a ∷ [] }))

abbrev pub field_from : ℕ → List ℕ → List TypedField → Option FoundField
field_from at name [] = None
field_from at name (f ∷ rest) = if bytes_eq f.name.name name then Some (record { number = at; of = f.of }) else field_from (suc at) name rest

abbrev pub struct_field : List ℕ → Option TypedStruct → Option FoundField
struct_field name None = None
struct_field name (Some s) = field_from 0 name s.fields

-- the component of a letter: x, y, z, w
abbrev pub letter : ℕ → Option ℕ
letter byte = if byte == 120 then Some 0 else (if byte == 121 then Some 1 else (if byte == 122 then Some 2 else (if byte == 119 then Some 3 else None)))

abbrev pub component_in : ℕ → ℕ → Option ℕ
component_in size byte = letter byte >>= (λ n. where_true (nat_lt n size) n)

-- from one to four letters of components that the vector has
abbrev pub components_in : ℕ → List ℕ → Option (List ℕ)
components_in size name = where_true (nat_lt 0 (length name) && nat_lt (length name) 5) name >>= (λ name. all_of (map (component_in size) name))

-- one component stands where its vector does; several cannot be assigned
abbrev pub picked : Scalar → Reached → List ℕ → Option Along
picked of r [] = None
picked of r (c ∷ []) = extended r (type.Scalar of) r.standing (access.Components (c ∷ []) (type.Scalar of))
picked of r components = extended r (type.Vector of (length components)) standing.Fixed (access.Components components (type.Vector of (length components)))

abbrev pub member_of : List TypedStruct → TypeTree → List ℕ → Reached → Option Along
member_of structs (type.Scalar of) name r = None
member_of structs (type.Vector of size) name r = components_in size name >>= picked of r
member_of structs (type.Struct number) name r = struct_field name (slice_get structs number) >>= (λ f. extended r f.of r.standing (access.Field f.number f.of))
member_of structs (type.Array of size) name r = None

-- an index is a `uint`
abbrev pub indexed : TypeTree → Part → Reached → Option Along
indexed (type.Scalar of) p r = None
indexed (type.Vector of size) p r = None
indexed (type.Struct number) p r = None
indexed (type.Array of size) p r = fit uint_type p >>= (λ i. extended r (element_type of) r.standing (access.Index i (element_type of)))

abbrev pub method_on : Place → Place → Object → Option TypedExpr → List Part → Method → Option Along
method_on place name o element parts m = do
  v ← where_true (takes o m parts) parts >>= method_value place name o element m
  Some (begin v)

abbrev pub after_object : Place → Object → Option TypedExpr → FormLayer Part → Option Along
after_object place o element (form_layer.Member name) = None
after_object place o element (form_layer.Method name parts) = method_of o name.name >>= method_on place name.place o element parts
after_object place o element (form_layer.Index p) = do
  v ← fit uint_type p >>= element_value place o
  Some (begin v)

abbrev pub after_typed : List TypedStruct → Reached → FormLayer Part → Option Along
after_typed structs r (form_layer.Member name) = member_of structs r.of name.name r
after_typed structs r (form_layer.Method name parts) = None
after_typed structs r (form_layer.Index p) = indexed r.of p r

-- what a form makes of what stands so far; the place is that of the first token of all
abbrev pub form_on : Context → Place → Along → FormLayer Part → Option Along
form_on c place (along.Typed r) f = after_typed c.structs r f
form_on c place (along.Other (value.Typed of s base)) f = None
form_on c place (along.Other (value.Object o element)) f = after_object place o element f
form_on c place (along.Other (value.Act name act)) f = None
form_on c place (along.Other (value.Text bytes)) f = None

abbrev pub forms_on : Context → Place → Along → List (FormLayer Part) → Option Along
forms_on c place a [] = Some a
forms_on c place a (f ∷ rest) = form_on c place a f >>= (λ a. forms_on c place a rest)

abbrev pub begun : Part → Option Along
begun first = first.value >>= (λ v. Some (begin v))

abbrev pub postfix_value : Context → Place → Part → List (FormLayer Part) → Option Value
postfix_value c place first forms = begun first >>= (λ a. forms_on c place a forms) >>= (λ a. Some (finish place a))
