-- The typed form of a struct (HLSL Shader Model 6.8, structs; the limit on its words is own).
use Rattle.std.specs.Prelude.{ℕ, nat_le, List, [], ◌∷◌, ◌++◌, length, map, Option, Some, None}
use Rattle.wg_words.specs.Maybe.{◌>>=◌}
use Rattle.wg_typing.specs.Maybe.{where_true, all_of}
use Rattle.wg_typed.specs.Layout.{words_of}
use Rattle.wg_typing.specs.Scope.{Context, named_type}
use Rattle.wg_typing.specs.TypingAttributes.{attributes_of}
use Rattle.wg_typing.specs.TypingDeclared.{type_limit, declared_type, declared_sites}
use Rattle.wg_typing.specs.Sites.{Sites, nowhere, only, ◌&◌}
use Rattle.wg_typing.specs.Site.{Site, AtType, AtLimit}
use Rattle.wg_typing.specs.TypingSoFar.{Text, with_name}
use Rattle.wg_tree.specs.declared.expr.Named.{Named}
use Rattle.wg_tree.specs.declared.stmt.Attribute.{Attribute}
use Rattle.wg_tree.specs.declared.item.Field.{Field}
use Rattle.wg_typed.specs.declared.types.TypeTree.TheVariants as type
use Rattle.wg_typed.specs.declared.typed.TypedStruct.{TypedStruct}
use Rattle.wg_typed.specs.declared.typed.TypedField.{TypedField}
use Rattle.wg_typing.specs.declared.scope.Meant.TheVariants as meant

abbrev pub field_tree : Context → Field → Option TypedField
field_tree c f = declared_type c (named_type c.names f.of) f.size >>= (λ of. Some (record { name = f.name; of = of; semantic = f.semantic }))

-- each field is declared among those before it
abbrev pub fields_sites : Context → List (List ℕ) → List Field → Sites Site
fields_sites c before [] = nowhere
fields_sites c before (f ∷ rest) = only (AtType c f.of) & declared_sites c before (named_type c.names f.of) f.name f.size & fields_sites c (before ++ f.name.name ∷ []) rest

-- a struct whose fields have types
abbrev pub struct_of_fields : Context → List Attribute → Named → List Field → Option TypedStruct
struct_of_fields c attributes name fields =
    all_of (map (field_tree c) fields) >>= (λ fields. Some (record { name = name; attributes = attributes_of c attributes; fields = fields }))

-- its words, as the last struct
abbrev pub struct_size : List TypedStruct → TypedStruct → ℕ
struct_size structs s = words_of (structs ++ s ∷ []) (type.Struct (length structs))

abbrev pub struct_tree : Context → List Attribute → Named → List Field → Option TypedStruct
struct_tree c attributes name fields =
    struct_of_fields c attributes name fields >>= (λ s. where_true (nat_le (struct_size c.structs s) type_limit) s)

abbrev pub struct_limit : Context → Named → Option TypedStruct → Sites Site
struct_limit c name None = nowhere
struct_limit c name (Some s) = only (AtLimit name (struct_size c.structs s) type_limit)

abbrev pub with_struct : Named → Option TypedStruct → Text → Text
with_struct name None x = with_name name meant.Broken x
with_struct name (Some s) x = record (with_name name (meant.Struct (length x.structs)) x) { structs = x.structs ++ s ∷ [] }
