-- The typed form of a text and its sites: its declarations in order (HLSL Shader Model 6.8; DirectX-Specs, Work Graphs).
use Rattle.std.specs.Prelude.{suc, List, [], ◌∷◌, ◌++◌, length, Option, Some, if◌then◌else◌}
use Rattle.wg_words.specs.Maybe.{◌>>=◌}
use Rattle.wg_typing.specs.Maybe.{all_of}
use Rattle.wg_typing.specs.Scope.{named_type}
use Rattle.wg_typing.specs.TypingAttributes.{attribute_sites}
use Rattle.wg_typing.specs.TypingDeclared.{declared_sites}
use Rattle.wg_typing.specs.Sites.{Sites, nowhere, only, ◌&◌}
use Rattle.wg_typing.specs.Site.{Site, AtType, AtName, AtLimit}
use Rattle.wg_typing.specs.TypingSoFar.{Text, outside, text_names, with_name}
use Rattle.wg_typing.specs.TypingStruct.{fields_sites, struct_of_fields, struct_tree, struct_limit, with_struct}
use Rattle.wg_typing.specs.TypingBuffer.{buffer_limit, buffer_of, buffer_meant, buffer_tree, element_sites}
use Rattle.wg_typing.specs.TypingShared.{shared_type, shared_tree, shared_meant, shared_total}
use Rattle.wg_typing.specs.TypingConstant.{constant_meant, constant_sites}
use Rattle.wg_typing.specs.TypingFunction.{head_context, parameter_context, function_sites, function_tree, function_meant}
use Rattle.wg_tree.specs.declared.item.Item.{Item}
use Rattle.wg_tree.specs.declared.item.Item.TheVariants as item
use Rattle.wg_typed.specs.declared.typed.Typed.{Typed}
use Rattle.wg_typing.specs.Named.{is_among}
use Rattle.wg_tree.specs.declared.expr.Named.{Named}

abbrev pub item_sites : Text → Item → Sites Site
item_sites x (item.Struct place attributes name fields) =
    attribute_sites (outside x) attributes & only (AtName (text_names x) name) & fields_sites (outside x) [] fields
    & struct_limit (outside x) name (struct_of_fields (outside x) attributes name fields)
item_sites x (item.Buffer coherent of name registers) =
    element_sites (outside x) of & only (AtName (text_names x) name) & only (AtLimit name (suc (length x.buffers)) buffer_limit)
item_sites x (item.Shared place of name size) =
    only (AtType (outside x) of) & declared_sites (outside x) (text_names x) (named_type x.names of) name size & shared_total x name (shared_type x of size)
item_sites x (item.Constant place of name e) = constant_sites (outside x) of e & only (AtName (text_names x) name)
item_sites x (item.Function attributes result name parameters place body) = function_sites x attributes result name parameters body

-- a text with one more declaration
abbrev pub item_declared : Text → Item → Text
item_declared x (item.Struct place attributes name fields) = with_struct name (struct_tree (outside x) attributes name fields) x
item_declared x (item.Buffer coherent of name registers) =
    record (with_name name (buffer_meant (length x.buffers) (buffer_of (outside x) of)) x) { buffers = x.buffers ++ buffer_tree name (buffer_of (outside x) of) ∷ [] }
item_declared x (item.Shared place of name size) =
    record (with_name name (shared_meant (length x.shared) (shared_type x of size)) x) {
      shared = x.shared ++ shared_tree name (shared_type x of size) ∷ [];
    }
item_declared x (item.Constant place of name e) = with_name name (constant_meant (outside x) of e) x
item_declared x (item.Function attributes result name parameters place body) =
    let c = parameter_context x attributes result name parameters in
    record (with_name name (function_meant (length x.functions) c parameters body) x) {
      functions = x.functions ++ function_tree (head_context x parameters) c attributes name parameters body ∷ [];
    }

abbrev pub item_name : Item → Named
item_name (item.Struct place attributes name fields) = name
item_name (item.Buffer coherent of name registers) = name
item_name (item.Shared place of name size) = name
item_name (item.Constant place of name e) = name
item_name (item.Function attributes result name parameters place body) = name

-- the second of two of one name declares nothing
abbrev pub item_after : Text → Item → Text
item_after x i = if is_among (text_names x) (item_name i).name then x else item_declared x i

abbrev pub no_text : Text
no_text = record { names = []; structs = []; buffers = []; shared = []; functions = [] }

abbrev pub items_sites : Text → List Item → Sites Site
items_sites x [] = nowhere
items_sites x (i ∷ rest) = item_sites x i & items_sites (item_after x i) rest

abbrev pub items_after : Text → List Item → Text
items_after x [] = x
items_after x (i ∷ rest) = items_after (item_after x i) rest

abbrev pub text_tree : Text → Option Typed
text_tree x = do
  buffers ← all_of x.buffers
  shared ← all_of x.shared
  functions ← all_of x.functions
  Some (record { structs = x.structs; buffers = buffers; shared = shared; functions = functions })
