-- Objects with their record types, and handles of output records (DirectX-Specs, Work Graphs, node outputs; where a handle may stand is own).
use Rattle.std.specs.Prelude.{ℕ, ◌==◌, Bool, true, false, not, ◌&&◌, if◌then◌else◌, ◌++◌, length, map, is_some, Option, Some, None}
use Rattle.wg_words.specs.Maybe.{◌>>=◌}
use Rattle.wg_typing.specs.Maybe.{listed, where_true}
use Rattle.wg_typed.specs.Layout.{words_of}
use Rattle.wg_typing.specs.Scope.{Context, own_names, declare, named_type, once}
use Rattle.wg_typing.specs.TypingExpr.{part, sites_of}
use Rattle.wg_typing.specs.Sites.{Sites, nowhere, only, ◌&◌}
use Rattle.wg_typing.specs.Site.{Site, AtHandle, AtType, AtName, AtLimit, AtObject}
use Rattle.wg_typing.specs.TypingDeclared.{record_limit}
use Rattle.wg_tree.specs.declared.expr.Named.{Named}
use Rattle.wg_tree.specs.declared.expr.Expr.{Expr}
use Rattle.wg_tree.specs.declared.expr.TypeName.{TypeName}
use Rattle.wg_tree.specs.declared.stmt.ObjectType.{ObjectType}
use Rattle.wg_tree.specs.declared.stmt.ObjectWord.{ObjectWord}
use Rattle.wg_tree.specs.declared.stmt.ObjectWord.TheVariants as object_word
use Rattle.wg_typed.specs.declared.types.TypeTree.{TypeTree}
use Rattle.wg_typed.specs.declared.types.TypeTree.TheVariants as type
use Rattle.wg_typed.specs.declared.typed.TypedHandle.{TypedHandle}
use Rattle.wg_typed.specs.declared.typed_expr.TypedExpr.{TypedExpr}
use Rattle.wg_typed.specs.declared.typed_stmt.TypedStmt.{TypedStmt}
use Rattle.wg_typed.specs.declared.typed_stmt.TypedStmt.TheVariants as t
use Rattle.wg_typing.specs.declared.scope.Act.TheVariants as act
use Rattle.wg_typing.specs.declared.scope.Meant.{Meant}
use Rattle.wg_typing.specs.declared.scope.Meant.TheVariants as meant
use Rattle.wg_typing.specs.declared.scope.Object.TheVariants as object
use Rattle.wg_typing.specs.declared.scope.Value.{Value}
use Rattle.wg_typing.specs.declared.scope.Value.TheVariants as value

-- the object words of handles: whether it is the group's
abbrev pub handle_word : ObjectWord → Option Bool
handle_word object_word.DispatchNodeInputRecord = None
handle_word object_word.RwDispatchNodeInputRecord = None
handle_word object_word.GroupNodeInputRecords = None
handle_word object_word.RwGroupNodeInputRecords = None
handle_word object_word.ThreadNodeInputRecord = None
handle_word object_word.RwThreadNodeInputRecord = None
handle_word object_word.EmptyNodeInput = None
handle_word object_word.NodeOutput = None
handle_word object_word.NodeOutputArray = None
handle_word object_word.EmptyNodeOutput = None
handle_word object_word.EmptyNodeOutputArray = None
handle_word object_word.ThreadNodeOutputRecords = Some false
handle_word object_word.GroupNodeOutputRecords = Some true

abbrev pub struct_number : TypeTree → Option ℕ
struct_number (type.Scalar of) = None
struct_number (type.Vector of size) = None
struct_number (type.Struct number) = Some number
struct_number (type.Array of size) = None

abbrev pub record_named : Context → ObjectType → Option TypeTree
record_named c of = of.record_type >>= named_type c.names

-- the number of the record type of an object that has one
abbrev pub record_number : Context → ObjectType → Option ℕ
record_number c of = record_named c of >>= struct_number

-- the number of the record type of a handle
abbrev pub handle_record : Context → ObjectType → Option ℕ
handle_record c of = handle_word of.word >>= (λ group. record_number c of)

abbrev pub type_there : Context → Option TypeName → Sites Site
type_there c None = nowhere
type_there c (Some of) = only (AtType c of)

abbrev pub record_limit_site : Context → Named → Option ℕ → Sites Site
record_limit_site c name None = nowhere
record_limit_site c name (Some number) = only (AtLimit name (words_of c.structs (type.Struct number)) record_limit)

-- an object with its record type, where it may stand or not
abbrev pub object_sites : Context → Bool → ObjectType → Named → Sites Site
object_sites c allowed of name =
    type_there c of.record_type & only (AtObject allowed of (record_named c of)) & record_limit_site c name (record_number c of)

-- a request of the group's or of each lane's records of a type, at an output
pub record RequestForm : Type 0 where
  pub group : Bool
  pub output : ℕ
  pub element : Option TypedExpr
  pub amount : TypedExpr

abbrev pub same_truth : Bool → Bool → Bool
same_truth a b = if a then b else not b

-- the request that fits a handle's object and record type
abbrev pub request_in : Option Bool → Option ℕ → Option Value → Option RequestForm
request_in (Some group) (Some number) (Some (value.Act name (act.Request of_group output record_type element amount))) =
    where_true (same_truth of_group group && record_type == number) (record { group = group; output = output; element = element; amount = amount })
request_in group number v = None

abbrev pub handle_request : Context → ObjectType → Expr → Option RequestForm
handle_request c of e = request_in (handle_word of.word) (handle_record c of) (part c e).value

abbrev pub handle_tree : Named → Option RequestForm → Option TypedHandle
handle_tree name r = r >>= (λ r. Some (record { name = name; group = r.group; output = r.output }))

-- what a handle means, by its number and that of its record type
abbrev pub handle_meant : ℕ → Option ℕ → Meant
handle_meant handle None = meant.Broken
handle_meant handle (Some number) = meant.Object (object.Handle handle number)

-- a handle of a record type takes the next number
abbrev pub with_handle : Named → Option ℕ → Option TypedHandle → Context → Context
with_handle name number handle c =
    record (declare name (handle_meant (length c.handles) number) c) { handles = c.handles ++ map (λ n. handle) (listed number) }

abbrev pub handle_after : ObjectType → Named → Expr → Context → Context
handle_after of name e c = once name c (with_handle name (handle_record c of) (handle_tree name (handle_request c of e)) c)

abbrev pub handle_sites : ObjectType → Named → Expr → Context → Sites Site
handle_sites of name e c =
    sites_of c e & object_sites c (is_some (handle_word of.word) && is_some of.record_type) of name & only (AtName (own_names c) name)
    & only (AtHandle c of.word name (handle_record c of) (part c e))

abbrev pub request_stmt : Context → RequestForm → TypedStmt
request_stmt c r = t.Request (length c.handles) r.group r.output r.element r.amount
