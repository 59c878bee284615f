-- A text in which no rule is broken has its typed form.
use Rattle.std.proofs.Common.{◌≡◌, ℕ, Bool, true, false, List, [], ◌∷◌, length, map, Option, Some, None, refl, sym, subst, cond}
use Rattle.std.specs.Prelude.{nat_le}
use Rattle.wg_typed.specs.Constants.{const_value}
use Rattle.wg_typing.specs.Conversions.{fits, is_number}
use Rattle.wg_typing.specs.Layers.{typed_part, fit}
use Rattle.wg_typing.specs.Maybe.{where_true, all_of}
use Rattle.wg_typing.specs.Scope.{Context, as_const, known_names, named_type}
use Rattle.wg_typing.specs.Typing.{IsWellTyped, typed}
use Rattle.wg_typing.specs.TypingBuffer.{buffer_of, buffer_meant, element_sites}
use Rattle.wg_typing.specs.TypingConstant.{constant_of, constant_type, constant_meant, constant_sites}
use Rattle.wg_typing.specs.TypingDeclared.{type_limit, declared_type, wanted_sites}
use Rattle.wg_typing.specs.TypingExpr.{part}
use Rattle.wg_typing.specs.TypingShared.{shared_type, shared_meant}
use Rattle.wg_typing.specs.TypingSoFar.{Text, outside, text_names}
use Rattle.wg_typing.specs.TypingStruct.{field_tree, fields_sites, struct_of_fields, struct_size, struct_tree, struct_limit, with_struct}
use Rattle.wg_typing.specs.TypingText.{item_sites, item_after, no_text, items_sites, items_after, text_tree, item_declared, item_name}
use Rattle.wg_tree.specs.declared.expr.Expr.{Expr}
use Rattle.wg_tree.specs.declared.expr.Named.{Named}
use Rattle.wg_tree.specs.declared.expr.TypeName.{TypeName}
use Rattle.wg_tree.specs.declared.stmt.Attribute.{Attribute}
use Rattle.wg_tree.specs.declared.item.BufferType.{BufferType}
use Rattle.wg_tree.specs.declared.item.BufferType.TheVariants as buffer_type
use Rattle.wg_tree.specs.declared.item.Field.{Field}
use Rattle.wg_tree.specs.declared.item.Item.{Item}
use Rattle.wg_tree.specs.declared.item.Item.TheVariants as item
use Rattle.wg_tree.specs.declared.item.Source.{Source}
use Rattle.wg_typed.specs.declared.types.ConstValue.{ConstValue}
use Rattle.wg_typed.specs.declared.types.TypeTree.{TypeTree}
use Rattle.wg_typed.specs.declared.types.TypeTree.TheVariants as type
use Rattle.wg_typed.specs.declared.typed.Typed.{Typed}
use Rattle.wg_typed.specs.declared.typed.TypedBufferType.{TypedBufferType}
use Rattle.wg_typed.specs.declared.typed.TypedStruct.{TypedStruct}
use Rattle.wg_typing.proofs.Constants.{const_number, fits_number, typed_number}
use Rattle.wg_typing.proofs.Declarations.{AllHave, have_push}
use Rattle.wg_typing.proofs.Facts.{Has, has_then, has_where, is_false, some_of, then_some}
use Rattle.wg_typing.proofs.Functions.{has_function, have_all}
use Rattle.wg_typing.proofs.Names.{AllStand, Stands, StandsIf, stand_push, then_stands, unwrap_stands}
use Rattle.wg_typing.proofs.Sites.{Well, well_left, well_only, well_right}
use Rattle.wg_typing.proofs.Wanted.{elemental, has_const, has_declared, named_clear, sound_const, wanted_fits, within}
use Rattle.wg_typing.specs.Named.{is_among}
use Rattle.wg_typing.specs.declared.part.Part.{Part}
use Rattle.wg_typing.specs.declared.part.TypedPart.{TypedPart}
use Rattle.wg_typing.specs.declared.fault.TypingRule.TheVariants.{LimitPassed}

-- a text whose names stand, and in which each declaration has its typed form
pub record Formed (x : Text) : Type 0 where
  pub names : AllStand x.names
  pub buffers : AllHave x.buffers
  pub shared : AllHave x.shared
  pub functions : AllHave x.functions

-- ---- structs

has_fields : (c : Context) (before : List (List ℕ)) (fields : List Field) → AllStand c.names → Well (fields_sites c before fields) → Has (all_of (map (field_tree c) fields))
has_fields c before [] n h = tt
has_fields c before (f ∷ rest) n h =
    let later = well_right h in
    has_then (field_tree c f) _ (has_then (declared_type c (named_type c.names f.of) f.size) _ (has_declared c before (named_type c.names f.of) f.name f.size n (elemental c f.of n (well_only (well_left h))) (well_left later)) (λ t e. tt)) (λ a q.
    has_then (all_of (map (field_tree c) rest)) _ (has_fields c _ rest n (well_right later)) (λ b r. tt))

has_struct : (c : Context) (attributes : List Attribute) (name : Named) (before : List (List ℕ)) (fields : List Field) → AllStand c.names → Well (fields_sites c before fields) → Well (struct_limit c name (struct_of_fields c attributes name fields)) → Has (struct_tree c attributes name fields)
has_struct c attributes name before fields n h l = has_then (struct_of_fields c attributes name fields) _ (has_then (all_of (map (field_tree c) fields)) _ (has_fields c before fields n h) (λ a q. tt)) (λ s q.
    has_where (nat_le (struct_size c.structs s) type_limit) s
    (within (struct_size c.structs s) type_limit (is_false _ name.place ((well_only (subst (λ x. Well (struct_limit c name x)) q l)).clear LimitPassed))))

struct_known : (name : Named) (s : Option TypedStruct) (x : Text) → Has s → Formed x → Formed (with_struct name s x)
struct_known name None x h k = absurd h
struct_known name (Some s) x h k = record { names = stand_push x.names _ k.names tt; buffers = k.buffers; shared = k.shared; functions = k.functions }

-- ---- buffers and groupshared variables

has_buffer : (c : Context) (of : BufferType) → AllStand c.names → Well (element_sites c of) → Has (buffer_of c of)
has_buffer c (buffer_type.Raw place writable) n h = tt
has_buffer c (buffer_type.Structured place writable of) n h = has_then (named_type c.names of) _ (named_clear c of n (well_only h)) (λ t e. tt)

buffer_stands : (number : ℕ) (of : Option TypedBufferType) → Has of → Stands (buffer_meant number of)
buffer_stands number None h = absurd h
buffer_stands number (Some of) h = tt

shared_stands : (number : ℕ) (of : Option TypeTree) → Has of → Stands (shared_meant number of)
shared_stands number None h = absurd h
shared_stands number (Some of) h = tt

-- ---- static constants

constant_has : (goal : TypeTree) (v : ConstValue) → is_number goal ≡ true → Has (constant_of goal v)
constant_has (type.Scalar of) v e = tt
constant_has (type.Vector of n) v e = tt
constant_has (type.Struct number) v e = absurd (cc)
constant_has (type.Array of n) v e = absurd (cc)

constant_stands : (goal : TypeTree) (v : ConstValue) → StandsIf (constant_of goal v)
constant_stands (type.Scalar of) v = refl
constant_stands (type.Vector of n) v = tt
constant_stands (type.Struct number) v = tt
constant_stands (type.Array of n) v = tt

where_holds : {A : Type 0} (b : Bool) (a : A) → Has (where_true b a) → b ≡ true
where_holds true a h = refl
where_holds false a h = absurd h

-- a value that converts to the type has a type that fits it
fit_fits : (goal : TypeTree) (p : Part) → Has (fit goal p) → (t : TypedPart) × (typed_part p ≡ Some t) × (fits t.of goal ≡ true)
fit_fits goal p h =
    let a = some_of (fit goal p) h in
    let t = then_some (typed_part p) _ a.0 a.1 in
    (t.0, t.1, where_holds (fits t.0.of goal) _ (subst Has (sym t.2) tt))

number_goal : (c : Context) (goal : TypeTree) (e : Expr) → AllStand c.names → Has (fit goal (part (as_const c) e)) → Has (const_value (known_names c.names) e) → is_number goal ≡ true
number_goal c goal e n h v =
    let t = fit_fits goal (part (as_const c) e) h in
    fits_number t.0.of goal (typed_number (part (as_const c) e).place (part (as_const c) e).value t.0 t.1 (const_number c n e v)) t.2

constant_known : (c : Context) (of : TypeName) (e : Expr) → AllStand c.names → Well (constant_sites c of e) → Stands (constant_meant c of e)
constant_known c of e n h = unwrap_stands (constant_type c of e)
    (has_then (named_type c.names of) _ (named_clear c of n (well_only (well_left h))) (λ goal q.
    let value = has_const c (named_type c.names of) e n (well_right h) in
    let fitting = wanted_fits (as_const c) goal e (sound_const c n) (subst (λ x. Well (wanted_sites (as_const c) x e)) q (well_left (well_right h))) in
    has_then (fit goal (part (as_const c) e)) _ fitting (λ t r.
    has_then (const_value (known_names c.names) e) _ value (λ v s. constant_has goal v (number_goal c goal e n fitting value)))))
    (then_stands (named_type c.names of) _ (λ goal. then_stands (fit goal (part (as_const c) e)) _ (λ t. then_stands (const_value (known_names c.names) e) _ (constant_stands goal))))

-- ---- declarations

declared_known : (x : Text) (i : Item) → Formed x → Well (item_sites x i) → Formed (item_declared x i)
declared_known x (item.Struct place attributes name fields) k h =
    let inner = well_right (well_right h) in
    struct_known name (struct_tree (outside x) attributes name fields) x (has_struct (outside x) attributes name [] fields k.names (well_left inner) (well_right inner)) k
declared_known x (item.Buffer coherent of name registers) k h =
    let b = has_buffer (outside x) of k.names (well_left h) in
    record {
      names = stand_push x.names _ k.names (buffer_stands (length x.buffers) (buffer_of (outside x) of) b);
      buffers = have_push x.buffers _ k.buffers (has_then (buffer_of (outside x) of) _ b (λ t e. tt));
      shared = k.shared;
      functions = k.functions;
    }
declared_known x (item.Shared place of name size) k h =
    let s = has_declared (outside x) _ (named_type x.names of) name size k.names (elemental (outside x) of k.names (well_only (well_left h))) (well_left (well_right h)) in
    record {
      names = stand_push x.names _ k.names (shared_stands (length x.shared) (shared_type x of size) s);
      buffers = k.buffers;
      shared = have_push x.shared _ k.shared (has_then (shared_type x of size) _ s (λ t e. tt));
      functions = k.functions;
    }
declared_known x (item.Constant place of name e) k h = record { names = stand_push x.names _ k.names (constant_known (outside x) of e k.names (well_left h)); buffers = k.buffers; shared = k.shared; functions = k.functions }
declared_known x (item.Function attributes result name parameters place body) k h =
    let f = has_function x attributes result name parameters body (length x.functions) k.names h in
    record { names = stand_push x.names _ k.names f.stands; buffers = k.buffers; shared = k.shared; functions = have_push x.functions _ k.functions f.tree }

item_known : (x : Text) (i : Item) → Formed x → Well (item_sites x i) → Formed (item_after x i)
item_known x i k h = either (is_among (text_names x) (item_name i).name)
  where
    either : (b : Bool) → Formed (cond b x (item_declared x i))
    either true = k
    either false = declared_known x i k h

items_known : (x : Text) (items : List Item) → Formed x → Well (items_sites x items) → Formed (items_after x items)
items_known x [] k h = k
items_known x (i ∷ rest) k h = items_known (item_after x i) rest (item_known x i k (well_left h)) (well_right h)

has_tree : (x : Text) → Formed x → Has (text_tree x)
has_tree x k = has_then (all_of x.buffers) _ (have_all x.buffers k.buffers) (λ b e. has_then (all_of x.shared) _ (have_all x.shared k.shared) (λ s f. has_then (all_of x.functions) _ (have_all x.functions k.functions) (λ g i. tt)))

pub has_typed : (tree : Source) → IsWellTyped tree → (t : Typed) × typed tree ≡ Some t
has_typed tree h = some_of (typed tree) (has_tree (items_after no_text tree.items) (items_known no_text tree.items (record { names = tt; buffers = tt; shared = tt; functions = tt }) (record { well = h.unbroken })))
