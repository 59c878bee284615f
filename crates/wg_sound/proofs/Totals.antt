-- What is kept of the declarations so far says what all of them say: words of groupshared variables, and fields by name.
use Rattle.std.proofs.Common.{◌≡◌, ◌<◌, ◌≤◌, ◌+◌, ℕ, zero, suc, Bool, true, false, cond, List, [], ◌∷◌, ◌++◌, map, take, length, Option, Some, None, refl, sym, ap, ◌∙◌, subst, arith}
use Rattle.std.proofs.lemmas.Grind.{common_steps}
use Rattle.std.specs.Prelude.{◌||◌, nat_le, nat_lt, slice_get}
use Rattle.std.specs.Option.{unwrap_or}
use Rattle.std.specs.Str.{bytes_eq}
use Rattle.wg_typed.specs.Layout.{words_of}
use Rattle.wg_typing.specs.AttributeArguments.{is_positive}
use Rattle.wg_typing.specs.Layers.{fit}
use Rattle.wg_typed.specs.Constants.{const_value}
use Rattle.wg_typing.specs.Named.{is_among}
use Rattle.wg_typing.specs.Scope.{Context, as_const, known_names, look, struct_if, named_type}
use Rattle.wg_typing.specs.TypingBuffer.{buffer_of, buffer_meant}
use Rattle.wg_typing.specs.TypingConstant.{constant_of, constant_type, constant_meant}
use Rattle.wg_typing.specs.TypingDeclared.{type_limit, size_value, array_of, type_of_size, declared_type}
use Rattle.wg_typing.specs.TypingEvents.{events, chain_of}
use Rattle.wg_typing.specs.TypingExpr.{part}
use Rattle.wg_typing.specs.TypingForms.{field_from}
use Rattle.wg_typing.specs.TypingFunction.{parameter_context, body_context, body_sites, passed_in, function_head, function_if, function_meant}
use Rattle.wg_typing.specs.TypingShared.{shared_words, shared_type, shared_tree, shared_meant}
use Rattle.wg_typing.specs.TypingSoFar.{Text, outside, text_names, with_name}
use Rattle.wg_typing.specs.TypingStruct.{struct_tree, with_struct}
use Rattle.wg_typing.specs.TypingText.{no_text, item_declared, item_name, items_after}
use Rattle.wg_sound.specs.Earlier.{words_added, total_after, IsFirst}
use Rattle.wg_tree.specs.declared.expr.Expr.{Expr}
use Rattle.wg_tree.specs.declared.expr.Named.{Named}
use Rattle.wg_tree.specs.declared.expr.TypeName.{TypeName}
use Rattle.wg_tree.specs.declared.expr.TypeName.TheVariants as type_name
use Rattle.wg_tree.specs.declared.expr.ValueType.TheVariants as value_type
use Rattle.wg_tree.specs.declared.item.Item.{Item}
use Rattle.wg_tree.specs.declared.item.Item.TheVariants as item
use Rattle.wg_tree.specs.declared.item.Parameter.{Parameter}
use Rattle.wg_tree.specs.declared.stmt.Stmt.{Stmt}
use Rattle.wg_typed.specs.declared.types.ConstValue.{ConstValue}
use Rattle.wg_typed.specs.declared.types.TypeTree.{TypeTree}
use Rattle.wg_typed.specs.declared.types.TypeTree.TheVariants as type
use Rattle.wg_typed.specs.declared.typed.TypedBufferType.{TypedBufferType}
use Rattle.wg_typed.specs.declared.typed.TypedField.{TypedField}
use Rattle.wg_typed.specs.declared.typed.TypedShared.{TypedShared}
use Rattle.wg_typed.specs.declared.typed.TypedStruct.{TypedStruct}
use Rattle.wg_typing.specs.declared.scope.Declared.{Declared}
use Rattle.wg_typing.specs.declared.scope.Meant.{Meant}
use Rattle.wg_typing.specs.declared.scope.Meant.TheVariants as meant
use Rattle.wg_facts.proofs.Basics.{If, less_so, so_less, at_most, some_value, if_then, if_was, if_where}
use Rattle.wg_sound.proofs.Sizes.{StructBelow, All, all_push, all_so, look_all, Below}
use Rattle.wg_sound.proofs.TextNames.{one_struct_more, less_self, SharedBelow, below_more, shared_more, shared_still, shared_longer}

-- ---- types whose structs are there

struct_below : (n : ℕ) (m : Option Meant) → If (StructBelow n) m → If (Below n) (struct_if m)
struct_below n (Some (meant.Struct number)) h = h
struct_below n (Some (meant.Constant of words known)) h = tt
struct_below n (Some (meant.Shared variable of)) h = tt
struct_below n (Some (meant.Variable variable of constant)) h = tt
struct_below n (Some (meant.Object o)) h = tt
struct_below n (Some (meant.Function number is_entry result parameters chain)) h = tt
struct_below n (Some meant.Itself) h = tt
struct_below n (Some meant.Broken) h = tt
struct_below n None h = tt

named_below : (n : ℕ) (names : List Declared) (of : TypeName) → All (StructBelow n) names → If (Below n) (named_type names of)
named_below n names (type_name.Value place (value_type.Scalar of)) h = refl
named_below n names (type_name.Value place (value_type.Vector of size)) h = refl
named_below n names (type_name.Struct name) h = struct_below n (look name.name names) (look_all (StructBelow n) name.name names h)

array_below : (n : ℕ) (t : TypeTree) (v : ConstValue) → Below n t → If (Below n) (array_of t v)
array_below n (type.Scalar of) v h = if_where (Below n) (is_positive v) _ (λ e. refl)
array_below n (type.Vector of size) v h = if_where (Below n) (is_positive v) _ (λ e. refl)
array_below n (type.Struct number) v h = if_where (Below n) (is_positive v) _ (λ e. h)
array_below n (type.Array of size) v h = tt

declared_below : (n : ℕ) (c : Context) (of : Option TypeTree) (size : Option Expr) → If (Below n) of → If (Below n) (declared_type c of size)
declared_below n c of size h = if_then (Below n) (Below n) (type_of_size c of size) _ (by_size size) (λ t i. if_where (Below n) (nat_le (words_of c.structs t) type_limit) t (λ e. i))
  where
    by_size : (size : Option Expr) → If (Below n) (type_of_size c of size)
    by_size None = h
    by_size (Some e) = if_then (Below n) (Below n) of _ h (λ t i. if_was (Below n) (size_value c e) _ (λ v j. array_below n t v i))

-- ---- texts

record TextBelow (x : Text) : Type 0 where
  names : All (StructBelow (length x.structs)) x.names
  shared : SharedBelow (length x.structs) x.shared

named : (x : Text) (name : Named) (m : Meant) → StructBelow (length x.structs) m → TextBelow x → All (StructBelow (length x.structs)) (with_name name m x).names
named x name m h s = all_push (StructBelow (length x.structs)) x.names (record { name = name; meant = m }) s.names h

or_below : (n : ℕ) (o : Option Meant) → If (StructBelow n) o → StructBelow n (unwrap_or o meant.Broken)
or_below n None h = tt
or_below n (Some m) h = h

-- a text with its total, after a declaration
record Adds (x y : Text) (words : ℕ) : Type 0 where
  below : TextBelow y
  total : shared_words y.structs y.shared ≡ shared_words x.structs x.shared + words

longer : {A : Type 0} (xs : List A) (x : A) → length (xs ++ x ∷ []) ≡ suc (length xs)
longer [] x = refl
longer (y ∷ xs) x = ap suc (longer xs x)

struct_adds : (x : Text) (name : Named) (o : Option TypedStruct) → TextBelow x → Adds x (with_struct name o x) 0
struct_adds x name None s = record { below = record { names = named x name meant.Broken tt s; shared = s.shared }; total = omega arith }
struct_adds x name (Some y) s = record {
  below = record {
    names = subst (λ n. All (StructBelow n) (x.names ++ record { name = name; meant = meant.Struct (length x.structs) } ∷ [])) (sym (longer x.structs y))
        (all_push (StructBelow (suc (length x.structs))) x.names (record { name = name; meant = meant.Struct (length x.structs) }) (all_so (StructBelow (length x.structs)) (StructBelow (suc (length x.structs))) x.names (one_struct_more (length x.structs)) s.names) (less_self (length x.structs)));
    shared = shared_longer x.structs (y ∷ []) x.shared s.shared;
  };
  total = shared_still x.structs (y ∷ []) x.shared s.shared ∙ omega arith;
}

buffer_name : (n number : ℕ) (o : Option TypedBufferType) → StructBelow n (buffer_meant number o)
buffer_name n number None = tt
buffer_name n number (Some of) = tt

shared_name : (n number : ℕ) (o : Option TypeTree) → StructBelow n (shared_meant number o)
shared_name n number None = tt
shared_name n number (Some of) = tt

constant_name : (n : ℕ) (x : Text) (of : TypeName) (e : Expr) → StructBelow n (constant_meant (outside x) of e)
constant_name n x of e = or_below n (constant_type (outside x) of e)
    (if_was (StructBelow n) (named_type x.names of) _ (λ goal a. if_was (StructBelow n) (fit goal (part (as_const (outside x)) e)) _ (λ y b. if_was (StructBelow n) (const_value (known_names x.names) e) _ (λ v d. by_goal goal v))))
  where
    by_goal : (goal : TypeTree) (v : ConstValue) → If (StructBelow n) (constant_of goal v)
    by_goal (type.Scalar of) v = tt
    by_goal (type.Vector of size) v = tt
    by_goal (type.Struct number) v = tt
    by_goal (type.Array of size) v = tt

function_name : (n number : ℕ) (c : Context) (parameters : List Parameter) (body : List Stmt) → StructBelow n (function_meant number c parameters body)
function_name n number c parameters body = or_below n (function_if number c (chain_of (events (body_sites (body_context c parameters) body))) parameters)
    (if_was (StructBelow n) (function_head c parameters) _ (λ head e. if_was (StructBelow n) (passed_in c.around head.parameters) _ (λ passed f. tt)))

shared_below : (n : ℕ) (name : Named) (o : Option TypeTree) → If (Below n) o → If (λ (s : TypedShared). Below n s.of) (shared_tree name o)
shared_below n name None h = tt
shared_below n name (Some of) h = h

declared_adds : (x : Text) (i : Item) → TextBelow x → Adds x (item_declared x i) (words_added x i)
declared_adds x (item.Struct place attributes name fields) s = struct_adds x name (struct_tree (outside x) attributes name fields) s
declared_adds x (item.Buffer coherent of name registers) s = record { below = record { names = named x name _ (buffer_name (length x.structs) (length x.buffers) (buffer_of (outside x) of)) s; shared = s.shared }; total = omega arith }
declared_adds x (item.Shared place of name size) s = record {
  below = record {
    names = named x name _ (shared_name (length x.structs) (length x.shared) (shared_type x of size)) s;
    shared = below_more (length x.structs) x.shared (shared_tree name (shared_type x of size)) s.shared
        (shared_below (length x.structs) name (shared_type x of size) (declared_below (length x.structs) (outside x) (named_type x.names of) size (named_below (length x.structs) x.names of s.names)));
  };
  total = shared_more x.structs x.shared (shared_tree name (shared_type x of size));
}
declared_adds x (item.Constant place of name e) s = record { below = record { names = named x name _ (constant_name (length x.structs) x of e) s; shared = s.shared }; total = omega arith }
declared_adds x (item.Function attributes result name parameters place body) s = record {
  below = record { names = named x name _ (function_name (length x.structs) (length x.functions) (parameter_context x attributes result name parameters) parameters body) s; shared = s.shared };
  total = omega arith;
}

totals : (items : List Item) (total : ℕ) (x : Text) → TextBelow x → shared_words x.structs x.shared ≡ total → shared_words (items_after x items).structs (items_after x items).shared ≡ total_after total x items
totals [] total x s e = e
totals (i ∷ rest) total x s e = by_test (is_among (text_names x) (item_name i).name) (λ y n s e. totals rest n y s e)
  where
    by_test : (b : Bool) → ((y : Text) (n : ℕ) → TextBelow y → shared_words y.structs y.shared ≡ n → shared_words (items_after y rest).structs (items_after y rest).shared ≡ total_after n y rest)
        → shared_words (items_after (cond b x (item_declared x i)) rest).structs (items_after (cond b x (item_declared x i)) rest).shared ≡ total_after (cond b total (total + words_added x i)) (cond b x (item_declared x i)) rest
    by_test true again = again x total s e
    by_test false again = let a = declared_adds x i s in again (item_declared x i) (total + words_added x i) a.below (a.total ∙ ap (λ n. n + words_added x i) e)

pub total_is : (before : List Item) → shared_words (items_after no_text before).structs (items_after no_text before).shared ≡ total_after 0 no_text before
total_is before = totals before 0 no_text (record { names = tt; shared = tt }) refl

-- ---- names by their first places

abbrev pub names_of : List TypedField → List (List ℕ)
names_of fields = map (λ (f : TypedField). f.name.name) fields

first_again : (own : List ℕ) (names : List (List ℕ)) (name : List ℕ) (place : ℕ) → IsFirst (own ∷ names) name (suc place) → IsFirst names name place
first_again own names name place h = record {
  own = h.own;
  there = h.there;
  same = h.same;
  least = λ n other e f. let l : suc place ≤ suc n = h.least (suc n) other e f in omega (arith, l);
}

first_new : (own : List ℕ) (names : List (List ℕ)) (name : List ℕ) (place : ℕ) → IsFirst (own ∷ names) name (suc place) → bytes_eq own name ≡ false
first_new own names name place h = by_test (bytes_eq own name) refl
  where
    by_test : (b : Bool) → bytes_eq own name ≡ b → b ≡ false
    by_test true e = let l : suc place ≤ 0 = h.least 0 own refl e in absurd (omega (arith, l))
    by_test false e = refl

found : (at : ℕ) (name : List ℕ) (fields : List TypedField) (place : ℕ) (f : TypedField) → IsFirst (names_of fields) name place → slice_get fields place ≡ Some f → field_from at name fields ≡ Some (record { number = at + place; of = f.of })
found at name [] place f h e = absurd (cc)
found at name (x ∷ rest) zero f h e =
    let same : x.name.name ≡ h.own = some_value h.there in
    ap (λ b. cond b (Some (record { number = at; of = x.of })) (field_from (suc at) name rest)) (subst (λ (n : List ℕ). bytes_eq n name ≡ true) (sym same) h.same)
    ∙ ap (λ (y : TypedField). Some (record { number = at; of = y.of })) (some_value e) ∙ ap (λ n. Some (record { number = n; of = f.of })) (omega arith)
found at name (x ∷ rest) (suc place) f h e =
    ap (λ b. cond b (Some (record { number = at; of = x.of })) (field_from (suc at) name rest)) (first_new x.name.name (names_of rest) name place h)
    ∙ found (suc at) name rest place f (first_again x.name.name (names_of rest) name place h) e ∙ ap (λ n. Some (record { number = n; of = f.of })) (omega arith)

pub field_found : (name : List ℕ) (fields : List TypedField) (place : ℕ) (f : TypedField) → IsFirst (names_of fields) name place → slice_get fields place ≡ Some f → field_from 0 name fields ≡ Some (record { number = place; of = f.of })
field_found name fields place f h e = found 0 name fields place f h e ∙ ap (λ n. Some (record { number = n; of = f.of })) (omega arith)

pub field_absent : (at : ℕ) (name : List ℕ) (fields : List TypedField) → ((n : ℕ) (other : List ℕ) → slice_get (names_of fields) n ≡ Some other → bytes_eq other name ≡ false) → field_from at name fields ≡ None
field_absent at name [] h = refl
field_absent at name (x ∷ rest) h =
    ap (λ b. cond b (Some (record { number = at; of = x.of })) (field_from (suc at) name rest)) (h 0 x.name.name refl) ∙ field_absent (suc at) name rest (λ n other e. h (suc n) other e)

not_less : (m n : ℕ) → n ≤ m → nat_lt m n ≡ false
not_less m n h = grind (arith, common_steps, h)

less_next : (m n : ℕ) → nat_lt m n ≡ nat_lt (suc m) (suc n)
less_next m n = by_test (nat_lt m n) refl
  where
    by_test : (b : Bool) → nat_lt m n ≡ b → nat_lt m n ≡ nat_lt (suc m) (suc n)
    by_test true e = let l : m < n = so_less m n e in e ∙ sym (less_so (suc m) (suc n) (omega (arith, l)))
    by_test false e = let l : n ≤ m = at_most m n e in e ∙ sym (not_less (suc m) (suc n) (omega (arith, l)))

-- whether a name stands among those before a place, from its first place
pub among_before : (names : List (List ℕ)) (name : List ℕ) (place at : ℕ) → IsFirst names name place → is_among (take at names) name ≡ nat_lt place at
among_before [] name place at h = let e = h.there in absurd (cc)
among_before (x ∷ names) name place zero h = sym (not_less place 0 (omega arith))
among_before (x ∷ names) name zero (suc at) h =
    let same : x ≡ h.own = some_value h.there in
    ap (λ b. b || is_among (take at names) name) (subst (λ (n : List ℕ). bytes_eq n name ≡ true) (sym same) h.same) ∙ sym (less_so 0 (suc at) (omega arith))
among_before (x ∷ names) name (suc place) (suc at) h =
    ap (λ b. b || is_among (take at names) name) (first_new x names name place h) ∙ among_before names name place at (first_again x names name place h) ∙ less_next place at
