-- What a text that breaks no typing rule keeps to beside being sound.
use Rattle.std.proofs.Common.{◌≡◌, ◌⊎◌, inl, inr, ℕ, zero, suc, Bool, true, false, cond, nat_lt, List, [], ◌∷◌, ◌++◌, length, map, Option, Some, None, slice_get, unwrap_or, refl, sym, ap, ◌∙◌, subst, arith, IsTrue}
use Rattle.std.specs.Str.{bytes_eq}
use Rattle.std.proofs.lemmas.Slice.Eq.{bytes_eq-Decides}
use Rattle.std.specs.Prelude.{◌||◌}
use Rattle.wg_words.specs.Characters.{is_identifier}
use Rattle.wg_words.specs.Each.{Each}
use Rattle.wg_tree.specs.declared.expr.Named.{Named}
use Rattle.wg_tree.specs.declared.expr.TypeName.{TypeName}
use Rattle.wg_tree.specs.declared.expr.Expr.{Expr}
use Rattle.wg_tree.specs.declared.item.Item.{Item}
use Rattle.wg_tree.specs.declared.item.Item.TheVariants as item
use Rattle.wg_tree.specs.declared.item.Parameter.{Parameter}
use Rattle.wg_tree.specs.declared.item.ResultType.{ResultType}
use Rattle.wg_tree.specs.declared.item.Source.{Source}
use Rattle.wg_tree.specs.declared.stmt.Attribute.{Attribute}
use Rattle.wg_tree.specs.declared.stmt.Stmt.{Stmt}
use Rattle.wg_typing.specs.AttributeArguments.{is_entry, lanes_of}
use Rattle.wg_typing.specs.Layers.{fit}
use Rattle.wg_typing.specs.Maybe.{all_of}
use Rattle.wg_typing.specs.Named.{is_among}
use Rattle.wg_typing.specs.Scope.{Context, as_const, known_names, named_type, declare, own_names, name_bytes}
use Rattle.wg_typing.specs.Sites.{In}
use Rattle.wg_typing.specs.Typing.{IsWellTyped, typed}
use Rattle.wg_typing.specs.TypingAttributes.{attributes_of}
use Rattle.wg_typing.specs.TypingBuffer.{buffer_meant, buffer_of, buffer_tree}
use Rattle.wg_typing.specs.TypingConstant.{constant_meant, constant_of, constant_type}
use Rattle.wg_typing.specs.TypingExpr.{part}
use Rattle.wg_typing.specs.TypingFunction.{body_context, first_before, function_head, function_if, function_meant, function_sites, function_tree, head_context, parameter_context, passed_in, result_if}
use Rattle.wg_typing.specs.TypingParameter.{entry_of, parameters_trees}
use Rattle.wg_typing.specs.TypingShared.{shared_meant, shared_type}
use Rattle.wg_typing.specs.TypingSoFar.{Text, outside, text_names, with_name}
use Rattle.wg_typing.specs.TypingStmt.{block_after, block_trees, walked}
use Rattle.wg_typing.specs.TypingStruct.{struct_tree, with_struct}
use Rattle.wg_typing.specs.TypingText.{item_after, item_declared, item_name, item_sites, items_after, items_sites, no_text}
use Rattle.wg_typing.specs.TypingEvents.{chain_of, events}
use Rattle.wg_typing.specs.TypingFunction.{body_sites}
use Rattle.wg_typing.specs.declared.context.Around.TheVariants as surrounding
use Rattle.wg_typing.specs.declared.scope.Declared.{Declared}
use Rattle.wg_typing.specs.declared.scope.Meant.{Meant}
use Rattle.wg_typing.specs.declared.scope.Meant.TheVariants as meant
use Rattle.wg_typing.specs.declared.so_far.FunctionHead.{FunctionHead}
use Rattle.wg_typed.specs.Constants.{const_value}
use Rattle.wg_typed.specs.declared.types.ConstValue.{ConstValue}
use Rattle.wg_typed.specs.declared.types.TypeTree.{TypeTree}
use Rattle.wg_typed.specs.declared.types.TypeTree.TheVariants as type
use Rattle.wg_typed.specs.declared.typed.Typed.{Typed}
use Rattle.wg_typed.specs.declared.typed.TypedBuffer.{TypedBuffer}
use Rattle.wg_typed.specs.declared.typed.TypedBufferType.{TypedBufferType}
use Rattle.wg_typed.specs.declared.typed.TypedEntry.{TypedEntry}
use Rattle.wg_typed.specs.declared.typed.TypedFunction.{TypedFunction}
use Rattle.wg_typed.specs.declared.typed.TypedParameter.{TypedParameter}
use Rattle.wg_typed.specs.declared.typed.TypedStruct.{TypedStruct}
use Rattle.wg_facts.specs.Tests.{every}
use Rattle.wg_facts.proofs.Basics.{If, and_left, and_right, if_then, if_was, less_so, or_right, some_value, then_some}
use Rattle.wg_facts.proofs.Lists.{all_at, pushed}
use Rattle.wg_facts.proofs.Sited.{Well, well_left, well_right}
use Rattle.wg_shapes.specs.ShapeOf.{buffer_name}
use Rattle.wg_attribute_limits.specs.Beside.{KeepsBeside}
use Rattle.wg_attribute_limits.specs.ItemNames.{names_are_spelled}
use Rattle.wg_attribute_limits.proofs.Fitting.{AllFit, IsKnown, MeantBelow, NamesFit, all_fit_at, all_fit_longer, names_longer, names_pushed, parameters_fit}

-- ---- lists

in_pushed : {A : Type 0} (xs : List A) (x y : A) → In xs y → In (xs ++ x ∷ []) y
in_pushed [] x y i = absurd i
in_pushed (z ∷ xs) x y (inl e) = inl e
in_pushed (z ∷ xs) x y (inr r) = inr (in_pushed xs x y r)

in_last : {A : Type 0} (xs : List A) (x : A) → In (xs ++ x ∷ []) x
in_last [] x = inl refl
in_last (z ∷ xs) x = inr (in_last xs x)

in_among : (xs : List (List ℕ)) (name : List ℕ) → In xs name → is_among xs name ≡ true
in_among [] name i = absurd i
in_among (x ∷ xs) name (inl e) = ap (λ (b : Bool). b || is_among xs name) ((bytes_eq-Decides x name).1 e)
in_among (x ∷ xs) name (inr r) = or_right (bytes_eq x name) (is_among xs name) (in_among xs name r)

-- one of a list that is one longer is one of the list, or the last
last_or : {A : Type 0} (xs : List A) (x : A) (n : ℕ) (y : A) → slice_get (xs ++ x ∷ []) n ≡ Some y → (slice_get xs n ≡ Some y) ⊎ ((n ≡ length xs) × (x ≡ y))
last_or [] x zero y e = inr (refl, some_value e)
last_or [] x (suc n) y e = absurd (cc)
last_or (z ∷ xs) x zero y e = inl e
last_or (z ∷ xs) x (suc n) y e = further (last_or xs x n y e)
  where
    further : (slice_get xs n ≡ Some y) ⊎ ((n ≡ length xs) × (x ≡ y)) → (slice_get xs n ≡ Some y) ⊎ ((suc n ≡ suc (length xs)) × (x ≡ y))
    further (inl h) = inl h
    further (inr h) = inr (ap suc h.0, h.1)

names_after : (names : List Declared) (d : Declared) → map name_bytes (names ++ d ∷ []) ≡ map name_bytes names ++ d.name.name ∷ []
names_after [] d = refl
names_after (x ∷ names) d = ap (λ xs. x.name.name ∷ xs) (names_after names d)

-- ---- functions

record FunctionKeeps (structs : List TypedStruct) (f : TypedFunction) : Type 0 where
  pub entry : (e : TypedEntry) → f.entry ≡ Some e → is_entry f.attributes ≡ true
  pub name : is_identifier f.name.name ≡ true
  pub fits : AllFit structs f.parameters

if_weaker : {A : Type 0} (p q : A → Type 0) (o : Option A) → ((a : A) → p a → q a) → If p o → If q o
if_weaker p q None f h = tt
if_weaker p q (Some a) f h = f a h

function_longer : (structs : List TypedStruct) (s : TypedStruct) (f : TypedFunction) → FunctionKeeps structs f → FunctionKeeps (structs ++ s ∷ []) f
function_longer structs s f h = record { entry = h.entry; name = h.name; fits = all_fit_longer structs s f.parameters h.fits }

entry_so : (b : Bool) (lanes : ℕ) (ps : List TypedParameter) (e : TypedEntry) → entry_of (cond b (surrounding.Entry lanes) surrounding.Plain) ps ≡ Some e → b ≡ true
entry_so true lanes ps e h = refl
entry_so false lanes ps e h = absurd (cc)

-- the context of a function's own name, where that is known before or is not
abbrev named_if : Text → Named → List Parameter → Bool → Context
named_if x name parameters t = cond t (head_context x parameters) (declare name meant.Itself (head_context x parameters))

abbrev inside_if : Text → List Attribute → ResultType → Named → List Parameter → Bool → Context
inside_if x attributes result name parameters t = record (named_if x name parameters t) {
  start = length (named_if x name parameters t).names;
  around = (parameter_context x attributes result name parameters).around;
  returns = (parameter_context x attributes result name parameters).returns;
}

known_if : (x : Text) (attributes : List Attribute) (result : ResultType) (name : Named) (parameters : List Parameter) → NamesFit (length x.structs) x.names → (t : Bool) → IsKnown x.structs (inside_if x attributes result name parameters t)
known_if x attributes result name parameters h true = record { structs_are = refl; names = h }
known_if x attributes result name parameters h false = record { structs_are = refl; names = names_pushed (length x.structs) x.names (record { name = name; meant = meant.Itself }) h tt }

known_inside : (x : Text) (attributes : List Attribute) (result : ResultType) (name : Named) (parameters : List Parameter) → NamesFit (length x.structs) x.names → IsKnown x.structs (parameter_context x attributes result name parameters)
known_inside x attributes result name parameters h = known_if x attributes result name parameters h (is_among (own_names (head_context x parameters)) name.name)

head_fits : (structs : List TypedStruct) (c : Context) (parameters : List Parameter) → If (AllFit structs) (parameters_trees first_before parameters c) → If (λ (h : FunctionHead). AllFit structs h.parameters) (function_head c parameters)
head_fits structs c parameters h = if_was (λ (h : FunctionHead). AllFit structs h.parameters) (result_if c.returns) _ (λ r e.
    if_then (AllFit structs) (λ (h : FunctionHead). AllFit structs h.parameters) (parameters_trees first_before parameters c) _ h (λ ps k. k))

function_keeps : (x : Text) (attributes : List Attribute) (result : ResultType) (name : Named) (parameters : List Parameter) (body : List Stmt) → is_identifier name.name ≡ true → NamesFit (length x.structs) x.names
    → Well (function_sites x attributes result name parameters body)
    → If (FunctionKeeps x.structs) (function_tree (head_context x parameters) (parameter_context x attributes result name parameters) attributes name parameters body)
function_keeps x attributes result name parameters body spelled names w =
    let c = parameter_context x attributes result name parameters in
    let fits = parameters_fit x.structs parameters first_before c (known_inside x attributes result name parameters names) (well_left (well_right (well_right (well_right w)))) in
    if_then (λ (h : FunctionHead). AllFit x.structs h.parameters) (FunctionKeeps x.structs) (function_head c parameters) _ (head_fits x.structs c parameters fits) (λ head k.
    if_was (FunctionKeeps x.structs) (block_trees (map walked body) (body_context c parameters)) _ (λ statements e.
    if_was (FunctionKeeps x.structs) (all_of (block_after (map walked body) (body_context c parameters)).handles) _ (λ handles g. record {
      entry = λ entry q. entry_so (is_entry (attributes_of (head_context x parameters) attributes)) (lanes_of (attributes_of (head_context x parameters) attributes)) head.parameters entry q;
      name = spelled;
      fits = k;
    })))

-- ---- buffers

record BufferKeeps (names : List (List ℕ)) (b : TypedBuffer) : Type 0 where
  pub spelled : is_identifier b.name.name ≡ true
  pub known : In names b.name.name

buffer_longer : (names : List (List ℕ)) (name : List ℕ) (b : TypedBuffer) → BufferKeeps names b → BufferKeeps (names ++ name ∷ []) b
buffer_longer names name b h = record { spelled = h.spelled; known = in_pushed names name b.name.name h.known }

-- ---- texts

record TextKeeps (x : Text) : Type 0 where
  pub names : NamesFit (length x.structs) x.names
  pub functions : (n : ℕ) (o : Option TypedFunction) → slice_get x.functions n ≡ Some o → If (FunctionKeeps x.structs) o
  pub buffers : (n : ℕ) (o : Option TypedBuffer) → slice_get x.buffers n ≡ Some o → If (BufferKeeps (text_names x)) o
  pub differ : (i j : ℕ) (a b : TypedBuffer) → slice_get x.buffers i ≡ Some (Some a) → slice_get x.buffers j ≡ Some (Some b) → a.name.name ≡ b.name.name → i ≡ j

-- one name more, which is no struct's
named_keeps : (x : Text) (name : Named) (m : Meant) → MeantBelow (length x.structs) m → TextKeeps x → TextKeeps (with_name name m x)
named_keeps x name m h k =
    let d : Declared = record { name = name; meant = m } in
    record {
      names = names_pushed (length x.structs) x.names d k.names h;
      functions = k.functions;
      buffers = λ n o e. subst (λ ns. If (BufferKeeps ns) o) (sym (names_after x.names d)) (if_weaker (BufferKeeps (text_names x)) (BufferKeeps (text_names x ++ name.name ∷ [])) o (buffer_longer (text_names x) name.name) (k.buffers n o e));
      differ = k.differ;
    }

longer : {A : Type 0} (xs : List A) (x : A) → length (xs ++ x ∷ []) ≡ suc (length xs)
longer [] x = refl
longer (y ∷ xs) x = ap suc (longer xs x)

struct_keeps : (x : Text) (name : Named) (o : Option TypedStruct) → TextKeeps x → TextKeeps (with_struct name o x)
struct_keeps x name None k = named_keeps x name meant.Broken tt k
struct_keeps x name (Some s) k =
    let d : Declared = record { name = name; meant = meant.Struct (length x.structs) } in
    let one : length (x.structs ++ s ∷ []) ≡ suc (length x.structs) = longer x.structs s in
    record {
      names = subst (λ n. NamesFit n (x.names ++ d ∷ [])) (sym one) (names_pushed (suc (length x.structs)) x.names d (names_longer (length x.structs) x.names k.names) (below (length x.structs)));
      functions = λ n o e. if_weaker (FunctionKeeps x.structs) (FunctionKeeps (x.structs ++ s ∷ [])) o (function_longer x.structs s) (k.functions n o e);
      buffers = λ n o e. subst (λ ns. If (BufferKeeps ns) o) (sym (names_after x.names d)) (if_weaker (BufferKeeps (text_names x)) (BufferKeeps (text_names x ++ name.name ∷ [])) o (buffer_longer (text_names x) name.name) (k.buffers n o e));
      differ = k.differ;
    }
  where
    below : (n : ℕ) → nat_lt n (suc n) ≡ true
    below n = less_so n (suc n) (omega arith)

buffer_below : (n : ℕ) (number : ℕ) (o : Option TypedBufferType) → MeantBelow n (buffer_meant number o)
buffer_below n number None = tt
buffer_below n number (Some of) = tt

buffer_named : (name : Named) (o : Option TypedBufferType) (b : TypedBuffer) → buffer_tree name o ≡ Some b → b.name ≡ name
buffer_named name None b e = absurd (cc)
buffer_named name (Some of) b e = ap (λ (y : TypedBuffer). y.name) (sym (some_value e))

buffer_keeps_name : (x : Text) (name : Named) (o : Option TypedBufferType) (d : Declared) → d.name ≡ name → is_identifier name.name ≡ true → If (BufferKeeps (map name_bytes (x.names ++ d ∷ []))) (buffer_tree name o)
buffer_keeps_name x name None d q h = tt
buffer_keeps_name x name (Some of) d q h =
    record { spelled = h; known = subst (λ ns. In ns name.name) (sym (names_after x.names d)) (subst (λ (n : Named). In (text_names x ++ n.name ∷ []) name.name) (sym q) (in_last (text_names x) name.name)) }

-- a name that is new is that of no buffer
new_name : (x : Text) → TextKeeps x → (name : List ℕ) → is_among (text_names x) name ≡ false → (n : ℕ) (a : TypedBuffer) → slice_get x.buffers n ≡ Some (Some a) → a.name.name ≡ name → ⊥
new_name x k name fresh n a e q =
    let known : In (text_names x) name = subst (In (text_names x)) q (k.buffers n (Some a) e).known in
    let t : is_among (text_names x) name ≡ true = in_among (text_names x) name known in
    absurd (cc)

buffer_keeps : (x : Text) (name : Named) (o : Option TypedBufferType) → is_identifier name.name ≡ true → is_among (text_names x) name.name ≡ false → TextKeeps x
    → TextKeeps (record (with_name name (buffer_meant (length x.buffers) o) x) { buffers = x.buffers ++ buffer_tree name o ∷ [] })
buffer_keeps x name o spelled fresh k =
    let d : Declared = record { name = name; meant = buffer_meant (length x.buffers) o } in
    let n = named_keeps x name (buffer_meant (length x.buffers) o) (buffer_below (length x.structs) (length x.buffers) o) k in
    record {
      names = n.names;
      functions = n.functions;
      buffers = pushed (λ m p. If (BufferKeeps (map name_bytes (x.names ++ d ∷ []))) p) x.buffers (buffer_tree name o) n.buffers (buffer_keeps_name x name o d refl spelled);
      differ = λ i j a b p q same. two i j a b same (last_or x.buffers (buffer_tree name o) i (Some a) p) (last_or x.buffers (buffer_tree name o) j (Some b) q);
    }
  where
    two : (i j : ℕ) (a b : TypedBuffer) → a.name.name ≡ b.name.name → (slice_get x.buffers i ≡ Some (Some a)) ⊎ ((i ≡ length x.buffers) × (buffer_tree name o ≡ Some a))
        → (slice_get x.buffers j ≡ Some (Some b)) ⊎ ((j ≡ length x.buffers) × (buffer_tree name o ≡ Some b)) → i ≡ j
    two i j a b same (inl p) (inl q) = k.differ i j a b p q same
    two i j a b same (inl p) (inr q) = absurd (new_name x k name.name fresh i a p (same ∙ ap (λ (n : Named). n.name) (buffer_named name o b q.1)))
    two i j a b same (inr p) (inl q) = absurd (new_name x k name.name fresh j b q (sym same ∙ ap (λ (n : Named). n.name) (buffer_named name o a p.1)))
    two i j a b same (inr p) (inr q) = p.0 ∙ sym q.0

shared_below : (n : ℕ) (number : ℕ) (o : Option TypeTree) → MeantBelow n (shared_meant number o)
shared_below n number None = tt
shared_below n number (Some of) = tt

or_broken : (n : ℕ) (o : Option Meant) → If (MeantBelow n) o → MeantBelow n (unwrap_or o meant.Broken)
or_broken n None h = tt
or_broken n (Some m) h = h

constant_of_below : (n : ℕ) (goal : TypeTree) (v : ConstValue) → If (MeantBelow n) (constant_of goal v)
constant_of_below n (type.Scalar of) v = tt
constant_of_below n (type.Vector of size) v = tt
constant_of_below n (type.Struct number) v = tt
constant_of_below n (type.Array of size) v = tt

constant_below : (n : ℕ) (c : Context) (of : TypeName) (e : Expr) → MeantBelow n (constant_meant c of e)
constant_below n c of e = or_broken n (constant_type c of e) (if_was (MeantBelow n) (named_type c.names of) _ (λ goal a.
    if_was (MeantBelow n) (fit goal (part (as_const c) e)) _ (λ y b. if_was (MeantBelow n) (const_value (known_names c.names) e) _ (λ v d. constant_of_below n goal v))))

function_below : (n number : ℕ) (c : Context) (parameters : List Parameter) (body : List Stmt) → MeantBelow n (function_meant number c parameters body)
function_below n number c parameters body =
    or_broken n (function_if number c (chain_of (events (body_sites (body_context c parameters) body))) parameters)
    (if_was (MeantBelow n) (function_head c parameters) _ (λ h a. if_was (MeantBelow n) (passed_in c.around h.parameters) _ (λ passed b. tt)))

declared_keeps : (x : Text) (i : Item) → is_identifier (item_name i).name ≡ true → is_among (text_names x) (item_name i).name ≡ false → Well (item_sites x i) → TextKeeps x → TextKeeps (item_declared x i)
declared_keeps x (item.Struct place attributes name fields) spelled fresh w k = struct_keeps x name (struct_tree (outside x) attributes name fields) k
declared_keeps x (item.Buffer coherent of name registers) spelled fresh w k = buffer_keeps x name (buffer_of (outside x) of) spelled fresh k
declared_keeps x (item.Shared place of name size) spelled fresh w k =
    let n = named_keeps x name (shared_meant (length x.shared) (shared_type x of size)) (shared_below (length x.structs) (length x.shared) (shared_type x of size)) k in
    record { names = n.names; functions = n.functions; buffers = n.buffers; differ = n.differ }
declared_keeps x (item.Constant place of name e) spelled fresh w k = named_keeps x name (constant_meant (outside x) of e) (constant_below (length x.structs) (outside x) of e) k
declared_keeps x (item.Function attributes result name parameters place body) spelled fresh w k =
    let c = parameter_context x attributes result name parameters in
    let n = named_keeps x name (function_meant (length x.functions) c parameters body) (function_below (length x.structs) (length x.functions) c parameters body) k in
    record {
      names = n.names;
      functions = pushed (λ m o. If (FunctionKeeps x.structs) o) x.functions (function_tree (head_context x parameters) c attributes name parameters body) k.functions (function_keeps x attributes result name parameters body spelled k.names w);
      buffers = n.buffers;
      differ = n.differ;
    }

item_keeps : (x : Text) (i : Item) → is_identifier (item_name i).name ≡ true → Well (item_sites x i) → TextKeeps x → TextKeeps (item_after x i)
item_keeps x i spelled w k = by_test (is_among (text_names x) (item_name i).name) refl
  where
    by_test : (b : Bool) → is_among (text_names x) (item_name i).name ≡ b → TextKeeps (cond b x (item_declared x i))
    by_test true e = k
    by_test false e = declared_keeps x i spelled e w k

items_keep : (items : List Item) (x : Text) → every (λ (i : Item). is_identifier (item_name i).name) items ≡ true → Well (items_sites x items) → TextKeeps x → TextKeeps (items_after x items)
items_keep [] x spelled w k = k
items_keep (i ∷ rest) x spelled w k =
    items_keep rest (item_after x i) (and_right (is_identifier (item_name i).name) (every (λ (i : Item). is_identifier (item_name i).name) rest) spelled) (well_right w)
    (item_keeps x i (and_left (is_identifier (item_name i).name) (every (λ (i : Item). is_identifier (item_name i).name) rest) spelled) (well_left w) k)

nothing_keeps : TextKeeps no_text
nothing_keeps = record { names = tt; functions = λ n o e. absurd (cc); buffers = λ n o e. absurd (cc); differ = λ i j a b e f same. absurd (cc) }

-- ---- what is left of a text

names_each : (bs : List TypedBuffer) → ((n : ℕ) (b : TypedBuffer) → slice_get bs n ≡ Some b → is_identifier b.name.name ≡ true) → Each (λ name. IsTrue (is_identifier name)) (map buffer_name bs)
names_each [] h = tt
names_each (b ∷ rest) h = (h 0 b refl, names_each rest (λ n c e. h (suc n) c e))

named_at : (bs : List TypedBuffer) (n : ℕ) (name : List ℕ) → slice_get (map buffer_name bs) n ≡ Some name → (b : TypedBuffer) × (slice_get bs n ≡ Some b) × (b.name.name ≡ name)
named_at [] n name e = absurd (cc)
named_at (b ∷ rest) zero name e = (b, refl, some_value e)
named_at (b ∷ rest) (suc n) name e = named_at rest n name e

pub text_keeps : (tree : Source) (t : Typed) → names_are_spelled tree ≡ true → IsWellTyped tree → typed tree ≡ Some t → KeepsBeside t
text_keeps tree t spelled well e =
    let x = items_after no_text tree.items in
    let a = then_some (all_of x.buffers) _ t e in
    let b = then_some (all_of x.shared) _ t a.2 in
    let c = then_some (all_of x.functions) _ t b.2 in
    let q = some_value c.2 in
    let buffers : all_of x.buffers ≡ Some t.buffers = a.1 ∙ ap (λ (y : Typed). Some y.buffers) q in
    let functions : all_of x.functions ≡ Some t.functions = c.1 ∙ ap (λ (y : Typed). Some y.functions) q in
    let structs : x.structs ≡ t.structs = ap (λ (y : Typed). y.structs) q in
    let k = items_keep tree.items no_text spelled (record { well = well.unbroken }) nothing_keeps in
    record {
      entries = λ number f entry at. (k.functions number (Some f) (all_at x.functions t.functions number f functions at)).entry entry;
      function_names = λ number f at. (k.functions number (Some f) (all_at x.functions t.functions number f functions at)).name;
      buffer_names = names_each t.buffers (λ n y at. (k.buffers n (Some y) (all_at x.buffers t.buffers n y buffers at)).spelled);
      buffers_differ = λ i j name p r.
          let y = named_at t.buffers i name p in
          let z = named_at t.buffers j name r in
          k.differ i j y.0 z.0 (all_at x.buffers t.buffers i y.0 buffers y.1) (all_at x.buffers t.buffers j z.0 buffers z.1) (y.2 ∙ sym z.2);
      records = λ number place f p at there. all_fit_at t.structs f.parameters place p (subst (λ ss. AllFit ss f.parameters) structs (k.functions number (Some f) (all_at x.functions t.functions number f functions at)).fits) there;
    }
