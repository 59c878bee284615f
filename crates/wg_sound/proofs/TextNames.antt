-- Texts that grow, what their names stand for, and their limits.
use Rattle.std.proofs.Common.{◌≡◌, ◌+◌, ℕ, suc, Bool, true, false, cond, List, [], ◌∷◌, ◌++◌, length, Option, Some, None, refl, sym, ap, ◌∙◌, subst, arith}
use Rattle.std.specs.Prelude.{nat_lt, slice_get}
use Rattle.std.specs.Option.{unwrap_or}
use Rattle.std.proofs.lemmas.Grind.{common_steps}
use Rattle.wg_words.specs.Each.{Each}
use Rattle.wg_typing.specs.AttributeArguments.{is_entry}
use Rattle.wg_typing.specs.Conversions.{same_type}
use Rattle.wg_typing.specs.Maybe.{all_of}
use Rattle.wg_typing.specs.TypingBuffer.{buffer_limit, buffer_of, buffer_tree}
use Rattle.wg_typing.specs.TypingConstant.{constant_of}
use Rattle.wg_typing.specs.TypingFunction.{head_context, parameter_context, function_tree, passed_of}
use Rattle.wg_typing.specs.TypingShared.{shared_size, shared_words, shared_type, shared_tree}
use Rattle.wg_typing.specs.TypingSoFar.{Text, outside, text_names}
use Rattle.wg_typing.specs.TypingStruct.{struct_tree, with_struct}
use Rattle.wg_typing.specs.TypingText.{item_declared, item_name, item_after, items_after}
use Rattle.wg_typed.specs.Constants.{const_scalar, const_number}
use Rattle.wg_typed.specs.Layout.{words_of, NamesBelow}
use Rattle.wg_sound.specs.StandingTypes.{are_words, names_below}
use Rattle.wg_sound.specs.Room.{is_node}
use Rattle.wg_facts.specs.Tests.{test, every}
use Rattle.wg_tree.specs.declared.expr.Named.{Named}
use Rattle.wg_tree.specs.declared.item.Item.{Item}
use Rattle.wg_tree.specs.declared.item.Item.TheVariants as item
use Rattle.wg_typed.specs.declared.types.ConstValue.{ConstValue}
use Rattle.wg_typed.specs.declared.types.ElementType.TheVariants as element
use Rattle.wg_typed.specs.declared.types.TypeTree.{TypeTree}
use Rattle.wg_typed.specs.declared.types.TypeTree.TheVariants as type
use Rattle.wg_typed.specs.declared.typed.Typed.{Typed}
use Rattle.wg_typed.specs.declared.typed.TypedBuffer.{TypedBuffer}
use Rattle.wg_typed.specs.declared.typed.TypedFunction.{TypedFunction}
use Rattle.wg_typed.specs.declared.typed.TypedShared.{TypedShared}
use Rattle.wg_typed.specs.declared.typed.TypedStruct.{TypedStruct}
use Rattle.wg_typing.specs.declared.scope.Declared.{Declared}
use Rattle.wg_typing.specs.declared.scope.FormalParameter.{FormalParameter}
use Rattle.wg_typing.specs.declared.scope.Meant.{Meant}
use Rattle.wg_typing.specs.declared.scope.Meant.TheVariants as meant
use Rattle.wg_typing.specs.declared.scope.Object.TheVariants as object
use Rattle.wg_facts.proofs.Basics.{all_first, and_then, If, and_left, and_right, some_value, so_less}
use Rattle.wg_sound.proofs.Meanings.{Agrees, AllAgree}
use Rattle.wg_facts.proofs.Lists.{nothing_more, joined}
use Rattle.wg_sound.proofs.Sizes.{less_longer, StructBelow, All, words_same}
use Rattle.wg_typing.specs.Named.{is_among}
use Rattle.std.specs.Prelude.{sum_by}
use Rattle.std.proofs.lemmas.List.Sums.{sum_by-cons}
use Rattle.wg_sound.proofs.Operated.{converted_words, filled_words}

-- ---- texts that grow

pub record TextGrows (x y : Text) : Type 0 where
  pub structs : (more : List TypedStruct) × (y.structs ≡ x.structs ++ more)
  pub buffers : (more : List (Option TypedBuffer)) × (y.buffers ≡ x.buffers ++ more)
  pub shared : (more : List (Option TypedShared)) × (y.shared ≡ x.shared ++ more)
  pub functions : (more : List (Option TypedFunction)) × (y.functions ≡ x.functions ++ more)

pub struct_grows : (name : Named) (o : Option TypedStruct) (x : Text) → TextGrows x (with_struct name o x)
struct_grows name None x = record { structs = ([], nothing_more x.structs); buffers = ([], nothing_more x.buffers); shared = ([], nothing_more x.shared); functions = ([], nothing_more x.functions) }
struct_grows name (Some s) x = record { structs = (s ∷ [], refl); buffers = ([], nothing_more x.buffers); shared = ([], nothing_more x.shared); functions = ([], nothing_more x.functions) }

pub declared_grows : (x : Text) (i : Item) → TextGrows x (item_declared x i)
declared_grows x (item.Struct place attributes name fields) = struct_grows name (struct_tree (outside x) attributes name fields) x
declared_grows x (item.Buffer coherent of name registers) = record { structs = ([], nothing_more x.structs); buffers = (buffer_tree name (buffer_of (outside x) of) ∷ [], refl); shared = ([], nothing_more x.shared); functions = ([], nothing_more x.functions) }
declared_grows x (item.Shared place of name size) = record { structs = ([], nothing_more x.structs); buffers = ([], nothing_more x.buffers); shared = (shared_tree name (shared_type x of size) ∷ [], refl); functions = ([], nothing_more x.functions) }
declared_grows x (item.Constant place of name e) = record { structs = ([], nothing_more x.structs); buffers = ([], nothing_more x.buffers); shared = ([], nothing_more x.shared); functions = ([], nothing_more x.functions) }
declared_grows x (item.Function attributes result name parameters place body) = record {
  structs = ([], nothing_more x.structs);
  buffers = ([], nothing_more x.buffers);
  shared = ([], nothing_more x.shared);
  functions = (function_tree (head_context x parameters) (parameter_context x attributes result name parameters) attributes name parameters body ∷ [], refl);
}

pub item_grows : (x : Text) (i : Item) → TextGrows x (item_after x i)
item_grows x i = by_test (is_among (text_names x) (item_name i).name)
  where
    by_test : (b : Bool) → TextGrows x (cond b x (item_declared x i))
    by_test true = record { structs = ([], nothing_more x.structs); buffers = ([], nothing_more x.buffers); shared = ([], nothing_more x.shared); functions = ([], nothing_more x.functions) }
    by_test false = declared_grows x i

pub text_then : (x y z : Text) → TextGrows x y → TextGrows y z → TextGrows x z
text_then x y z g h = record {
  structs = (g.structs.0 ++ h.structs.0, h.structs.1 ∙ ap (λ xs. xs ++ h.structs.0) g.structs.1 ∙ joined x.structs g.structs.0 h.structs.0);
  buffers = (g.buffers.0 ++ h.buffers.0, h.buffers.1 ∙ ap (λ xs. xs ++ h.buffers.0) g.buffers.1 ∙ joined x.buffers g.buffers.0 h.buffers.0);
  shared = (g.shared.0 ++ h.shared.0, h.shared.1 ∙ ap (λ xs. xs ++ h.shared.0) g.shared.1 ∙ joined x.shared g.shared.0 h.shared.0);
  functions = (g.functions.0 ++ h.functions.0, h.functions.1 ∙ ap (λ xs. xs ++ h.functions.0) g.functions.1 ∙ joined x.functions g.functions.0 h.functions.0);
}

pub items_grow : (x : Text) (items : List Item) → TextGrows x (items_after x items)
items_grow x [] = record { structs = ([], nothing_more x.structs); buffers = ([], nothing_more x.buffers); shared = ([], nothing_more x.shared); functions = ([], nothing_more x.functions) }
items_grow x (i ∷ rest) = text_then x (item_after x i) _ (item_grows x i) (items_grow (item_after x i) rest)

-- ---- names

pub record TextFunction (t : Typed) (n number : ℕ) (gives : Option TypeTree) (parameters : List FormalParameter) : Type 0 where
  pub function : TypedFunction
  pub before : nat_lt number n ≡ true
  pub at : slice_get t.functions number ≡ Some function
  pub plain : is_node function ≡ false
  pub result : function.result ≡ gives
  pub passed : passed_of function.parameters ≡ Some parameters

-- what a name of the text stands for, of which so many functions are declared
abbrev pub TextAgrees : Typed → ℕ → Meant → Type 0
TextAgrees t n (meant.Struct number) = nat_lt number (length t.structs) ≡ true
TextAgrees t n (meant.Constant of words known) = are_words words of ≡ true
TextAgrees t n (meant.Shared variable of) = test (λ (s : TypedShared). same_type s.of of) (slice_get t.shared variable) ≡ true
TextAgrees t n (meant.Variable variable of constant) = ⊥
TextAgrees t n (meant.Object (object.Buffer number of)) = and_then (slice_get t.buffers number) (λ (b : TypedBuffer). Some b.of) ≡ Some of
TextAgrees t n (meant.Object (object.Input many record_type s sharing)) = ⊥
TextAgrees t n (meant.Object (object.Output output array record_type)) = ⊥
TextAgrees t n (meant.Object (object.Handle handle record_type)) = ⊥
TextAgrees t n (meant.Function number true result parameters chain) = Unit {0}
TextAgrees t n (meant.Function number false result parameters chain) = TextFunction t n number result parameters
TextAgrees t n meant.Itself = Unit {0}
TextAgrees t n meant.Broken = Unit {0}

pub in_function : (t : Typed) (n : ℕ) (f : TypedFunction) (m : Meant) → TextAgrees t n m → Agrees (record { text = t; function = f; number = n }) m
in_function t n f (meant.Struct number) h = h
in_function t n f (meant.Constant of words known) h = h
in_function t n f (meant.Shared variable of) h = h
in_function t n f (meant.Variable variable of constant) h = absurd h
in_function t n f (meant.Object (object.Buffer number of)) h = h
in_function t n f (meant.Object (object.Input many record_type s sharing)) h = absurd h
in_function t n f (meant.Object (object.Output output array record_type)) h = absurd h
in_function t n f (meant.Object (object.Handle handle record_type)) h = absurd h
in_function t n f (meant.Function number true result parameters chain) h = tt
in_function t n f (meant.Function number false result parameters chain) h = record { function = h.function; before = h.before; at = h.at; plain = h.plain; result = h.result; passed = h.passed }
in_function t n f meant.Itself h = tt
in_function t n f meant.Broken h = tt

pub agree_all : (t : Typed) (n : ℕ) (f : TypedFunction) (names : List Declared) → All (TextAgrees t n) names → AllAgree (record { text = t; function = f; number = n }) names
agree_all t n f [] h = tt
agree_all t n f (d ∷ rest) h = (in_function t n f d.meant h.0, agree_all t n f rest h.1)

pub less_more : (a b : ℕ) → nat_lt a b ≡ true → nat_lt a (suc b) ≡ true
less_more a b e = grind (arith, common_steps, e)

pub less_self : (n : ℕ) → nat_lt n (suc n) ≡ true
less_self n = grind (arith, common_steps)

pub one_function_more : (t : Typed) (n : ℕ) (m : Meant) → TextAgrees t n m → TextAgrees t (suc n) m
one_function_more t n (meant.Struct number) h = h
one_function_more t n (meant.Constant of words known) h = h
one_function_more t n (meant.Shared variable of) h = h
one_function_more t n (meant.Variable variable of constant) h = h
one_function_more t n (meant.Object (object.Buffer number of)) h = h
one_function_more t n (meant.Object (object.Input many record_type s sharing)) h = h
one_function_more t n (meant.Object (object.Output output array record_type)) h = h
one_function_more t n (meant.Object (object.Handle handle record_type)) h = h
one_function_more t n (meant.Function number true result parameters chain) h = tt
one_function_more t n (meant.Function number false result parameters chain) h = record { function = h.function; before = less_more number n h.before; at = h.at; plain = h.plain; result = h.result; passed = h.passed }
one_function_more t n meant.Itself h = tt
one_function_more t n meant.Broken h = tt

pub one_struct_more : (n : ℕ) (m : Meant) → StructBelow n m → StructBelow (suc n) m
one_struct_more n (meant.Struct number) h = less_more number n h
one_struct_more n (meant.Constant of words known) h = tt
one_struct_more n (meant.Shared variable of) h = tt
one_struct_more n (meant.Variable variable of constant) h = tt
one_struct_more n (meant.Object o) h = tt
one_struct_more n (meant.Function number is_entry result parameters chain) h = tt
one_struct_more n meant.Itself h = tt
one_struct_more n meant.Broken h = tt

pub structs_of_text : (t : Typed) (n : ℕ) (m : Meant) → TextAgrees t n m → StructBelow (length t.structs) m
structs_of_text t n (meant.Struct number) h = h
structs_of_text t n (meant.Constant of words known) h = tt
structs_of_text t n (meant.Shared variable of) h = tt
structs_of_text t n (meant.Variable variable of constant) h = tt
structs_of_text t n (meant.Object o) h = tt
structs_of_text t n (meant.Function number is_entry result parameters chain) h = tt
structs_of_text t n meant.Itself h = tt
structs_of_text t n meant.Broken h = tt

-- ---- structs

pub below_is : (n : ℕ) (t : TypeTree) → names_below n t ≡ true → NamesBelow n t
below_is n (type.Scalar of) h = tt
below_is n (type.Vector of size) h = tt
below_is n (type.Struct number) h = so_less number n h
below_is n (type.Array (element.Scalar of) size) h = tt
below_is n (type.Array (element.Vector of count) size) h = tt
below_is n (type.Array (element.Struct number) size) h = so_less number n h

pub all_below : (n : ℕ) (types : List TypeTree) → every (names_below n) types ≡ true → Each (NamesBelow n) types
all_below n [] h = tt
all_below n (t ∷ rest) h = (below_is n t (and_left (names_below n t) _ h), all_below n rest (and_right (names_below n t) _ h))

-- ---- constants

pub constant_agrees : (t : Typed) (n : ℕ) (goal : TypeTree) (v : ConstValue) → If (TextAgrees t n) (constant_of goal v)
constant_agrees t n (type.Scalar of) v = converted_words (const_scalar v) of (const_number v)
constant_agrees t n (type.Vector of size) v = filled_words (const_scalar v) of (const_number v) size
constant_agrees t n (type.Struct number) v = tt
constant_agrees t n (type.Array of size) v = tt

pub or_broken : (t : Typed) (n : ℕ) (o : Option Meant) → If (TextAgrees t n) o → TextAgrees t n (unwrap_or o meant.Broken)
or_broken t n None h = tt
or_broken t n (Some m) h = h

pub same_last : (m n : ℕ) → nat_lt n (suc m) ≡ true → nat_lt n m ≡ false → m ≡ n
same_last m n e f = grind (arith, common_steps, e, f)

pub last_or : (p : ℕ → Type 0) (m : ℕ) → ((n : ℕ) → nat_lt n m ≡ true → p n) → p m → (n : ℕ) → nat_lt n (suc m) ≡ true → p n
last_or p m h k n e = picked (nat_lt n m) refl
  where
    picked : (b : Bool) → nat_lt n m ≡ b → p n
    picked true f = h n f
    picked false f = subst p (same_last m n e f) k

-- ---- limits

abbrev pub SharedBelow : ℕ → List (Option TypedShared) → Type 0
SharedBelow n [] = Unit {0}
SharedBelow n (o ∷ rest) = If (λ (s : TypedShared). names_below n s.of ≡ true) o × SharedBelow n rest

pub below_more : (n : ℕ) (xs : List (Option TypedShared)) (o : Option TypedShared) → SharedBelow n xs → If (λ (s : TypedShared). names_below n s.of ≡ true) o → SharedBelow n (xs ++ o ∷ [])
below_more n [] o h k = (k, tt)
below_more n (x ∷ xs) o h k = (h.0, below_more n xs o h.1 k)

pub shared_more : (structs : List TypedStruct) (xs : List (Option TypedShared)) (o : Option TypedShared) → shared_words structs (xs ++ o ∷ []) ≡ shared_words structs xs + shared_size structs o
shared_more structs [] o = omega arith
shared_more structs (x ∷ xs) o = ap (λ n. shared_size structs x + n) (shared_more structs xs o) ∙ omega arith

pub size_still : (xs ys : List TypedStruct) (o : Option TypedShared) → If (λ (s : TypedShared). names_below (length xs) s.of ≡ true) o → shared_size (xs ++ ys) o ≡ shared_size xs o
size_still xs ys None h = refl
size_still xs ys (Some s) h = words_same xs ys s.of h

pub shared_still : (xs ys : List TypedStruct) (all : List (Option TypedShared)) → SharedBelow (length xs) all → shared_words (xs ++ ys) all ≡ shared_words xs all
shared_still xs ys [] h = refl
shared_still xs ys (o ∷ rest) h = ap (λ n. n + shared_words (xs ++ ys) rest) (size_still xs ys o h.0) ∙ ap (λ n. shared_size xs o + n) (shared_still xs ys rest h.1)

pub type_longer : (xs ys : List TypedStruct) (t : TypeTree) → names_below (length xs) t ≡ true → names_below (length (xs ++ ys)) t ≡ true
type_longer xs ys (type.Scalar of) k = refl
type_longer xs ys (type.Vector of size) k = refl
type_longer xs ys (type.Struct number) k = less_longer number xs ys k
type_longer xs ys (type.Array (element.Scalar of) size) k = refl
type_longer xs ys (type.Array (element.Vector of count) size) k = refl
type_longer xs ys (type.Array (element.Struct number) size) k = less_longer number xs ys k

pub shared_longer : (xs ys : List TypedStruct) (all : List (Option TypedShared)) → SharedBelow (length xs) all → SharedBelow (length (xs ++ ys)) all
shared_longer xs ys [] h = tt
shared_longer xs ys (o ∷ rest) h = (longer o h.0, shared_longer xs ys rest h.1)
  where
    longer : (o : Option TypedShared) → If (λ (s : TypedShared). names_below (length xs) s.of ≡ true) o → If (λ (s : TypedShared). names_below (length (xs ++ ys)) s.of ≡ true) o
    longer None k = tt
    longer (Some s) k = type_longer xs ys s.of k

pub one_more_few : {A : Type 0} (xs : List A) (x : A) → nat_lt buffer_limit (suc (length xs)) ≡ false → nat_lt buffer_limit (length (xs ++ x ∷ [])) ≡ false
one_more_few xs x e = ap (nat_lt buffer_limit) (one_longer xs x) ∙ e
  where
    one_longer : {A : Type 0} (xs : List A) (x : A) → length (xs ++ x ∷ []) ≡ suc (length xs)
    one_longer [] x = refl
    one_longer (y ∷ xs) x = ap suc (one_longer xs x)

pub all_length : {A : Type 0} (os : List (Option A)) (xs : List A) → all_of os ≡ Some xs → length os ≡ length xs
all_length [] xs e = ap length (some_value e)
all_length (o ∷ os) xs e = let f = all_first o os xs e in ap suc (all_length os f.2.0 f.2.1) ∙ ap length (sym f.2.2)

pub all_words : (structs : List TypedStruct) (os : List (Option TypedShared)) (xs : List TypedShared) → all_of os ≡ Some xs → shared_words structs os ≡ sum_by (λ (s : TypedShared). words_of structs s.of) xs
all_words structs [] xs e = ap (sum_by (λ (s : TypedShared). words_of structs s.of)) (some_value e)
all_words structs (o ∷ os) xs e =
    let f = all_first o os xs e in
    ap (λ n. shared_size structs o + n) (all_words structs os f.2.0 f.2.1) ∙ ap (λ x. shared_size structs x + sum_by (λ (s : TypedShared). words_of structs s.of) f.2.0) f.1 ∙ sym (sum_by-cons (λ (s : TypedShared). words_of structs s.of) f.0 f.2.0) ∙ ap (sum_by (λ (s : TypedShared). words_of structs s.of)) (sym f.2.2)
