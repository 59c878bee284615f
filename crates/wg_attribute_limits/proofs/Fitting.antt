-- The records of a function's parameters are within the limit.
use Rattle.std.proofs.Common.{◌≡◌, ◌≤◌, ◌+◌, ℕ, zero, suc, Bool, true, false, cond, nat_lt, List, [], ◌∷◌, ◌++◌, length, Option, Some, None, slice_get, unwrap_or, refl, sym, ap, ◌∙◌, subst, arith}
use Rattle.std.proofs.lemmas.Bool.{leb-true}
use Rattle.std.specs.Option.{option_or}
use Rattle.std.specs.Str.{bytes_eq}
use Rattle.wg_typing.specs.Maybe.{where_true}
use Rattle.wg_tree.specs.declared.expr.Named.{Named}
use Rattle.wg_tree.specs.declared.expr.TypeName.{TypeName}
use Rattle.wg_tree.specs.declared.expr.TypeName.TheVariants as type_name
use Rattle.wg_tree.specs.declared.expr.ValueType.{ValueType}
use Rattle.wg_tree.specs.declared.expr.ValueType.TheVariants as value_type
use Rattle.wg_tree.specs.declared.item.Parameter.{Parameter}
use Rattle.wg_tree.specs.declared.item.ParameterType.{ParameterType}
use Rattle.wg_tree.specs.declared.item.ParameterType.TheVariants as parameter_type
use Rattle.wg_tree.specs.declared.stmt.ObjectType.{ObjectType}
use Rattle.wg_typing.specs.Conversions.{of_value_type}
use Rattle.wg_typing.specs.Named.{is_among}
use Rattle.wg_typing.specs.Scope.{Context, declare, look, named_type, own_names, struct_if}
use Rattle.wg_typing.specs.TypingDeclared.{record_limit}
use Rattle.wg_typing.specs.TypingHandle.{record_limit_site, record_named, record_number, struct_number}
use Rattle.wg_typing.specs.TypingParameter.{Before, held_parameter, holds, holds_named, input_or_output, meant_if, object_parameter, one_more, parameter_of, parameter_tree, parameter_type_sites, parameter_variable, parameters_sites, parameters_trees, role_of, takes_role, with_parameter}
use Rattle.wg_typing.specs.declared.fault.TypingRule.TheVariants.{LimitPassed}
use Rattle.wg_typing.specs.declared.scope.Declared.{Declared}
use Rattle.wg_typing.specs.declared.scope.Meant.{Meant}
use Rattle.wg_typing.specs.declared.scope.Meant.TheVariants as meant
use Rattle.wg_typed.specs.Layout.{extents_after, extents_of, field_types, fields_extent, words_of, plain_extent}
use Rattle.wg_typed.specs.declared.typed.Typed.{Typed}
use Rattle.wg_typed.specs.declared.typed.TypedParameter.{TypedParameter}
use Rattle.wg_typed.specs.declared.typed.TypedParameterType.{TypedParameterType}
use Rattle.wg_typed.specs.declared.typed.TypedStruct.{TypedStruct}
use Rattle.wg_typed.specs.declared.types.Extent.{Extent}
use Rattle.wg_typed.specs.declared.types.TypeTree.{TypeTree}
use Rattle.wg_typed.specs.declared.types.TypeTree.TheVariants as type
use Rattle.wg_facts.proofs.Basics.{If, at_most, if_then, if_was, if_where, less_so, so_less, some_value}
use Rattle.wg_facts.proofs.Lists.{front}
use Rattle.wg_facts.proofs.Sited.{Well, is_false, well_left, well_only, well_right}
use Rattle.wg_sound.specs.Sound.{IsSound}
use Rattle.wg_node_reading.specs.Sized.{AreSized}
use Rattle.wg_shapes.specs.Records.{record_in, record_type, record_words}

-- ---- what structs take is kept as more are declared

length_pushed : {A : Type 0} (xs : List A) (x : A) → length (xs ++ x ∷ []) ≡ suc (length xs)
length_pushed [] x = refl
length_pushed (y ∷ xs) x = ap suc (length_pushed xs x)

length_after : (e : List Extent) (xs : List TypedStruct) → length (extents_after e xs) ≡ length e + length xs
length_after e [] = omega arith
length_after e (s ∷ rest) =
    let n = length_after (e ++ fields_extent e (field_types s) ∷ []) rest in
    let m = length_pushed e (fields_extent e (field_types s)) in
    omega (arith, n, m)

after_pushed : (e : List Extent) (xs : List TypedStruct) (s : TypedStruct) → extents_after e (xs ++ s ∷ []) ≡ extents_after e xs ++ fields_extent (extents_after e xs) (field_types s) ∷ []
after_pushed e [] s = refl
after_pushed e (x ∷ xs) s = after_pushed (e ++ fields_extent e (field_types x) ∷ []) xs s

words_kept : (xs : List TypedStruct) (s : TypedStruct) (number : ℕ) → nat_lt number (length xs) ≡ true → words_of (xs ++ s ∷ []) (type.Struct number) ≡ words_of xs (type.Struct number)
words_kept xs s number h =
    let l = so_less number (length xs) h in
    let n = length_after [] xs in
    let inside : nat_lt number (length (extents_of xs)) ≡ true = less_so number (length (extents_of xs)) (omega (arith, l, n)) in
    ap (λ (o : Option Extent). (unwrap_or o (plain_extent 0)).words) (ap (λ es. slice_get es number) (after_pushed [] xs s) ∙ front (extents_of xs) (fields_extent (extents_of xs) (field_types s) ∷ []) number inside)

none_past : {A : Type 0} (xs : List A) (n : ℕ) → slice_get xs n ≡ None → length xs ≤ n
none_past [] n e = omega arith
none_past (x ∷ xs) zero e = absurd (cc)
none_past (x ∷ xs) (suc n) e = let l = none_past xs n e in omega (arith, l)

past_none : {A : Type 0} (xs : List A) (n : ℕ) → length xs ≤ n → slice_get xs n ≡ None
past_none [] n l = refl
past_none (x ∷ xs) zero l = absurd (omega (arith, l))
past_none (x ∷ xs) (suc n) l = past_none xs n (omega (arith, l))

-- a struct that is not there takes nothing
sized_at : (t : Typed) → IsSound t → (number : ℕ) (o : Option TypedStruct) → slice_get t.structs number ≡ o → words_of t.structs (type.Struct number) ≤ 8192
sized_at t sound number None e =
    let l = none_past t.structs number e in
    let n = length_after [] t.structs in
    let none : words_of t.structs (type.Struct number) ≡ 0 = ap (λ (x : Option Extent). (unwrap_or x (plain_extent 0)).words) (past_none (extents_of t.structs) number (omega (arith, l, n))) in
    omega (arith, none)
sized_at t sound number (Some s) e = leb-true (words_of t.structs (type.Struct number)) 8192 (sound.sizes number s e)

pub sound_sized : (t : Typed) → IsSound t → AreSized t.structs
sound_sized t sound = record { order = sound.structs; few = λ number. sized_at t sound number (slice_get t.structs number) refl }

-- ---- records that fit

pub record FitsIn (structs : List TypedStruct) (number : ℕ) : Type 0 where
  pub below : nat_lt number (length structs) ≡ true
  pub few : words_of structs (type.Struct number) ≤ record_limit

pub fits_longer : (structs : List TypedStruct) (s : TypedStruct) (number : ℕ) → FitsIn structs number → FitsIn (structs ++ s ∷ []) number
fits_longer structs s number h =
    let l = so_less number (length structs) h.below in
    let n = length_pushed structs s in
    record { below = less_so number (length (structs ++ s ∷ [])) (omega (arith, l, n)); few = subst (λ m. m ≤ record_limit) (sym (words_kept structs s number h.below)) h.few }

abbrev pub ParameterFits : List TypedStruct → TypedParameter → Type 0
ParameterFits structs p = If (FitsIn structs) (record_type p.of)

abbrev pub AllFit : List TypedStruct → List TypedParameter → Type 0
AllFit structs [] = Unit {0}
AllFit structs (p ∷ rest) = ParameterFits structs p × AllFit structs rest

if_more : {A : Type 0} (p q : A → Type 0) (o : Option A) → ((a : A) → p a → q a) → If p o → If q o
if_more p q None f h = tt
if_more p q (Some a) f h = f a h

pub all_fit_longer : (structs : List TypedStruct) (s : TypedStruct) (ps : List TypedParameter) → AllFit structs ps → AllFit (structs ++ s ∷ []) ps
all_fit_longer structs s [] h = tt
all_fit_longer structs s (p ∷ rest) h = (if_more (FitsIn structs) (FitsIn (structs ++ s ∷ [])) (record_type p.of) (fits_longer structs s) h.0, all_fit_longer structs s rest h.1)

words_small : (structs : List TypedStruct) (o : Option ℕ) → If (FitsIn structs) o → record_words structs o ≤ 2048
words_small structs None h = omega arith
words_small structs (Some number) h = h.few

pub all_fit_at : (structs : List TypedStruct) (ps : List TypedParameter) (k : ℕ) (p : TypedParameter) → AllFit structs ps → slice_get ps k ≡ Some p → record_words structs (record_in (Some p)) ≤ 2048
all_fit_at structs [] k p h e = absurd (cc)
all_fit_at structs (x ∷ ps) zero p h e = subst (λ (y : TypedParameter). record_words structs (record_type y.of) ≤ 2048) (some_value e) (words_small structs (record_type x.of) h.0)
all_fit_at structs (x ∷ ps) (suc k) p h e = all_fit_at structs ps k p h.1 e

-- ---- names of structs

abbrev pub MeantBelow : ℕ → Meant → Type 0
MeantBelow n (meant.Struct number) = nat_lt number n ≡ true
MeantBelow n (meant.Constant of words known) = Unit {0}
MeantBelow n (meant.Shared variable of) = Unit {0}
MeantBelow n (meant.Variable variable of constant) = Unit {0}
MeantBelow n (meant.Object object) = Unit {0}
MeantBelow n (meant.Function number entry result parameters chain) = Unit {0}
MeantBelow n meant.Itself = Unit {0}
MeantBelow n meant.Broken = Unit {0}

abbrev pub NamesFit : ℕ → List Declared → Type 0
NamesFit n [] = Unit {0}
NamesFit n (d ∷ rest) = MeantBelow n d.meant × NamesFit n rest

pub names_pushed : (n : ℕ) (names : List Declared) (d : Declared) → NamesFit n names → MeantBelow n d.meant → NamesFit n (names ++ d ∷ [])
names_pushed n [] d h k = (k, tt)
names_pushed n (x ∷ names) d h k = (h.0, names_pushed n names d h.1 k)

meant_longer : (n : ℕ) (m : Meant) → MeantBelow n m → MeantBelow (suc n) m
meant_longer n (meant.Struct number) h = let l = so_less number n h in less_so number (suc n) (omega (arith, l))
meant_longer n (meant.Constant of words known) h = tt
meant_longer n (meant.Shared variable of) h = tt
meant_longer n (meant.Variable variable of constant) h = tt
meant_longer n (meant.Object object) h = tt
meant_longer n (meant.Function number entry result parameters chain) h = tt
meant_longer n meant.Itself h = tt
meant_longer n meant.Broken h = tt

pub names_longer : (n : ℕ) (names : List Declared) → NamesFit n names → NamesFit (suc n) names
names_longer n [] h = tt
names_longer n (d ∷ names) h = (meant_longer n d.meant h.0, names_longer n names h.1)

if_either : {A : Type 0} (p : A → Type 0) (o q : Option A) → If p o → If p q → If p (option_or o q)
if_either p None q h k = k
if_either p (Some a) q h k = h

look_below : (n : ℕ) (name : List ℕ) (names : List Declared) → NamesFit n names → If (MeantBelow n) (look name names)
look_below n name [] h = tt
look_below n name (d ∷ rest) h = if_either (MeantBelow n) (look name rest) _ (look_below n name rest h.1) (if_where (MeantBelow n) (bytes_eq d.name.name name) d.meant (λ e. h.0))

abbrev TypeBelow : ℕ → TypeTree → Type 0
TypeBelow n t = If (λ number. nat_lt number n ≡ true) (struct_number t)

struct_below : (n : ℕ) (o : Option Meant) → If (MeantBelow n) o → If (TypeBelow n) (struct_if o)
struct_below n None h = tt
struct_below n (Some (meant.Struct number)) h = h
struct_below n (Some (meant.Constant of words known)) h = tt
struct_below n (Some (meant.Shared variable of)) h = tt
struct_below n (Some (meant.Variable variable of constant)) h = tt
struct_below n (Some (meant.Object object)) h = tt
struct_below n (Some (meant.Function number entry result parameters chain)) h = tt
struct_below n (Some meant.Itself) h = tt
struct_below n (Some meant.Broken) h = tt

value_below : (n : ℕ) (of : ValueType) → TypeBelow n (of_value_type of)
value_below n (value_type.Scalar of) = tt
value_below n (value_type.Vector of size) = tt

named_below : (n : ℕ) (names : List Declared) (of : TypeName) → NamesFit n names → If (TypeBelow n) (named_type names of)
named_below n names (type_name.Value place of) h = value_below n of
named_below n names (type_name.Struct name) h = struct_below n (look name.name names) (look_below n name.name names h)

record_below : (n : ℕ) (c : Context) (of : ObjectType) → NamesFit n c.names → If (λ number. nat_lt number n ≡ true) (record_number c of)
record_below n c of h =
    if_then (TypeBelow n) (λ number. nat_lt number n ≡ true) (record_named c of) struct_number
    (if_was (TypeBelow n) of.record_type (named_type c.names) (λ name e. named_below n c.names name h)) (λ t k. k)

-- ---- parameters

limit_kept : (c : Context) (name : Named) (o : Option ℕ) → Well (record_limit_site c name o) → If (λ number. nat_lt record_limit (words_of c.structs (type.Struct number)) ≡ false) o
limit_kept c name None w = tt
limit_kept c name (Some number) w = is_false _ name.place (well_only w LimitPassed)

both_fit : (structs : List TypedStruct) (o : Option ℕ) → If (λ number. nat_lt number (length structs) ≡ true) o → If (λ number. nat_lt record_limit (words_of structs (type.Struct number)) ≡ false) o → If (FitsIn structs) o
both_fit structs None h k = tt
both_fit structs (Some number) h k = record { below = h; few = at_most record_limit (words_of structs (type.Struct number)) k }

abbrev KnownFits : List TypedStruct → TypedParameterType × Meant → Type 0
KnownFits structs known = If (FitsIn structs) (record_type known.0) × MeantBelow (length structs) known.1

held_fits : (structs : List TypedStruct) (c : Context) (b : Before) (of : ObjectType) (held : Option ℕ) → If (FitsIn structs) held → If (KnownFits structs) (held_parameter c b of held)
held_fits structs c b of held h = if_was (KnownFits structs) (input_or_output c.structs (role_of of.word) b.outputs held) _ (λ o e. (h, tt))

object_fits : (structs : List TypedStruct) (c : Context) (b : Before) (of : ObjectType) (name : Option TypeName) (o : Option ℕ) → If (FitsIn structs) o → If (KnownFits structs) (object_parameter c b of (holds_named name o))
object_fits structs c b of None o h = held_fits structs c b of None tt
object_fits structs c b of (Some name) None h = tt
object_fits structs c b of (Some name) (Some number) h = held_fits structs c b of (Some number) h

parameter_fits : (c : Context) (b : Before) (name : Named) (of : ParameterType) → NamesFit (length c.structs) c.names → Well (parameter_type_sites c b name of) → If (KnownFits c.structs) (parameter_of c b of)
parameter_fits c b name (parameter_type.Value of) h w = if_was (KnownFits c.structs) (named_type c.names of) _ (λ t e. (tt, tt))
parameter_fits c b name (parameter_type.Object of) h w =
    if_was (KnownFits c.structs) (where_true (takes_role c.around b.has_input (role_of of.word)) of) _ (λ x e.
    subst (λ y. If (KnownFits c.structs) (object_parameter c b y (holds c y))) (same (takes_role c.around b.has_input (role_of of.word)) x e)
    (object_fits c.structs c b of of.record_type (record_number c of) (both_fit c.structs (record_number c of) (record_below (length c.structs) c of h) (limit_kept c name (record_number c of) (well_right (well_right w))))))
  where
    same : (t : Bool) (x : ObjectType) → where_true t of ≡ Some x → of ≡ x
    same true x e = some_value e
    same false x e = absurd (cc)

meant_fits : (structs : List TypedStruct) (o : Option (TypedParameterType × Meant)) → If (KnownFits structs) o → MeantBelow (length structs) (meant_if o)
meant_fits structs None h = tt
meant_fits structs (Some known) h = h.1

-- a context with the structs and names that are known
pub record IsKnown (structs : List TypedStruct) (c : Context) : Type 0 where
  pub structs_are : c.structs ≡ structs
  pub names : NamesFit (length structs) c.names

with_fits : (structs : List TypedStruct) (b : Before) (p : Parameter) (c : Context) → IsKnown structs c → If (KnownFits structs) (parameter_of c b p.of) → IsKnown structs (with_parameter b p c)
with_fits structs b p c a h = by_test (is_among (own_names c) p.name.name)
  where
    by_test : (t : Bool) → IsKnown structs (cond t c (record (declare p.name (meant_if (parameter_of c b p.of)) c) { variables = c.variables ++ parameter_variable c.around p (parameter_of c b p.of) }))
    by_test true = a
    by_test false = record { structs_are = a.structs_are; names = names_pushed (length structs) c.names _ a.names (meant_fits structs (parameter_of c b p.of) h) }

pub parameters_fit : (structs : List TypedStruct) (ps : List Parameter) (b : Before) (c : Context) → IsKnown structs c → Well (parameters_sites b ps c) → If (AllFit structs) (parameters_trees b ps c)
parameters_fit structs [] b c a w = tt
parameters_fit structs (p ∷ rest) b c a w =
    let known : If (KnownFits structs) (parameter_of c b p.of) =
    subst (λ xs. If (KnownFits xs) (parameter_of c b p.of)) a.structs_are
    (parameter_fits c b p.name p.of (subst (λ xs. NamesFit (length xs) c.names) (sym a.structs_are) a.names) (well_left (well_right w))) in
    if_then (ParameterFits structs) (AllFit structs) (parameter_tree c b p) _ (if_then (KnownFits structs) (ParameterFits structs) (parameter_of c b p.of) _ known (λ k h. h.0)) (λ x h.
    if_then (AllFit structs) (AllFit structs) (parameters_trees (one_more p.of b) rest (with_parameter b p c)) _
    (parameters_fit structs rest (one_more p.of b) (with_parameter b p c) (with_fits structs b p c a known) (well_right (well_right (well_right (well_right w))))) (λ xs r. (h, r)))
