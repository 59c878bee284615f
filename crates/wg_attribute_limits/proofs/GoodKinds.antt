-- The kind of a node is a good one.
use Rattle.std.proofs.Common.{◌≡◌, ◌≤◌, ◌+◌, ℕ, zero, suc, Bool, true, false, cond, nat_le, nat_lt, List, [], ◌∷◌, codes, map, Option, Some, None, refl, sym, ap, ◌∙◌, subst, arith, IsTrue}
use Rattle.std.specs.Prelude.{slice_get}
use Rattle.std.proofs.lemmas.Bool.{leb-true}
use Rattle.wg_words.specs.Maybe.{◌>>=◌}
use Rattle.wg_tree.specs.declared.expr.Scalar.TheVariants as scalar
use Rattle.wg_machine.specs.GoodShape.{IsBetween, IsGoodKind}
use Rattle.wg_machine.specs.Units.{is_broadcasting}
use Rattle.wg_machine.specs.declared.shape.Kind.{Kind}
use Rattle.wg_typing.specs.AttributeArguments.{has}
use Rattle.wg_typing.specs.AttributeSites.{fields_at}
use Rattle.wg_typing.specs.AttributeSystem.{is_grid_field, is_named}
use Rattle.wg_typing.specs.Conversions.{same_scalar}
use Rattle.wg_typing.specs.TypingSystem.{is_uint_up_to_3}
use Rattle.wg_typing.specs.declared.attribute.Mode.{Mode}
use Rattle.wg_typing.specs.declared.attribute.Mode.TheVariants.{Broadcasting, Coalescing, Thread}
use Rattle.wg_typed.specs.Layout.{AreInOrder, field_range, field_types, words_of}
use Rattle.wg_typed.specs.declared.typed.TypedField.{TypedField}
use Rattle.wg_typed.specs.declared.typed.TypedParameter.{TypedParameter}
use Rattle.wg_typed.specs.declared.typed.TypedStruct.{TypedStruct}
use Rattle.wg_typed.specs.declared.typed_stmt.TypedAttribute.{TypedAttribute}
use Rattle.wg_typed.specs.declared.types.TypeTree.{TypeTree}
use Rattle.wg_typed.specs.declared.types.TypeTree.TheVariants as type
use Rattle.wg_facts.specs.Tests.{every}
use Rattle.wg_facts.proofs.Basics.{If, and_left, and_right, scalar_is, so_less}
use Rattle.wg_limits.specs.Vectors.{is_small}
use Rattle.wg_sound.specs.SoundForms.{field_of}
use Rattle.wg_node_attributes.specs.Axes.{grid_said}
use Rattle.wg_node_attributes.specs.Kinds.{field_grid, greatest_grid, grid_field_from, grid_kind, kind_in, parts_of}
use Rattle.wg_node_attributes.specs.Parameters.{input_attributes, record_at}
use Rattle.wg_node_attributes.specs.declared.attributes.Axes.{Axes}
use Rattle.wg_node_attributes.specs.declared.attributes.GridField.{GridField}
use Rattle.wg_shapes.specs.Records.{record_words}
use Rattle.wg_attribute_limits.proofs.Values.{IsGoodAxes, count_is, grid_is}

-- ---- lists and choices

pub every_at : {A : Type 0} (p : A → Bool) (xs : List A) (k : ℕ) (x : A) → every p xs ≡ true → slice_get xs k ≡ Some x → p x ≡ true
every_at p [] k x h e = absurd (cc)
every_at p (y ∷ xs) zero x h e = subst (λ z. p z ≡ true) (value e) (and_left (p y) (every p xs) h)
  where
    value : Some y ≡ Some x → y ≡ x
    value e = cc
every_at p (y ∷ xs) (suc k) x h e = every_at p xs k x (and_right (p y) (every p xs) h) e

pub get_map : {A B : Type 0} (f : A → B) (xs : List A) (k : ℕ) (x : A) → slice_get xs k ≡ Some x → slice_get (map f xs) k ≡ Some (f x)
get_map f [] k x e = absurd (cc)
get_map f (y ∷ xs) zero x e = cc
get_map f (y ∷ xs) (suc k) x e = get_map f xs k x e

if_map : {A : Type 0} (p q : A → Type 0) (o : Option A) → ((a : A) → p a → q a) → If p o → If q o
if_map p q None f h = tt
if_map p q (Some a) f h = f a h

pub either_way : {X : Type 0} (p : X → Type 0) (b : Bool) (x y : X) → p x → p y → p (cond b x y)
either_way p true x y h k = h
either_way p false x y h k = k

-- ---- the field with a grid

record FoundIn (fields : List TypedField) (start : ℕ) (g : GridField) : Type 0 where
  pub place : ℕ
  pub found : TypedField
  pub number : g.field ≡ start + place
  pub there : slice_get fields place ≡ Some found
  pub grid : is_grid_field found ≡ true
  pub parts : g.parts ≡ parts_of found.of

found_step : (start : ℕ) (f : TypedField) (rest : List TypedField) (b : Bool) → is_grid_field f ≡ b → If (FoundIn rest (start + 1)) (grid_field_from (start + 1) rest)
    → If (FoundIn (f ∷ rest) start) (cond b (Some (record { field = start; parts = parts_of f.of })) (grid_field_from (start + 1) rest))
found_step start f rest true e h = record { place = 0; found = f; number = omega arith; there = refl; grid = e; parts = refl }
found_step start f rest false e h =
    if_map (FoundIn rest (start + 1)) (FoundIn (f ∷ rest) start) (grid_field_from (start + 1) rest) (λ (g : GridField) (x : FoundIn rest (start + 1) g).
    let n = x.number in
    record { place = suc x.place; found = x.found; number = omega (arith, n); there = x.there; grid = x.grid; parts = x.parts }) h

found_in : (start : ℕ) (fields : List TypedField) → If (FoundIn fields start) (grid_field_from start fields)
found_in start [] = tt
found_in start (f ∷ rest) = found_step start f rest (is_grid_field f) refl (found_in (start + 1) rest)

record HasParts (structs : List TypedStruct) (u : TypeTree) : Type 0 where
  pub few : IsBetween 1 3 (parts_of u)
  pub words : words_of structs u ≡ parts_of u

parts_are : (structs : List TypedStruct) (u : TypeTree) → is_uint_up_to_3 u ≡ true → is_small u ≡ true → HasParts structs u
parts_are structs (type.Scalar of) e h =
    record { few = record { low = omega arith; high = omega arith }; words = ap (λ s. words_of structs (type.Scalar s)) (scalar_is of scalar.Uint e) }
parts_are structs (type.Vector of size) e h =
    let low = so_less 1 size (and_left (nat_lt 1 size) (nat_lt size 5) h) in
    record { few = record { low = omega (arith, low); high = leb-true size 3 (and_right (same_scalar of scalar.Uint) (nat_le size 3) e) }; words = refl }
parts_are structs (type.Struct number) e h = absurd (cc)
parts_are structs (type.Array of size) e h = absurd (cc)

-- what is known of the structs of a text
pub record Structs (structs : List TypedStruct) : Type 0 where
  pub order : AreInOrder structs
  pub small : every (λ (s : TypedStruct). every is_small (field_types s)) structs ≡ true
  pub words : (t u : TypeTree) (field : ℕ) → field_of structs t field ≡ Some u → (field_range structs t field).from + words_of structs u ≡ (field_range structs t field).to
  pub within : (t u : TypeTree) (field : ℕ) → field_of structs t field ≡ Some u → (field_range structs t field).to ≤ words_of structs t

field_good : (structs : List TypedStruct) → Structs structs → (number : ℕ) (s : TypedStruct) → slice_get structs number ≡ Some s → (most : Axes) → IsGoodAxes most
    → (o : Option GridField) → If (FoundIn s.fields 0) o → IsGoodKind (words_of structs (type.Struct number)) (field_grid structs number most o)
field_good structs k number s e most good None h = good
field_good structs k number s e most good (Some g) h =
    let u = h.found.of in
    let place : g.field ≡ h.place = let n = h.number in omega (arith, n) in
    let at : slice_get (field_types s) g.field ≡ Some u = ap (slice_get (field_types s)) place ∙ get_map (λ (f : TypedField). f.of) s.fields h.place h.found h.there in
    let of : field_of structs (type.Struct number) g.field ≡ Some u = ap (λ (o : Option TypedStruct). o >>= (λ (s : TypedStruct). slice_get (field_types s) g.field)) e ∙ at in
    let small : is_small u ≡ true = every_at is_small (field_types s) g.field u (every_at (λ (s : TypedStruct). every is_small (field_types s)) structs number s k.small e) at in
    let parts = parts_are structs u (and_right (is_named "SV_DispatchGrid" h.found.semantic) (is_uint_up_to_3 u) h.grid) small in
    let words = k.words (type.Struct number) u g.field of in
    let within = k.within (type.Struct number) u g.field of in
    let count = parts.words in
    let same = h.parts in
    record { grid = good; parts_few = subst (IsBetween 1 3) (sym h.parts) parts.few; inside = omega (arith, words, within, count, same) }

struct_good : (structs : List TypedStruct) → Structs structs → (number : ℕ) (o : Option TypedStruct) → slice_get structs number ≡ o → (most : Axes) → IsGoodAxes most
    → IsGoodKind (words_of structs (type.Struct number)) (field_grid structs number most (grid_field_from 0 (fields_at o)))
struct_good structs k number None e most good = good
struct_good structs k number (Some s) e most good = field_good structs k number s e most good (grid_field_from 0 s.fields) (found_in 0 s.fields)

greatest_good : (structs : List TypedStruct) → Structs structs → (r : Option ℕ) (most : Axes) → IsGoodAxes most → IsGoodKind (record_words structs r) (greatest_grid structs r most)
greatest_good structs k None most good = good
greatest_good structs k (Some number) most good = struct_good structs k number (slice_get structs number) refl most good

grid_good : (structs : List TypedStruct) → Structs structs → (r : Option ℕ) (attributes : List TypedAttribute) → IsGoodKind (record_words structs r) (grid_kind structs r attributes)
grid_good structs k r attributes =
    either_way (IsGoodKind (record_words structs r)) (has "NodeMaxDispatchGrid" attributes) _ _
    (greatest_good structs k r (grid_said (codes "NodeMaxDispatchGrid") attributes) (grid_is (codes "NodeMaxDispatchGrid") attributes))
    (grid_is (codes "NodeDispatchGrid") attributes)

pub kind_good : (structs : List TypedStruct) → Structs structs → (parameters : List TypedParameter) (input : Option ℕ) (attributes : List TypedAttribute) (mode : Option Mode)
    → IsGoodKind (record_words structs (record_at parameters input)) (kind_in structs parameters input attributes mode)
kind_good structs k parameters input attributes None = tt
kind_good structs k parameters input attributes (Some Broadcasting) = grid_good structs k (record_at parameters input) attributes
kind_good structs k parameters input attributes (Some Coalescing) = count_is 256 (codes "MaxRecords") (input_attributes parameters input) (omega arith)
kind_good structs k parameters input attributes (Some Thread) = tt

-- ---- a broadcasting node has a grid

field_broadcasts : (structs : List TypedStruct) (number : ℕ) (most : Axes) (o : Option GridField) → IsTrue (is_broadcasting (field_grid structs number most o))
field_broadcasts structs number most None = refl
field_broadcasts structs number most (Some g) = refl

greatest_broadcasts : (structs : List TypedStruct) (r : Option ℕ) (most : Axes) → IsTrue (is_broadcasting (greatest_grid structs r most))
greatest_broadcasts structs None most = refl
greatest_broadcasts structs (Some number) most = field_broadcasts structs number most (grid_field_from 0 (fields_at (slice_get structs number)))

pub grid_broadcasts : (structs : List TypedStruct) (r : Option ℕ) (attributes : List TypedAttribute) → IsTrue (is_broadcasting (grid_kind structs r attributes))
grid_broadcasts structs r attributes =
    either_way (λ (k : Kind). IsTrue (is_broadcasting k)) (has "NodeMaxDispatchGrid" attributes) _ _ (greatest_broadcasts structs r (grid_said (codes "NodeMaxDispatchGrid") attributes)) refl
