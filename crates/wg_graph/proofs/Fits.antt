-- Records that match have as many words, so a graph that keeps the rules is one of which a good shape can be made.
use Rattle.std.proofs.Common.{◌≡◌, ℕ, Bool, true, false, not, cond, if◌then◌else◌, ◌==◌, List, [], ◌∷◌, ◌++◌, map, refl, sym, ap, ap₂, ◌∙◌, eqb-true, IsTrue, IsFalse, Option, Some, None, slice_get, true≢false}
use Rattle.std.specs.List.{list_any}
use Rattle.wg_words.specs.Each.{Each}
use Rattle.wg_words.specs.Maybe.{◌>>=◌}
use Rattle.wg_tree.specs.declared.expr.Scalar.{Scalar}
use Rattle.wg_tree.specs.declared.expr.Scalar.TheVariants as scalar
use Rattle.wg_typed.specs.Layout.{extent_of, extents_of, field_types, fields_extent, words_of}
use Rattle.wg_typed.specs.declared.types.ElementType.{ElementType}
use Rattle.wg_typed.specs.declared.types.ElementType.TheVariants as element
use Rattle.wg_typed.specs.declared.types.TypeTree.{TypeTree}
use Rattle.wg_typed.specs.declared.types.TypeTree.TheVariants as type
use Rattle.wg_typed.specs.declared.typed.Typed.{Typed}
use Rattle.wg_typed.specs.declared.typed.TypedField.{TypedField}
use Rattle.wg_typed.specs.declared.typed.TypedStruct.{TypedStruct}
use Rattle.wg_typing.specs.AttributeSystem.{is_grid_field}
use Rattle.wg_typing.specs.Conversions.{same_scalar, scalar_number, same_element, same_type}
use Rattle.wg_node_attributes.specs.declared.attributes.NodeAttrs.{NodeAttrs}
use Rattle.wg_node_attributes.specs.declared.attributes.OutputAttr.{OutputAttr}
use Rattle.wg_shapes.specs.Buildable.{IsBuildable, IsTaken, Takes}
use Rattle.wg_shapes.specs.Naming.{elements_of}
use Rattle.wg_shapes.specs.Places.{output_place, outputs_where, all_outputs_where}
use Rattle.wg_shapes.specs.Records.{input_record, output_record, record_words}
use Rattle.wg_shapes.proofs.Booleans.{and_first, and_second, neither_first, neither_second}
use Rattle.wg_graph_rules.specs.Faults.{KeepsRules}
use Rattle.wg_graph_rules.specs.RecordDiffers.{alike, differs, matches, refuses, refuses_at, same_field, same_fields, same_struct}

-- ---- equal types

abbrev scalar_of : ℕ → Scalar
scalar_of n =
    if n == 0 then scalar.Bool else if n == 1 then scalar.Int else if n == 2 then scalar.Uint else if n == 3 then scalar.Int16 else
    if n == 4 then scalar.Uint16 else if n == 5 then scalar.Int64 else scalar.Uint64

scalar_back : (s : Scalar) → scalar_of (scalar_number s) ≡ s
scalar_back scalar.Bool = refl
scalar_back scalar.Int = refl
scalar_back scalar.Uint = refl
scalar_back scalar.Int16 = refl
scalar_back scalar.Uint16 = refl
scalar_back scalar.Int64 = refl
scalar_back scalar.Uint64 = refl

one_scalar : (a b : Scalar) → IsTrue (same_scalar a b) → a ≡ b
one_scalar a b t = sym (scalar_back a) ∙ (ap scalar_of (eqb-true (scalar_number a) (scalar_number b) t) ∙ scalar_back b)

no_false : {P : Type 0} → IsTrue false → P
no_false t = absurd (true≢false (sym t))

one_element : (a b : ElementType) → IsTrue (same_element a b) → a ≡ b
one_element (element.Scalar a) (element.Scalar b) t = ap element.Scalar (one_scalar a b t)
one_element (element.Scalar a) (element.Vector b n) t = no_false t
one_element (element.Scalar a) (element.Struct b) t = no_false t
one_element (element.Vector a m) (element.Scalar b) t = no_false t
one_element (element.Vector a m) (element.Vector b n) t = ap₂ element.Vector (one_scalar a b (and_first (same_scalar a b) (m == n) t)) (eqb-true m n (and_second (same_scalar a b) (m == n) t))
one_element (element.Vector a m) (element.Struct b) t = no_false t
one_element (element.Struct a) (element.Scalar b) t = no_false t
one_element (element.Struct a) (element.Vector b n) t = no_false t
one_element (element.Struct a) (element.Struct b) t = ap element.Struct (eqb-true a b t)

one_type : (a b : TypeTree) → IsTrue (same_type a b) → a ≡ b
one_type (type.Scalar a) (type.Scalar b) t = ap type.Scalar (one_scalar a b t)
one_type (type.Scalar a) (type.Vector b n) t = no_false t
one_type (type.Scalar a) (type.Struct b) t = no_false t
one_type (type.Scalar a) (type.Array b n) t = no_false t
one_type (type.Vector a m) (type.Scalar b) t = no_false t
one_type (type.Vector a m) (type.Vector b n) t = ap₂ type.Vector (one_scalar a b (and_first (same_scalar a b) (m == n) t)) (eqb-true m n (and_second (same_scalar a b) (m == n) t))
one_type (type.Vector a m) (type.Struct b) t = no_false t
one_type (type.Vector a m) (type.Array b n) t = no_false t
one_type (type.Struct a) (type.Scalar b) t = no_false t
one_type (type.Struct a) (type.Vector b n) t = no_false t
one_type (type.Struct a) (type.Struct b) t = ap type.Struct (eqb-true a b t)
one_type (type.Struct a) (type.Array b n) t = no_false t
one_type (type.Array a m) (type.Scalar b) t = no_false t
one_type (type.Array a m) (type.Vector b n) t = no_false t
one_type (type.Array a m) (type.Struct b) t = no_false t
one_type (type.Array a m) (type.Array b n) t = ap₂ type.Array (one_element a b (and_first (same_element a b) (m == n) t)) (eqb-true m n (and_second (same_element a b) (m == n) t))

-- ---- records that match

one_list : (fs gs : List TypedField) → IsTrue (same_fields fs gs) → map (λ (f : TypedField). f.of) fs ≡ map (λ (f : TypedField). f.of) gs
one_list [] [] t = refl
one_list [] (g ∷ gs) t = no_false t
one_list (f ∷ fs) [] t = no_false t
one_list (f ∷ fs) (g ∷ gs) t =
    ap₂ (λ a b. a ∷ b)
    (one_type f.of g.of (and_first (same_type f.of g.of) (alike (is_grid_field f) (is_grid_field g)) (and_first (same_field f g) (same_fields fs gs) t)))
    (one_list fs gs (and_second (same_field f g) (same_fields fs gs) t))

-- what a struct takes is told by its fields' types
abbrev Told : List TypedStruct → Type 0
Told structs = (number : ℕ) (s : TypedStruct) → slice_get structs number ≡ Some s → extent_of structs (type.Struct number) ≡ fields_extent (extents_of structs) (field_types s)

match_words : (structs : List TypedStruct) → Told structs → (sent taken : Option ℕ) → IsTrue (matches structs sent taken) → record_words structs taken ≡ record_words structs sent
match_words structs told None None t = refl
match_words structs told None (Some taken) t = eqb-true (words_of structs (type.Struct taken)) 0 t
match_words structs told (Some sent) None t = no_false t
match_words structs told (Some sent) (Some taken) t = go (slice_get structs sent) (slice_get structs taken) refl refl t
  where
    go : (o p : Option TypedStruct) → slice_get structs sent ≡ o → slice_get structs taken ≡ p → IsTrue (same_struct o p) → words_of structs (type.Struct taken) ≡ words_of structs (type.Struct sent)
    go None p e f t = no_false t
    go (Some s) None e f t = no_false t
    go (Some s) (Some u) e f t = ap (λ x. x.words) (told taken u f ∙ (ap (fields_extent (extents_of structs)) (sym (one_list s.fields u.fields t)) ∙ sym (told sent s e)))

-- ---- no output is refused

ends_none : {A : Type 0} (xs ys : List A) → xs ++ ys ≡ [] → (xs ≡ []) × (ys ≡ [])
ends_none [] ys e = (refl, e)
ends_none (x ∷ xs) ys e = absurd cc

none_where : (typed : Typed) (test : OutputAttr → Bool) (a : NodeAttrs) (os : List OutputAttr) → outputs_where typed test a os ≡ [] → Each (λ (o : OutputAttr). IsFalse (test o)) os
none_where typed test a [] e = tt
none_where typed test a (o ∷ os) e = go (none_where typed test a os) (test o) refl e
  where
    go : (outputs_where typed test a os ≡ [] → Each (λ (o : OutputAttr). IsFalse (test o)) os) → (b : Bool) → test o ≡ b → cond b (output_place typed a o ∷ outputs_where typed test a os) (outputs_where typed test a os) ≡ [] → Each (λ (o : OutputAttr). IsFalse (test o)) (o ∷ os)
    go later true t e = absurd cc
    go later false t e = (t, later e)

all_none : (typed : Typed) (test : NodeAttrs → OutputAttr → Bool) (nodes : List NodeAttrs) → all_outputs_where typed test nodes ≡ [] → Each (λ (a : NodeAttrs). Each (λ (o : OutputAttr). IsFalse (test a o)) a.outputs) nodes
all_none typed test [] e = tt
all_none typed test (a ∷ rest) e = let h = ends_none (outputs_where typed (test a) a a.outputs) (all_outputs_where typed test rest) e in (none_where typed (test a) a a.outputs h.0, all_none typed test rest h.1)

each_so : {A : Type 0} (P Q : A → Type 0) (xs : List A) → ((x : A) → P x → Q x) → Each P xs → Each Q xs
each_so P Q [] h all = tt
each_so P Q (x ∷ xs) h all = (h x all.0, each_so P Q xs h all.1)

none_any : (test : Option ℕ → Bool) (xs : List (Option ℕ)) → IsFalse (list_any test xs) → Each (λ x. IsFalse (test x)) xs
none_any test [] f = tt
none_any test (x ∷ xs) f = (neither_first (test x) (list_any test xs) f, none_any test xs (neither_second (test x) (list_any test xs) f))

module _ (typed : Typed) (nodes : List NodeAttrs) (told : Told typed.structs) where
  takes : (sent : Option ℕ) (o : Option NodeAttrs) → IsFalse (refuses typed sent o) → Takes typed (record_words typed.structs sent) o
  takes sent None f = tt
  takes sent (Some a) f = match_words typed.structs told sent (input_record typed a) (not_false (matches typed.structs sent (input_record typed a)) f)
    where
      not_false : (b : Bool) → IsFalse (not b) → IsTrue b
      not_false true f = refl
      not_false false f = no_false (sym f)

  taken : (a : NodeAttrs) (o : OutputAttr) → IsFalse (differs typed nodes a o) → IsTaken typed nodes a o
  taken a o f =
      each_so (λ x. IsFalse (refuses_at typed nodes (output_record typed a o) x)) (λ x. Takes typed (record_words typed.structs (output_record typed a o)) (x >>= slice_get nodes)) (elements_of nodes o)
      (λ x h. takes (output_record typed a o) (x >>= slice_get nodes) h)
      (none_any (refuses_at typed nodes (output_record typed a o)) (elements_of nodes o) f)

  pub buildable : KeepsRules typed nodes → IsBuildable typed nodes
  buildable k = record {
    names_differ = k.before.before.before.before.before.before.none;
    few = k.before.before.before.before.before.none;
    taken =
        each_so (λ (a : NodeAttrs). Each (λ (o : OutputAttr). IsFalse (differs typed nodes a o)) a.outputs) (λ (a : NodeAttrs). Each (IsTaken typed nodes a) a.outputs) nodes
        (λ a h. each_so (λ (o : OutputAttr). IsFalse (differs typed nodes a o)) (IsTaken typed nodes a) a.outputs (taken a) h)
        (all_none typed (differs typed nodes) nodes k.before.before.none);
    short = k.none;
  }
