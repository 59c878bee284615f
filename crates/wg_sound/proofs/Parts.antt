-- A field's range lies in its struct, and has the words of the field's type.
use Rattle.std.proofs.Common.{◌≡◌, ◌≤◌, ℕ, zero, suc, ◌+◌, Bool, true, false, List, [], ◌∷◌, ◌++◌, length, Some, refl, sym, ap, ◌∙◌, subst, arith}
use Rattle.std.specs.Prelude.{slice_get}
use Rattle.std.specs.Option.{unwrap_or}
use Rattle.wg_words.specs.Each.{Each}
use Rattle.wg_typed.specs.Layout.{Range, rounded, begins, range_at, ranges_after, end_after, has_even, type_extent, struct_extent, plain_extent, extents_of, words_of, field_types, ranges_in, field_range, nowhere, NamesBelow, AreInOrder}
use Rattle.wg_facts.specs.Tests.{every}
use Rattle.wg_sound.specs.StandingTypes.{names_below}
use Rattle.wg_sound.specs.SoundForms.{field_of}
use Rattle.wg_typed.specs.declared.types.ElementType.TheVariants as element
use Rattle.wg_typed.specs.declared.types.Extent.{Extent}
use Rattle.wg_typed.specs.declared.types.TypeTree.{TypeTree}
use Rattle.wg_typed.specs.declared.types.TypeTree.TheVariants as type
use Rattle.wg_typed.specs.declared.typed.TypedStruct.{TypedStruct}
use Rattle.wg_facts.proofs.Basics.{and_left, and_right, both, some_value, then_some, less_so}
use Rattle.wg_facts.proofs.Lists.{joined, at_end}
use Rattle.wg_sound.proofs.Sizes.{extent_after, extents_apart, extents_more, extents_count, extent_same}

-- ---- ranges of parts one after another

rounded_up : (even : Bool) (words : ℕ) → words ≤ rounded even words
rounded_up true words = omega arith
rounded_up false words = omega arith

end_later : (extents : List Extent) (at : ℕ) (types : List TypeTree) → at ≤ end_after extents at types
end_later extents at [] = omega arith
end_later extents at (t ∷ rest) =
    let r = range_at extents at t in
    let l : r.to ≤ end_after extents r.to rest = end_later extents r.to rest in
    let k : at ≤ begins (type_extent extents t) at = rounded_up (type_extent extents t).even at in
    omega (arith, l, k)

record PartAt (extents : List Extent) (at : ℕ) (types : List TypeTree) (n : ℕ) (u : TypeTree) : Type 0 where
  range : Range
  stands : slice_get (ranges_after extents at types) n ≡ Some range
  words : range.from + (type_extent extents u).words ≡ range.to
  within : range.to ≤ end_after extents at types

part_at : (extents : List Extent) (at : ℕ) (types : List TypeTree) (n : ℕ) (u : TypeTree) → slice_get types n ≡ Some u → PartAt extents at types n u
part_at extents at [] n u e = absurd (cc)
part_at extents at (t ∷ rest) zero u e = record {
  range = range_at extents at t;
  stands = refl;
  words = ap (λ x. begins (type_extent extents t) at + (type_extent extents x).words) (sym (some_value e));
  within = end_later extents (range_at extents at t).to rest;
}
part_at extents at (t ∷ rest) (suc n) u e =
    let r = part_at extents (range_at extents at t).to rest n u e in
    record { range = r.range; stands = r.stands; words = r.words; within = r.within }

-- ---- a struct between those before and after it

record Between (structs : List TypedStruct) (n : ℕ) (s : TypedStruct) : Type 0 where
  before : List TypedStruct
  after : List TypedStruct
  all : structs ≡ before ++ s ∷ after
  count : length before ≡ n

between : (structs : List TypedStruct) (n : ℕ) (s : TypedStruct) → slice_get structs n ≡ Some s → Between structs n s
between [] n s e = absurd (cc)
between (x ∷ xs) zero s e = record { before = []; after = xs; all = ap (λ y. y ∷ xs) (some_value e); count = refl }
between (x ∷ xs) (suc n) s e =
    let r = between xs n s e in
    record { before = x ∷ r.before; after = r.after; all = ap (λ ys. x ∷ ys) r.all; count = ap suc r.count }

end_same : (xs ys : List TypedStruct) (at : ℕ) (types : List TypeTree) → every (names_below (length xs)) types ≡ true → end_after (extents_of (xs ++ ys)) at types ≡ end_after (extents_of xs) at types
end_same xs ys at [] h = refl
end_same xs ys at (t ∷ rest) h =
    end_same xs ys (range_at (extents_of (xs ++ ys)) at t).to rest (and_right (names_below (length xs) t) _ h)
    ∙ ap (λ (x : Extent). end_after (extents_of xs) (begins x at + x.words) rest) (extent_same xs ys t (and_left (names_below (length xs) t) _ h))

-- a struct has no fewer words than its fields
struct_words_are : (xs ys : List TypedStruct) (s : TypedStruct) → every (names_below (length xs)) (field_types s) ≡ true → end_after (extents_of (xs ++ s ∷ ys)) 0 (field_types s) ≤ words_of (xs ++ s ∷ ys) (type.Struct (length xs))
struct_words_are xs ys s h =
    let known = extents_of xs in
    let m = extents_more (known ++ extent_after known s ∷ []) ys in
    let e : extents_of (xs ++ s ∷ ys) ≡ known ++ extent_after known s ∷ m.0 = extents_apart [] xs (s ∷ ys) ∙ m.1 ∙ joined known (extent_after known s ∷ []) m.0 in
    let c : length known ≡ length xs = extents_count [] xs ∙ omega arith in
    let w : words_of (xs ++ s ∷ ys) (type.Struct (length xs)) ≡ rounded (has_even known (field_types s)) (end_after known 0 (field_types s)) =
    ap (λ extents. (struct_extent extents (length xs)).words) e ∙ ap (λ n. (unwrap_or (slice_get (known ++ extent_after known s ∷ m.0) n) (plain_extent 0)).words) (sym c)
    ∙ ap (λ o. (unwrap_or o (plain_extent 0)).words) (at_end known (extent_after known s) m.0) in
    let l : end_after known 0 (field_types s) ≤ rounded (has_even known (field_types s)) (end_after known 0 (field_types s)) = rounded_up (has_even known (field_types s)) (end_after known 0 (field_types s)) in
    subst (λ n. n ≤ words_of (xs ++ s ∷ ys) (type.Struct (length xs))) (sym (end_same xs (s ∷ ys) 0 (field_types s) h)) (subst (λ n. end_after known 0 (field_types s) ≤ n) (sym w) l)

below_true : (n : ℕ) (t : TypeTree) → NamesBelow n t → names_below n t ≡ true
below_true n (type.Scalar of) h = refl
below_true n (type.Vector of size) h = refl
below_true n (type.Struct number) h = less_so number n h
below_true n (type.Array (element.Scalar of) size) h = refl
below_true n (type.Array (element.Vector of count) size) h = refl
below_true n (type.Array (element.Struct number) size) h = less_so number n h

all_true : (n : ℕ) (types : List TypeTree) → Each (NamesBelow n) types → every (names_below n) types ≡ true
all_true n [] h = refl
all_true n (t ∷ rest) h = both (below_true n t h.0) (all_true n rest h.1)

pub record FieldPart (structs : List TypedStruct) (t : TypeTree) (field : ℕ) (u : TypeTree) : Type 0 where
  pub words : (field_range structs t field).from + words_of structs u ≡ (field_range structs t field).to
  pub within : (field_range structs t field).to ≤ words_of structs t

pub field_part : (structs : List TypedStruct) (t u : TypeTree) (field : ℕ) → AreInOrder structs → field_of structs t field ≡ Some u → FieldPart structs t field u
field_part structs (type.Struct number) u field order e =
    let s = then_some (slice_get structs number) _ u e in
    let b = between structs number s.0 s.1 in
    let p = part_at (extents_of structs) 0 (field_types s.0) field u s.2 in
    let h : every (names_below number) (field_types s.0) ≡ true = all_true number (field_types s.0) (order number s.0 s.1) in
    let w = struct_words_are b.before b.after s.0 (subst (λ n. every (names_below n) (field_types s.0) ≡ true) (sym b.count) h) in
    let v : end_after (extents_of structs) 0 (field_types s.0) ≤ words_of structs (type.Struct (length b.before)) = subst (λ (xs : List TypedStruct). end_after (extents_of xs) 0 (field_types s.0) ≤ words_of xs (type.Struct (length b.before))) (sym b.all) w in
    let x : end_after (extents_of structs) 0 (field_types s.0) ≤ words_of structs (type.Struct number) = subst (λ n. end_after (extents_of structs) 0 (field_types s.0) ≤ words_of structs (type.Struct n)) b.count v in
    let r : field_range structs (type.Struct number) field ≡ p.range = ap (λ o. unwrap_or (slice_get (ranges_in structs o) field) nowhere) s.1 ∙ ap (λ o. unwrap_or o nowhere) p.stands in
    let y : p.range.to ≤ end_after (extents_of structs) 0 (field_types s.0) = p.within in
    record {
      words = subst (λ (x : Range). x.from + words_of structs u ≡ x.to) (sym r) p.words;
      within = subst (λ (x : Range). x.to ≤ words_of structs (type.Struct number)) (sym r) (omega (arith, x, y));
    }
field_part structs (type.Scalar of) u field order e = absurd (cc)
field_part structs (type.Vector of size) u field order e = absurd (cc)
field_part structs (type.Array of size) u field order e = absurd (cc)
