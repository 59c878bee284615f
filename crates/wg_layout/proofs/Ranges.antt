-- The ranges of a struct's fields, with what all structs take.
use Rattle.std.proofs.Common.{◌≡◌, ℕ, zero, suc, ◌+◌, ◌<◌, ◌≤◌, refl, sym, ap, ap₂, ◌∙◌, List, [], ◌∷◌, ◌++◌, length, map, take, drop, Some, get_or, arith}
use Rattle.std.specs.Prelude.{slice_get, unwrap_or, ◌||◌}
use Rattle.std.proofs.lemmas.List.{drop_more, append_assoc}
use Rattle.std.proofs.lemmas.Option.{get_or_from_slice_get, slice_get_within}
use Rattle.wg_words.specs.Each.{Each}
use Rattle.wg_typed.specs.Earlier.{each_after}
use Rattle.wg_typed.specs.declared.types.Extent.{Extent}
use Rattle.wg_typed.specs.declared.types.ElementType.TheVariants as element
use Rattle.wg_typed.specs.declared.types.TypeTree.{TypeTree}
use Rattle.wg_typed.specs.declared.types.TypeTree.TheVariants as type
use Rattle.wg_typed.specs.declared.typed.TypedField.{TypedField}
use Rattle.wg_typed.specs.declared.typed.TypedStruct.{TypedStruct}
use Rattle.wg_typed.specs.Layout.{NamesBelow, AreInOrder, type_extent, struct_extent, plain_extent, repeated_extent, rounded, begins, range_at, has_even, end_after, ranges_after, types_of, field_types, fields_extent, extents_after, extents_of, extent_of, words_of}
use Rattle.wg_typed.proofs.Earlier.{first_numbers, one_of_all}
use Rattle.wg_layout.specs.declared.parts.FieldRange.{FieldRange}
use Rattle.wg_layout.specs.Layouts.{range_of}
use Rattle.wg_layout.specs.Sizes.{capped_extent}
use Rattle.wg_layout.proofs.Capping.{rounded_least, end_least, even_type, capped_type}

-- ---- the loop over the fields

-- a field's extent in the table, where the field ends, and its range
pub record Placed (extents : List Extent) (fields : List TypedField) (i at : ℕ) (f : TypedField) (x : Extent) (from : ℕ) : Type 0 where
  pub to : from + x.words ≤ 8192
  pub rest : end_after extents (from + x.words) (types_of (drop (i + 1) fields)) ≤ 8192
  pub first : ranges_after extents at (types_of (drop i fields)) ≡ (record { from = from; to = from + x.words }) ∷ ranges_after extents (from + x.words) (types_of (drop (i + 1) fields))

pub placed : (extents table : List Extent) (fields : List TypedField) (i : ℕ) (f : TypedField) (at : ℕ) (x : Extent) (from : ℕ) → f ≡ get_or fields i f → i < length fields → table ≡ map capped_extent extents
    → x ≡ capped_extent (type_extent table f.of) → from ≡ rounded x.even at → end_after extents at (types_of (drop i fields)) ≤ 8192 → Placed extents fields i at f x from
placed extents table fields i f at x from here within says is begin bound =
    let rest : List TypeTree = types_of (drop (i + 1) fields) in
    let of : types_of (drop i fields) ≡ f.of ∷ rest = ap types_of (drop_more fields i f within) ∙ ap (λ (y : TypedField). y.of ∷ rest) (sym here) in
    let end : end_after extents at (types_of (drop i fields)) ≡ end_after extents (range_at extents at f.of).to rest = ap (end_after extents at) of in
    let least = end_least extents (range_at extents at f.of).to rest in
    let in_table : x ≡ capped_extent (type_extent (map capped_extent extents) f.of) = is ∙ ap (λ l. capped_extent (type_extent l f.of)) says in
    let words : x.words ≡ (type_extent extents f.of).words = let a = ap (λ (y : Extent). y.words) in_table in let b = capped_type extents f.of in omega (arith, a, b, end, least, bound) in
    let begun : from ≡ (range_at extents at f.of).from = begin ∙ ap (λ b. rounded b at) (ap (λ (y : Extent). y.even) in_table ∙ even_type extents f.of) in
    let to : from + x.words ≡ (range_at extents at f.of).to = omega (arith, words, begun) in
    record {
      to = omega (arith, to, end, least, bound);
      rest = let e = ap (λ n. end_after extents n rest) to in omega (arith, e, end, bound);
      first =
          ap (ranges_after extents at) of
          ∙ sym (ap (λ n. (record { from = n; to = (range_at extents at f.of).to }) ∷ ranges_after extents (range_at extents at f.of).to rest) begun)
          ∙ sym (ap (λ n. (record { from = from; to = n }) ∷ ranges_after extents n rest) to);
    }

pub next_range : (extents : List Extent) (fields : List TypedField) (i : ℕ) (f : TypedField) (at : ℕ) (x : Extent) (from : ℕ) (before after whole : List FieldRange) → Placed extents fields i at f x from
    → after ≡ before ++ (record { from = from; to = from + x.words }) ∷ [] → before ++ map range_of (ranges_after extents at (types_of (drop i fields))) ≡ whole
    → after ++ map range_of (ranges_after extents (from + x.words) (types_of (drop (i + 1) fields))) ≡ whole
next_range extents fields i f at x from before after whole p pushed says =
    ap (λ l. l ++ map range_of (ranges_after extents (from + x.words) (types_of (drop (i + 1) fields)))) pushed
    ∙ append_assoc before ((record { from = from; to = from + x.words }) ∷ []) (map range_of (ranges_after extents (from + x.words) (types_of (drop (i + 1) fields))))
    ∙ ap (λ l. before ++ map range_of l) (sym p.first) ∙ says

-- ---- a struct's fields end where its words end, or a word before

got_before : (xs : List Extent) (n k : ℕ) → k < n → slice_get (take n xs) k ≡ slice_get xs k
got_before xs zero k lt = absurd (omega (arith, lt))
got_before [] (suc n) k lt = refl
got_before (x ∷ xs) (suc n) zero lt = refl
got_before (x ∷ xs) (suc n) (suc k) lt = got_before xs n k (omega (arith, lt))

below_extent : (extents : List Extent) (n : ℕ) (t : TypeTree) → NamesBelow n t → type_extent (take n extents) t ≡ type_extent extents t
below_extent extents n (type.Scalar of) h = refl
below_extent extents n (type.Vector of size) h = refl
below_extent extents n (type.Struct number) h = ap (λ o. unwrap_or o (plain_extent 0)) (got_before extents n number h)
below_extent extents n (type.Array (element.Scalar of) size) h = refl
below_extent extents n (type.Array (element.Vector of count) size) h = refl
below_extent extents n (type.Array (element.Struct number) size) h = ap (λ o. repeated_extent size (unwrap_or o (plain_extent 0))) (got_before extents n number h)

below_end : (extents : List Extent) (n at : ℕ) (ts : List TypeTree) → Each (NamesBelow n) ts → end_after (take n extents) at ts ≡ end_after extents at ts
below_end extents n at [] h = refl
below_end extents n at (t ∷ rest) h =
    ap (λ (x : Extent). end_after (take n extents) (begins x at + x.words) rest) (below_extent extents n t h.0) ∙ below_end extents n (range_at extents at t).to rest h.1

same_extents : (extents : List Extent) (structs : List TypedStruct) → extents_after extents structs ≡ each_after (λ earlier (s : TypedStruct). fields_extent earlier (field_types s)) extents structs
same_extents extents [] = refl
same_extents extents (s ∷ rest) = same_extents (extents ++ fields_extent extents (field_types s) ∷ []) rest

below_even : (extents : List Extent) (n : ℕ) (ts : List TypeTree) → Each (NamesBelow n) ts → has_even (take n extents) ts ≡ has_even extents ts
below_even extents n [] h = refl
below_even extents n (t ∷ rest) h = ap₂ (λ a b. a || b) (ap (λ (x : Extent). x.even) (below_extent extents n t h.0)) (below_even extents n rest h.1)

pub fields_take : (structs : List TypedStruct) (n : ℕ) (s : TypedStruct) → AreInOrder structs → slice_get structs n ≡ Some s → extent_of structs (type.Struct n) ≡ fields_extent (extents_of structs) (field_types s)
fields_take structs n s order here =
    let make = λ (earlier : List Extent) (s : TypedStruct). fields_extent earlier (field_types s) in
    let is : extent_of structs (type.Struct n) ≡ fields_extent (each_after make [] (take n structs)) (field_types s) =
    ap (λ l. struct_extent l n) (same_extents [] structs) ∙ one_of_all make (plain_extent 0) structs n s (slice_get_within structs n s here) (sym (get_or_from_slice_get structs n s s here)) in
    let before : take n (extents_of structs) ≡ each_after make [] (take n structs) = ap (take n) (same_extents [] structs) ∙ first_numbers make (plain_extent 0) structs n in
    is ∙ ap (λ l. fields_extent l (field_types s)) (sym before)
    ∙ ap₂ (λ even end. record { words = rounded even end; even = even }) (below_even (extents_of structs) n (field_types s) (order n s here)) (below_end (extents_of structs) n 0 (field_types s) (order n s here))

pub fields_end : (structs : List TypedStruct) (n : ℕ) (s : TypedStruct) → AreInOrder structs → slice_get structs n ≡ Some s → end_after (extents_of structs) 0 (field_types s) ≤ words_of structs (type.Struct n)
fields_end structs n s order here =
    let words : words_of structs (type.Struct n) ≡ (fields_extent (extents_of structs) (field_types s)).words = ap (λ (x : Extent). x.words) (fields_take structs n s order here) in
    let least = rounded_least (has_even (extents_of structs) (field_types s)) (end_after (extents_of structs) 0 (field_types s)) in
    omega (arith, words, least)
