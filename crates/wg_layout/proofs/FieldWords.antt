-- The words of a struct's value, part by part.
use Rattle.std.proofs.Common.{◌≡◌, ℕ, zero, suc, ◌+◌, ◌-◌, ◌<◌, ◌≤◌, refl, sym, subst, ap, ◌∙◌, List, [], ◌∷◌, ◌++◌, length, map, take, drop, Some, get_or, arith, replicate, length-append, ⊎_elim}
use Rattle.std.specs.Prelude.{slice_get, slice_index, unwrap_or}
use Rattle.std.proofs.Math.Seq.{take-append_seam, drop-append_seam, get_or-append_right}
use Rattle.std.proofs.Math.ListN.{get_or-append}
use Rattle.std.proofs.lemmas.List.{append_assoc, drop-take, length-replicate, get_or-take}
use Rattle.wg_typed.specs.declared.types.Extent.{Extent}
use Rattle.wg_typed.specs.declared.types.TypeTree.{TypeTree}
use Rattle.wg_typed.specs.declared.types.TypeTree.TheVariants as type
use Rattle.wg_typed.specs.declared.typed.TypedStruct.{TypedStruct}
use Rattle.wg_typed.specs.Layout.{Range, AreInOrder, type_extent, range_at, ranges_after, end_after, extents_of, field_types, words_of, words_in, field_ranges, ranges_in, nowhere, padded, put_after, put_fields}
use Rattle.wg_layout.specs.FieldWords.{AreParts, IsBetween, HoldsFields}
use Rattle.wg_layout.proofs.Capping.{rounded_least}
use Rattle.wg_layout.proofs.Ranges.{fields_end}

-- ---- what stands stays

more_taken : (n m : ℕ) (xs : List ℕ) → n ≤ m → take n (take m xs) ≡ take n xs
more_taken zero m xs le = refl
more_taken (suc n) zero xs le = absurd (omega (arith, le))
more_taken (suc n) (suc m) [] le = refl
more_taken (suc n) (suc m) (x ∷ xs) le = ap (λ l. x ∷ l) (more_taken n m xs (omega arith))

-- the words with the first of the parts behind them
abbrev with_part : List ℕ → Range → List ℕ → List ℕ
with_part words r part = padded r.from words ++ part

padded_length : (size : ℕ) (words : List ℕ) → length words ≤ size → length (padded size words) ≡ size
padded_length size words le = let a = length-append words (replicate (size - length words) 0) in let b = length-replicate {A = ℕ} (size - length words) 0 in omega (arith, a, b, le)

stays : (words : List ℕ) (ranges : List Range) (parts : List (List ℕ)) (more : List ℕ) → take (length words) (put_after words ranges parts ++ more) ≡ words
stays words [] parts more = take-append_seam words more
stays words (r ∷ rest) [] more = take-append_seam words more
stays words (r ∷ rest) (part ∷ parts) more =
    let next = with_part words r part in
    let longer : length words ≤ length next = let a = length-append (padded r.from words) part in let b = length-append words (replicate (r.from - length words) 0) in omega (arith, a, b) in
    sym (more_taken (length words) (length next) (put_after next rest parts ++ more) longer)
    ∙ ap (take (length words)) (stays next rest parts more)
    ∙ ap (take (length words)) (append_assoc words (replicate (r.from - length words) 0) part)
    ∙ take-append_seam words (replicate (r.from - length words) 0 ++ part)

-- ---- a part stands in its range

in_range : (r : Range) (before part whole : List ℕ) → length before ≡ r.from → r.to ≡ r.from + length part → take (length (before ++ part)) whole ≡ before ++ part → words_in r whole ≡ part
in_range r before part whole from to says =
    let size : r.to - r.from ≡ length part = omega (arith, to) in
    let sum : length (before ++ part) ≡ length before + length part = length-append before part in
    ap (λ n. take n (drop r.from whole)) size
    ∙ ap (λ n. take (length part) (drop n whole)) (sym from)
    ∙ sym (drop-take (length before) (length part) whole)
    ∙ ap (λ n. drop (length before) (take n whole)) (sym sum)
    ∙ ap (drop (length before)) says
    ∙ drop-append_seam before part

-- parts of these types
abbrev Sized : List Extent → List TypeTree → List (List ℕ) → Type 0
Sized extents ts parts = map length parts ≡ map (λ t. (type_extent extents t).words) ts

some_head : (a b : ℕ) (xs ys : List ℕ) → a ∷ xs ≡ b ∷ ys → a ≡ b
some_head a b xs ys e = ap (λ l. get_or l 0 0) e

some_tail : (a b : ℕ) (xs ys : List ℕ) → a ∷ xs ≡ b ∷ ys → xs ≡ ys
some_tail a b xs ys e = ap (drop 1) e

next_length : (extents : List Extent) (at : ℕ) (t : TypeTree) (words part : List ℕ) → length words ≡ at → length part ≡ (type_extent extents t).words → length (with_part words (range_at extents at t) part) ≡ (range_at extents at t).to
next_length extents at t words part same size =
    let least = rounded_least (type_extent extents t).even at in
    let a = padded_length (range_at extents at t).from words (omega (arith, same, least)) in
    let b = length-append (padded (range_at extents at t).from words) part in
    omega (arith, a, b, size)

part_stands : (extents : List Extent) (at : ℕ) (ts : List TypeTree) (parts : List (List ℕ)) (words more : List ℕ) (k : ℕ) (part : List ℕ) → length words ≡ at → Sized extents ts parts → slice_get parts k ≡ Some part
    → words_in (unwrap_or (slice_get (ranges_after extents at ts) k) nowhere) (put_after words (ranges_after extents at ts) parts ++ more) ≡ part
part_stands extents at [] [] words more k part same sizes here = absurd cc
part_stands extents at [] (p ∷ ps) words more k part same sizes here = absurd cc
part_stands extents at (t ∷ ts) [] words more k part same sizes here = absurd cc
part_stands extents at (t ∷ ts) (p ∷ ps) words more zero part same sizes here =
    let r = range_at extents at t in
    let size : length p ≡ (type_extent extents t).words = some_head _ _ _ _ sizes in
    let least = rounded_least (type_extent extents t).even at in
    let is : p ≡ part = ap (λ o. unwrap_or o []) here in
    in_range r (padded r.from words) p (put_after (with_part words r p) (ranges_after extents r.to ts) ps ++ more) (padded_length r.from words (omega (arith, same, least))) (omega (arith, size)) (stays (with_part words r p) (ranges_after extents r.to ts) ps more) ∙ is
part_stands extents at (t ∷ ts) (p ∷ ps) words more (suc k) part same sizes here =
    let r = range_at extents at t in
    part_stands extents r.to ts ps (with_part words r p) more k part (next_length extents at t words p same (some_head _ _ _ _ sizes)) (some_tail _ _ _ _ sizes) here

-- ---- the length

all_length : (extents : List Extent) (at : ℕ) (ts : List TypeTree) (parts : List (List ℕ)) (words : List ℕ) → length words ≡ at → Sized extents ts parts → length (put_after words (ranges_after extents at ts) parts) ≡ end_after extents at ts
all_length extents at [] parts words same sizes = same
all_length extents at (t ∷ ts) [] words same sizes = absurd cc
all_length extents at (t ∷ ts) (p ∷ ps) words same sizes =
    all_length extents (range_at extents at t).to ts ps (with_part words (range_at extents at t) p) (next_length extents at t words p same (some_head _ _ _ _ sizes)) (some_tail _ _ _ _ sizes)

-- ---- between the parts there are zeros

zeros_at : (n i : ℕ) → get_or {A = ℕ} (replicate n 0) i 0 ≡ 0
zeros_at zero i = refl
zeros_at (suc n) zero = refl
zeros_at (suc n) (suc i) = zeros_at n i

behind : (words : List ℕ) (n i : ℕ) → length words ≤ i → get_or {A = ℕ} (words ++ replicate n 0) i 0 ≡ 0
behind words n i le = get_or-append_right words (replicate n 0) i 0 le ∙ zeros_at n (i - length words)

is_before : (extents : List Extent) (at : ℕ) (t : TypeTree) (ts : List TypeTree) (p : List ℕ) (ps : List (List ℕ)) (words : List ℕ) (n i : ℕ) → length words ≡ at → Sized extents (t ∷ ts) (p ∷ ps) → length words ≤ i → i < (range_at extents at t).from
    → get_or (put_after words (ranges_after extents at (t ∷ ts)) (p ∷ ps) ++ replicate n 0) i 0 ≡ 0
is_before extents at t ts p ps words n i same sizes le lt =
    let r : Range = range_at extents at t in
    let next : List ℕ = with_part words r p in
    let rest : List Range = ranges_after extents r.to ts in
    let length_next : length next ≡ r.to = next_length extents at t words p same (some_head _ _ _ _ sizes) in
    let least : at ≤ r.from = rounded_least (type_extent extents t).even at in
    let size : length (padded r.from words) ≡ r.from = padded_length r.from words (omega (arith, same, least)) in
    sym (get_or-take (length next) (put_after next rest ps ++ replicate n 0) i 0 (omega (arith, length_next, lt)))
    ∙ ap (λ l. get_or l i 0) (stays next rest ps (replicate n 0))
    ∙ get_or-append (padded r.from words) p 0 i (omega (arith, size, lt))
    ∙ behind words (r.from - length words) i le

is_zero : (extents : List Extent) (at : ℕ) (ts : List TypeTree) (parts : List (List ℕ)) (words : List ℕ) (n i : ℕ) → length words ≡ at → Sized extents ts parts → length words ≤ i → IsBetween i (ranges_after extents at ts)
    → get_or (put_after words (ranges_after extents at ts) parts ++ replicate n 0) i 0 ≡ 0
is_zero extents at [] parts words n i same sizes le between = behind words n i le
is_zero extents at (t ∷ ts) [] words n i same sizes le between = absurd cc
is_zero extents at (t ∷ ts) (p ∷ ps) words n i same sizes le between =
    let r = range_at extents at t in
    let longer = next_length extents at t words p same (some_head _ _ _ _ sizes) in
    ⊎_elim (λ lt. is_before extents at t ts p ps words n i same sizes le lt) (λ ge. is_zero extents r.to ts ps (with_part words r p) n i longer (some_tail _ _ _ _ sizes) (omega (arith, longer, ge)) between.1) between.0

-- ---- a struct's value

pub holds_fields : (structs : List TypedStruct) (number : ℕ) (s : TypedStruct) (parts : List (List ℕ)) → AreInOrder structs → slice_get structs number ≡ Some s → AreParts structs s parts → HoldsFields structs number parts
holds_fields structs number s parts order here sizes =
    let extents = extents_of structs in
    let ranges : field_ranges structs (type.Struct number) ≡ ranges_after extents 0 (field_types s) = ap (ranges_in structs) here in
    let value : List ℕ = put_after [] (ranges_after extents 0 (field_types s)) parts in
    let more : List ℕ = replicate (words_of structs (type.Struct number) - length value) 0 in
    let is : put_fields structs (type.Struct number) parts ≡ value ++ more = ap (λ l. padded (words_of structs (type.Struct number)) (put_after [] l parts)) ranges in
    record {
      size =
          let a = all_length extents 0 (field_types s) parts [] refl sizes in
          let b = fields_end structs number s order here in
          ap length is ∙ padded_length (words_of structs (type.Struct number)) value (omega (arith, a, b));
      fields = λ k part found.
          ap (λ l. words_in (unwrap_or (slice_get (field_ranges structs (type.Struct number)) k) nowhere) l) is
          ∙ ap (λ l. words_in (unwrap_or (slice_get l k) nowhere) (value ++ more)) ranges
          ∙ part_stands extents 0 (field_types s) parts [] more k part refl sizes found;
      between = λ at none.
          ap (λ l. slice_index l at) is
          ∙ is_zero extents 0 (field_types s) parts [] (words_of structs (type.Struct number) - length value) at refl sizes (omega arith) (subst (IsBetween at) ranges none);
    }
