-- What structs take, in a table whose numbers of words stop at one above the greatest that a type may have.
use Rattle.std.proofs.Common.{◌≡◌, ℕ, zero, suc, ◌+◌, ◌*◌, ◌<◌, ◌≤◌, Bool, true, false, refl, sym, ap, ◌∙◌, List, [], ◌∷◌, ◌++◌, length, map, drop, Option, Some, None, get_or, arith, ⊎_elim}
use Rattle.std.specs.Prelude.{min, slice_get, unwrap_or, ◌||◌}
use Rattle.std.specs.Option.{option_map}
use Rattle.std.proofs.Math.Nat.{suc-mul}
use Rattle.std.proofs.lemmas.Bool.{cases_lt}
use Rattle.std.proofs.lemmas.List.{drop_more, drop_all}
use Rattle.std.proofs.lemmas.Option.{slice_get-map}
use Rattle.wg_typed.specs.declared.types.Extent.{Extent}
use Rattle.wg_typed.specs.declared.types.ElementType.TheVariants as element
use Rattle.wg_typed.specs.declared.types.TypeTree.{TypeTree}
use Rattle.wg_typed.specs.declared.types.TypeTree.TheVariants as type
use Rattle.wg_typed.specs.declared.typed.TypedField.{TypedField}
use Rattle.wg_typed.specs.declared.typed.TypedStruct.{TypedStruct}
use Rattle.wg_typed.specs.Layout.{type_extent, struct_extent, plain_extent, rounded, range_at, end_after, has_even, fields_extent, types_of, field_types, extents_after}
use Rattle.wg_layout.specs.Sizes.{capped, capped_extent, table_of}

-- ---- numbers of words

pub rounded_least : (even : Bool) (n : ℕ) → n ≤ rounded even n
rounded_least true n = omega arith
rounded_least false n = omega arith

-- one word more at most
pub rounded_most : (even : Bool) (n : ℕ) → rounded even n ≤ n + 1
rounded_most true n = omega arith
rounded_most false n = omega arith

-- two numbers that the table cannot tell apart are one, or both too great
apart : {X : Type 0} (f : ℕ → X) (a b : ℕ) → capped a ≡ capped b → (8193 ≤ a → 8193 ≤ b → f a ≡ f b) → f a ≡ f b
apart f a b same great = ⊎_elim (λ lt. let e : a ≡ b = omega (arith, lt, same) in ap f e) (λ le. great le (omega (arith, le, same))) (cases_lt a 8193)

pub capped_round : (even : Bool) (a b : ℕ) → capped a ≡ capped b → capped (rounded even a) ≡ capped (rounded even b)
capped_round even a b same = apart (λ n. capped (rounded even n)) a b same (λ p q. let x = rounded_least even a in let y = rounded_least even b in omega (arith, p, q, x, y))

-- ---- parts one after another

pub end_least : (extents : List Extent) (at : ℕ) (ts : List TypeTree) → at ≤ end_after extents at ts
end_least extents at [] = omega arith
end_least extents at (t ∷ rest) =
    let a = rounded_least (type_extent extents t).even at in
    let b = end_least extents (range_at extents at t).to rest in
    omega (arith, a, b)

pub capped_from : (extents : List Extent) (a b : ℕ) (ts : List TypeTree) → capped a ≡ capped b → capped (end_after extents a ts) ≡ capped (end_after extents b ts)
capped_from extents a b ts same = apart (λ n. capped (end_after extents n ts)) a b same (λ p q. let x = end_least extents a ts in let y = end_least extents b ts in omega (arith, p, q, x, y))

-- ---- a table of capped extents

product : (n s : ℕ) → capped (n * capped s) ≡ capped (n * s)
product zero s = ap capped (omega arith)
product (suc n) s = ⊎_elim (λ lt. let same : capped s ≡ s = omega (arith, lt) in ap (λ w. capped (suc n * w)) same) great (cases_lt s 8193)
  where
    great : 8193 ≤ s → capped (suc n * capped s) ≡ capped (suc n * s)
    great le =
        let a : suc n * s ≡ n * s + s = suc-mul n s in
        let b : suc n * capped s ≡ n * capped s + capped s = suc-mul n (capped s) in
        omega (arith, a, b, le)

in_table : (extents : List Extent) (number : ℕ) → struct_extent (map capped_extent extents) number ≡ capped_extent (struct_extent extents number)
in_table extents number = ap (λ o. unwrap_or o (plain_extent 0)) (slice_get-map capped_extent extents number) ∙ cases (slice_get extents number)
  where
    cases : (o : Option Extent) → unwrap_or (option_map capped_extent o) (plain_extent 0) ≡ capped_extent (unwrap_or o (plain_extent 0))
    cases None = refl
    cases (Some x) = refl

pub even_type : (extents : List Extent) (t : TypeTree) → (type_extent (map capped_extent extents) t).even ≡ (type_extent extents t).even
even_type extents (type.Scalar of) = refl
even_type extents (type.Vector of size) = refl
even_type extents (type.Struct number) = ap (λ (x : Extent). x.even) (in_table extents number)
even_type extents (type.Array (element.Scalar of) size) = refl
even_type extents (type.Array (element.Vector of count) size) = refl
even_type extents (type.Array (element.Struct number) size) = ap (λ (x : Extent). x.even) (in_table extents number)

pub capped_type : (extents : List Extent) (t : TypeTree) → capped (type_extent (map capped_extent extents) t).words ≡ capped (type_extent extents t).words
capped_type extents (type.Scalar of) = refl
capped_type extents (type.Vector of size) = refl
capped_type extents (type.Struct number) = let e = ap (λ (x : Extent). x.words) (in_table extents number) in omega (arith, e)
capped_type extents (type.Array (element.Scalar of) size) = refl
capped_type extents (type.Array (element.Vector of count) size) = refl
capped_type extents (type.Array (element.Struct number) size) = ap (λ (x : Extent). capped (size * x.words)) (in_table extents number) ∙ product size (struct_extent extents number).words

pub same_even : (extents : List Extent) (ts : List TypeTree) → has_even (map capped_extent extents) ts ≡ has_even extents ts
same_even extents [] = refl
same_even extents (t ∷ rest) = ap (λ b. b || has_even (map capped_extent extents) rest) (even_type extents t) ∙ ap (λ b. (type_extent extents t).even || b) (same_even extents rest)

pub capped_end : (extents : List Extent) (at : ℕ) (ts : List TypeTree) → capped (end_after (map capped_extent extents) at ts) ≡ capped (end_after extents at ts)
capped_end extents at [] = refl
capped_end extents at (t ∷ rest) =
    let e : rounded (type_extent (map capped_extent extents) t).even at ≡ rounded (type_extent extents t).even at = ap (λ b. rounded b at) (even_type extents t) in
    let c = capped_type extents t in
    let same : capped (range_at (map capped_extent extents) at t).to ≡ capped (range_at extents at t).to = omega (arith, e, c) in
    capped_end extents (range_at (map capped_extent extents) at t).to rest ∙ capped_from extents (range_at (map capped_extent extents) at t).to (range_at extents at t).to rest same

pub capped_fields : (extents : List Extent) (ts : List TypeTree) → capped_extent (fields_extent (map capped_extent extents) ts) ≡ capped_extent (fields_extent extents ts)
capped_fields extents ts =
    ap (λ b. capped_extent (record { words = rounded b (end_after (map capped_extent extents) 0 ts); even = b })) (same_even extents ts)
    ∙ ap (λ n. record { words = n; even = has_even extents ts }) (capped_round (has_even extents ts) (end_after (map capped_extent extents) 0 ts) (end_after extents 0 ts) (capped_end extents 0 ts))

-- ---- the loop over the fields of a struct

pub record Reached (extents : List Extent) (items fields : List TypedField) (i at : ℕ) (even : Bool) : Type 0 where
  pub bound : at ≤ 8193
  pub end : capped (end_after extents at (types_of (drop i items))) ≡ capped (end_after extents 0 (types_of fields))
  pub evens : (even || has_even extents (types_of (drop i items))) ≡ has_even extents (types_of fields)

either : (a b c : Bool) → ((a || b) || c) ≡ (a || (b || c))
either true b c = refl
either false b c = refl

pub joined_first : (a b r : Bool) → a ≡ true → r ≡ a → r ≡ (a || b)
joined_first a b r first is = is ∙ (first ∙ sym (ap (λ x. x || b) first))

pub joined_second : (a b r : Bool) → a ≡ false → r ≡ b → r ≡ (a || b)
joined_second a b r first is = is ∙ sym (ap (λ x. x || b) first)

pub field_added : (extents : List Extent) (items fields : List TypedField) (i : ℕ) (f : TypedField) (at after : ℕ) (even both : Bool) (x : Extent) → f ≡ get_or items i f → i < length items
    → x ≡ capped_extent (type_extent extents f.of) → after ≡ min (rounded x.even at + x.words) 8193
    → both ≡ (even || x.even) → Reached extents items fields i at even → Reached extents items fields (i + 1) after both
field_added extents items fields i f at after even both x here within is sum joined so_far =
    let of : types_of (drop i items) ≡ f.of ∷ types_of (drop (i + 1) items) =
    ap types_of (drop_more items i f within) ∙ ap (λ (y : TypedField). y.of ∷ types_of (drop (i + 1) items)) (sym here) in
    let e : x.even ≡ (type_extent extents f.of).even = ap (λ (y : Extent). y.even) is in
    let w : x.words ≡ capped (type_extent extents f.of).words = ap (λ (y : Extent). y.words) is in
    let from : rounded x.even at ≡ rounded (type_extent extents f.of).even at = ap (λ b. rounded b at) e in
    record {
      bound = omega (arith, sum);
      end =
          capped_from extents after (range_at extents at f.of).to (types_of (drop (i + 1) items)) (omega (arith, sum, from, w))
          ∙ sym (ap (λ l. capped (end_after extents at l)) of) ∙ so_far.end;
      evens =
          ap (λ b. b || has_even extents (types_of (drop (i + 1) items))) joined
          ∙ either even x.even (has_even extents (types_of (drop (i + 1) items)))
          ∙ ap (λ b. even || (b || has_even extents (types_of (drop (i + 1) items)))) e
          ∙ sym (ap (λ l. even || has_even extents l) of) ∙ so_far.evens;
    }

or_none : (b : Bool) → (b || false) ≡ b
or_none true = refl
or_none false = refl

pub fields_ended : (extents : List Extent) (items fields : List TypedField) (i at words : ℕ) (even : Bool) → length items ≤ i → words ≡ capped (rounded even at) → Reached extents items fields i at even
    → record { words = words; even = even } ≡ capped_extent (fields_extent extents (types_of fields))
fields_ended extents items fields i at words even le is so_far =
    let none : types_of (drop i items) ≡ [] = ap types_of (drop_all i items le) in
    let evens : even ≡ has_even extents (types_of fields) = sym (or_none even) ∙ sym (ap (λ l. even || has_even extents l) none) ∙ so_far.evens in
    let end : capped at ≡ capped (end_after extents 0 (types_of fields)) = sym (ap (λ l. capped (end_after extents at l)) none) ∙ so_far.end in
    ap (λ n. record { words = n; even = even }) (is ∙ capped_round even at (end_after extents 0 (types_of fields)) end)
    ∙ ap (λ b. capped_extent (record { words = rounded b (end_after extents 0 (types_of fields)); even = b })) evens

-- ---- the loop over the structs

-- the table of structs, after those of which this is the table
abbrev pub table_after : List Extent → List TypedStruct → List Extent
table_after table [] = table
table_after table (s ∷ rest) = table_after (table ++ capped_extent (fields_extent table (field_types s)) ∷ []) rest

pub one_struct : (table whole : List Extent) (structs : List TypedStruct) (i : ℕ) (s : TypedStruct) (after : List Extent) → s ≡ get_or structs i s → i < length structs → after ≡ table ++ capped_extent (fields_extent table (field_types s)) ∷ []
    → table_after table (drop i structs) ≡ whole → table_after after (drop (i + 1) structs) ≡ whole
one_struct table whole structs i s after at within is says =
    ap (λ l. table_after l (drop (i + 1) structs)) is ∙ ap (λ (x : TypedStruct). table_after table (x ∷ drop (i + 1) structs)) at
    ∙ sym (ap (table_after table) (drop_more structs i s within)) ∙ says

pub structs_ended : (table whole : List Extent) (structs : List TypedStruct) (i : ℕ) → length structs ≤ i → table_after table (drop i structs) ≡ whole → table ≡ whole
structs_ended table whole structs i le says = sym (ap (table_after table) (drop_all i structs le)) ∙ says

map_more : (xs : List Extent) (y : Extent) → map capped_extent (xs ++ y ∷ []) ≡ map capped_extent xs ++ capped_extent y ∷ []
map_more [] y = refl
map_more (x ∷ xs) y = ap (λ l. capped_extent x ∷ l) (map_more xs y)

table_from : (extents : List Extent) (structs : List TypedStruct) → table_after (map capped_extent extents) structs ≡ map capped_extent (extents_after extents structs)
table_from extents [] = refl
table_from extents (s ∷ rest) =
    ap (λ x. table_after (map capped_extent extents ++ x ∷ []) rest) (capped_fields extents (field_types s))
    ∙ ap (λ l. table_after l rest) (sym (map_more extents (fields_extent extents (field_types s))))
    ∙ table_from (extents ++ fields_extent extents (field_types s) ∷ []) rest

pub table_is : (structs : List TypedStruct) → table_after [] structs ≡ table_of structs
table_is structs = table_from [] structs
