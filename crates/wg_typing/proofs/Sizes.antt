-- What a struct takes, and whether an attribute stands twice, by what is kept of those before.
use Rattle.std.proofs.Common.{◌≡◌, ℕ, suc, Bool, true, false, List, [], ◌∷◌, ◌++◌, length, map, refl, ap, ◌∙◌, arith}
use Rattle.std.specs.Prelude.{◌+◌, ◌||◌}
use Rattle.std.specs.List.{list_any}
use Rattle.std.specs.Str.{bytes_eq}
use Rattle.std.proofs.Math.Seq.{get_or-append_seam}
use Rattle.std.proofs.lemmas.Option.{unwrap_or-slice_get}
use Rattle.wg_typing.specs.AttributeNames.{standing}
use Rattle.wg_typing.specs.AttributeSites.{Position}
use Rattle.wg_typing.specs.AttributeTwice.{clashes, rival_names, small_name, any_rival, clashes_among}
use Rattle.wg_typing.specs.Named.{is_among}
use Rattle.wg_typing.specs.TypingStruct.{struct_size}
use Rattle.wg_typed.specs.Layout.{plain_extent, struct_extent, field_types, fields_extent, extents_after, extents_of}
use Rattle.wg_typed.specs.declared.types.Extent.{Extent}
use Rattle.wg_typed.specs.declared.typed.TypedStruct.{TypedStruct}
use Rattle.wg_typed.specs.declared.typed_stmt.TypedAttribute.{TypedAttribute}

-- ---- structs

grown : (extents : List Extent) (structs : List TypedStruct) (s : TypedStruct)
    → extents_after extents (structs ++ s ∷ []) ≡ extents_after extents structs ++ fields_extent (extents_after extents structs) (field_types s) ∷ []
grown extents [] s = refl
grown extents (x ∷ rest) s = grown (extents ++ fields_extent extents (field_types x) ∷ []) rest s

pub extents_grow : (structs : List TypedStruct) (s : TypedStruct) → extents_of (structs ++ s ∷ []) ≡ extents_of structs ++ fields_extent (extents_of structs) (field_types s) ∷ []
extents_grow structs s = grown [] structs s

length_push : (xs : List Extent) (x : Extent) → length (xs ++ x ∷ []) ≡ suc (length xs)
length_push [] x = refl
length_push (y ∷ xs) x = ap suc (length_push xs x)

extents_count : (extents : List Extent) (structs : List TypedStruct) → length (extents_after extents structs) ≡ length extents + length structs
extents_count extents [] = omega arith
extents_count extents (s ∷ rest) = extents_count (extents ++ fields_extent extents (field_types s) ∷ []) rest ∙ one_more (length extents) (length rest) _ (length_push extents (fields_extent extents (field_types s)))
  where
    one_more : (m n k : ℕ) → k ≡ suc m → k + n ≡ m + suc n
    one_more m n k e = omega (arith, e)

seam : (xs : List Extent) (y : Extent) → struct_extent (xs ++ y ∷ []) (length xs) ≡ y
seam xs y = unwrap_or-slice_get (xs ++ y ∷ []) (length xs) (plain_extent 0) ∙ get_or-append_seam xs y [] (plain_extent 0)

pub struct_size_is : (structs : List TypedStruct) (s : TypedStruct) → struct_size structs s ≡ (fields_extent (extents_of structs) (field_types s)).words
struct_size_is structs s =
    ap (λ es. (struct_extent es (length structs)).words) (extents_grow structs s)
    ∙ ap (λ n. (struct_extent (extents_of structs ++ fields_extent (extents_of structs) (field_types s) ∷ []) n).words) (counted (extents_count [] structs))
    ∙ ap (λ (x : Extent). x.words) (seam (extents_of structs) (fields_extent (extents_of structs) (field_types s)))
  where
    counted : length (extents_of structs) ≡ 0 + length structs → length structs ≡ length (extents_of structs)
    counted e = omega (arith, e)

-- ---- attributes

between : (a b c d : Bool) → ((a || b) || (c || d)) ≡ ((a || c) || (b || d))
between true b c d = refl
between false true true d = refl
between false true false d = refl
between false false c d = refl

pub clashes_are : (position : Position) (a : TypedAttribute) (before : List TypedAttribute) → list_any (clashes position a) before ≡ clashes_among position (map small_name before) (map (standing position) before) a
clashes_are position a [] = refl
clashes_are position a (b ∷ rest) =
    ap (λ x. clashes position a b || x) (clashes_are position a rest)
    ∙ between (bytes_eq (small_name b) (small_name a)) (rival_names (standing position b) (standing position a)) (is_among (map small_name rest) (small_name a)) (any_rival (standing position a) (map (standing position) rest))
