-- What is left of a loop over the structs of a text.
use Rattle.std.proofs.Common.{◌≡◌, ℕ, ◌+◌, ◌<◌, List, [], ◌∷◌, ◌++◌, length, drop, get_or, sym, ap, ◌∙◌}
use Rattle.std.proofs.lemmas.List.{drop_more}
use Rattle.wg_typed.specs.declared.types.Extent.{Extent}
use Rattle.wg_typed.specs.declared.types.WordMark.{WordMark}
use Rattle.wg_typed.specs.declared.typed.TypedStruct.{TypedStruct}
use Rattle.wg_typed.specs.Layout.{field_types, fields_extent, extents_after, extents_of}
use Rattle.wg_typed.specs.Marks.{fields_marks, marks_after}

cut : (structs : List TypedStruct) (i : ℕ) (s : TypedStruct) → s ≡ get_or structs i s → i < length structs → drop i structs ≡ s ∷ drop (i + 1) structs
cut structs i s is lt = drop_more structs i s lt ∙ ap (λ y. y ∷ drop (i + 1) structs) (sym is)

pub extents_next : (structs : List TypedStruct) (i : ℕ) (s : TypedStruct) (list more : List Extent) (x : Extent) → s ≡ get_or structs i s → i < length structs → x ≡ fields_extent list (field_types s) → more ≡ list ++ x ∷ [] → extents_after list (drop i structs) ≡ extents_of structs → extents_after more (drop (i + 1) structs) ≡ extents_of structs
extents_next structs i s list more x is lt e pushed h =
    ap (λ l. extents_after l (drop (i + 1) structs)) pushed
    ∙ ap (λ y. extents_after (list ++ y ∷ []) (drop (i + 1) structs)) e
    ∙ sym (ap (extents_after list) (cut structs i s is lt))
    ∙ h

pub marks_next : (extents : List Extent) (structs : List TypedStruct) (i : ℕ) (s : TypedStruct) (list more : List (List WordMark)) (x : List WordMark) → s ≡ get_or structs i s → i < length structs → x ≡ fields_marks extents list (field_types s) → more ≡ list ++ x ∷ [] → marks_after extents list (drop i structs) ≡ marks_after extents [] structs → marks_after extents more (drop (i + 1) structs) ≡ marks_after extents [] structs
marks_next extents structs i s list more x is lt e pushed h =
    ap (λ l. marks_after extents l (drop (i + 1) structs)) pushed
    ∙ ap (λ y. marks_after extents (list ++ y ∷ []) (drop (i + 1) structs)) e
    ∙ sym (ap (marks_after extents list) (cut structs i s is lt))
    ∙ h
