-- Fields side by side, and sizes of records.
use Rattle.std.proofs.Common.{◌≡◌, ℕ, suc, Bool, true, false, ◌&&◌, ◌==◌, List, [], ◌∷◌, length, refl, sym, ap, ap₂, ◌∙◌, eq-eqb, eqb-true, Some, slice_get}
use Rattle.wg_tree.specs.declared.expr.Scalar.{Scalar}
use Rattle.wg_typed.specs.declared.types.ElementType.{ElementType}
use Rattle.wg_typed.specs.declared.types.ElementType.TheVariants as element
use Rattle.wg_typed.specs.declared.types.TypeTree.{TypeTree}
use Rattle.wg_typed.specs.declared.types.TypeTree.TheVariants as type
use Rattle.wg_typed.specs.declared.typed.TypedField.{TypedField}
use Rattle.wg_typed.specs.declared.typed.TypedStruct.{TypedStruct}
use Rattle.wg_typing.specs.AttributeSystem.{is_grid_field}
use Rattle.wg_typing.specs.Conversions.{same_scalar, scalar_number, same_element, same_type}
use Rattle.wg_graph_rules.specs.RecordDiffers.{alike, same_field, same_fields, same_struct}

-- ---- fields

same_scalar_self : (s : Scalar) → same_scalar s s ≡ true
same_scalar_self s = eq-eqb (scalar_number s) (scalar_number s) refl

both : {a b : Bool} → a ≡ true → b ≡ true → (a && b) ≡ true
both e f = ap₂ (λ x y. x && y) e f

same_element_self : (e : ElementType) → same_element e e ≡ true
same_element_self (element.Scalar of) = same_scalar_self of
same_element_self (element.Vector of size) = both (same_scalar_self of) (eq-eqb size size refl)
same_element_self (element.Struct number) = eq-eqb number number refl

same_type_self : (t : TypeTree) → same_type t t ≡ true
same_type_self (type.Scalar of) = same_scalar_self of
same_type_self (type.Vector of size) = both (same_scalar_self of) (eq-eqb size size refl)
same_type_self (type.Struct number) = eq-eqb number number refl
same_type_self (type.Array of size) = both (same_element_self of) (eq-eqb size size refl)

alike_self : (b : Bool) → alike b b ≡ true
alike_self true = refl
alike_self false = refl

same_fields_self : (fs : List TypedField) → same_fields fs fs ≡ true
same_fields_self [] = refl
same_fields_self (f ∷ fs) = both (both (same_type_self f.of) (alike_self (is_grid_field f))) (same_fields_self fs)

-- a struct's records are of its own type
pub own_struct : (structs : List TypedStruct) (sent taken : ℕ) (s : TypedStruct) → (sent == taken) ≡ true → slice_get structs sent ≡ Some s → (sent == taken) ≡ same_struct (slice_get structs sent) (slice_get structs taken)
own_struct structs sent taken s t e =
    let f : slice_get structs taken ≡ Some s = ap (slice_get structs) (sym (eqb-true sent taken t)) ∙ e in
    t ∙ sym (ap₂ same_struct e f ∙ same_fields_self s.fields)

pub lengths_differ : (fs gs : List TypedField) → (length fs ≡ length gs → ⊥) → false ≡ same_fields fs gs
lengths_differ [] [] h = absurd (h refl)
lengths_differ [] (g ∷ gs) h = refl
lengths_differ (f ∷ fs) [] h = refl
lengths_differ (f ∷ fs) (g ∷ gs) h = sym (ap (λ b. same_field f g && b) (sym (lengths_differ fs gs (λ e. h (ap suc e)))) ∙ and_none (same_field f g))
  where
    and_none : (b : Bool) → (b && false) ≡ false
    and_none true = refl
    and_none false = refl
