-- Forms after a value, from left to right, where no rule is broken at any of them.
use Rattle.std.proofs.Common.{ℕ, true, false, List, [], ◌∷◌, Option, Some, None, subst, map, Bool, not, ◌≡◌}
use Rattle.std.specs.Prelude.{slice_get, ◌&&◌}
use Rattle.wg_words.specs.declared.place.Place.{Place}
use Rattle.wg_typing.specs.Conversions.{uint_type}
use Rattle.wg_typing.specs.Layers.{fit, map_form, typed_part}
use Rattle.wg_words.specs.Maybe.{◌>>=◌}
use Rattle.wg_typing.specs.Maybe.{where_true}
use Rattle.wg_typing.specs.RulesMismatchExpr.{unfit_index, is_array}
use Rattle.wg_typing.specs.Scope.{Context}
use Rattle.wg_typing.specs.TypingForms.{begin, finish, struct_field, picked, components_in, member_of, indexed, method_on, form_on, forms_on}
use Rattle.wg_typing.specs.TypingObjects.{method_of, method_value, takes, element_value, has_elements}
use Rattle.wg_typed.specs.declared.typed_expr.TypedExpr.{TypedExpr}
use Rattle.wg_typed.specs.declared.types.TypeTree.{TypeTree}
use Rattle.wg_typed.specs.declared.types.TypeTree.TheVariants as type
use Rattle.wg_typed.specs.declared.typed.TypedStruct.{TypedStruct}
use Rattle.wg_typing.specs.declared.scope.Act.{Act}
use Rattle.wg_typing.specs.declared.scope.Act.TheVariants as act
use Rattle.wg_typing.specs.declared.scope.Object.{Object}
use Rattle.wg_typing.specs.declared.scope.Value.{Value}
use Rattle.wg_typing.specs.declared.scope.Value.TheVariants as value
use Rattle.wg_typing.proofs.Facts.{Empty, Has, has_is_none, has_then, has_through, is_false, implied, is_some_has}
use Rattle.wg_typing.proofs.Methods.{has_element, has_method}
use Rattle.wg_typing.proofs.Parts.{AllTyped, IsTyped, has_fit, said, well_if}
use Rattle.wg_typing.specs.Site.{AtForm}
use Rattle.wg_typing.proofs.Sites.{Clear, Well, well_left, well_right, well_only}
use Rattle.wg_typing.specs.declared.part.FormLayer.{FormLayer}
use Rattle.wg_typing.specs.declared.part.Part.{Part}
use Rattle.wg_typing.specs.declared.part.Reached.{Reached}
use Rattle.wg_typing.specs.declared.part.Along.{Along}
use Rattle.wg_typing.specs.declared.called.Method.{Method}
use Rattle.wg_typing.specs.declared.part.FormLayer.TheVariants as form_layer
use Rattle.wg_typing.specs.declared.part.Along.TheVariants as along
use Rattle.wg_typing.specs.declared.fault.TypingRule.TheVariants.{UnknownName, Mismatch, BadOutputCall, BadBarrier}
use Rattle.wg_typing.specs.PartSites.{is_typed, index_site, method_sites, form_sites}
use Rattle.wg_typing.proofs.Calls.{counted, when_counted}
use Rattle.wg_typing.specs.TypingExpr.{ExprForm, part_of, forms_sites}

-- ---- what forms give

-- a value that has a type is known with its accesses
abbrev Proper : Along → Type 0
Proper (along.Typed r) = Unit {0}
Proper (along.Other (value.Typed of standing tree)) = ⊥
Proper (along.Other (value.Object o element)) = Unit {0}
Proper (along.Other (value.Act name a)) = Unit {0}
Proper (along.Other (value.Text bytes)) = Unit {0}

begin_proper : (v : Value) → Proper (begin v)
begin_proper (value.Typed of standing tree) = tt
begin_proper (value.Object o element) = tt
begin_proper (value.Act name a) = tt
begin_proper (value.Text bytes) = tt

abbrev ProperIf : Option Along → Type 0
ProperIf None = Unit {0}
ProperIf (Some a) = Proper a

then_proper : {A : Type 0} (o : Option A) (f : A → Option Along) → ((a : A) → ProperIf (f a)) → ProperIf (◌>>=◌ o f)
then_proper None f k = tt
then_proper (Some a) f k = k a

member_proper : (structs : List TypedStruct) (of : TypeTree) (name : List ℕ) (r : Reached) → ProperIf (member_of structs of name r)
member_proper structs (type.Scalar of) name r = tt
member_proper structs (type.Vector of size) name r = then_proper (components_in size name) _ pick
  where
    pick : (c : List ℕ) → ProperIf (picked of r c)
    pick [] = tt
    pick (c ∷ []) = tt
    pick (c ∷ d ∷ rest) = tt
member_proper structs (type.Struct number) name r = then_proper (struct_field name (slice_get structs number)) _ (λ f. tt)
member_proper structs (type.Array of size) name r = tt

index_proper : (of : TypeTree) (p : Part) (r : Reached) → ProperIf (indexed of p r)
index_proper (type.Scalar of) p r = tt
index_proper (type.Vector of size) p r = tt
index_proper (type.Struct number) p r = tt
index_proper (type.Array of size) p r = then_proper (fit uint_type p) _ (λ i. tt)

method_proper : (place name : Place) (o : Object) (element : Option TypedExpr) (parts : List Part) (m : Method) → ProperIf (method_on place name o element parts m)
method_proper place name o element parts m = then_proper (◌>>=◌ (where_true (takes o m parts) parts) (method_value place name o element m)) _ begin_proper

form_proper : (c : Context) (place : Place) (a : Along) (f : FormLayer Part) → ProperIf (form_on c place a f)
form_proper c place (along.Typed r) (form_layer.Member name) = member_proper c.structs r.of name.name r
form_proper c place (along.Typed r) (form_layer.Method name parts) = tt
form_proper c place (along.Typed r) (form_layer.Index p) = index_proper r.of p r
form_proper c place (along.Other (value.Typed of standing tree)) f = tt
form_proper c place (along.Other (value.Object o element)) (form_layer.Member name) = tt
form_proper c place (along.Other (value.Object o element)) (form_layer.Method name parts) = then_proper (method_of o name.name) _ (method_proper place name.place o element parts)
form_proper c place (along.Other (value.Object o element)) (form_layer.Index p) = then_proper (◌>>=◌ (fit uint_type p) (element_value place o)) _ begin_proper
form_proper c place (along.Other (value.Act name a)) f = tt
form_proper c place (along.Other (value.Text bytes)) f = tt

-- ---- one form

-- the arguments and the index of a form have types
abbrev pub FormTyped : FormLayer Part → Type 0
FormTyped (form_layer.Member name) = Unit {0}
FormTyped (form_layer.Method name parts) = AllTyped parts
FormTyped (form_layer.Index p) = IsTyped p

never : {A : Type 0} → false ≡ true → A
never e = absurd (cc)

-- what has elements, where an index that has a type stands
indexed_only : (elements : Bool) (place : Place) (p : Part) → IsTyped p → Empty (unfit_index elements place (form_layer.Index p)) → elements ≡ true
indexed_only elements place p h e = implied (is_typed p) elements (is_some_has (typed_part p) h) (is_false (is_typed p && not elements) place e)

has_index : (place : Place) (of : TypeTree) (p : Part) (r : Reached) → IsTyped p → Empty (unfit_index (is_array of) place (form_layer.Index p)) → Well (index_site of p) → Has (indexed of p r)
has_index place (type.Scalar of) p r h e w = never (indexed_only false place p h e)
has_index place (type.Vector of size) p r h e w = never (indexed_only false place p h e)
has_index place (type.Struct number) p r h e w = never (indexed_only false place p h e)
has_index place (type.Array of size) p r h e w = has_then (fit uint_type p) _ (has_fit uint_type p h w) (λ i q. tt)

has_no_form : (c : Context) (place name : Place) (x : Act) (f : FormLayer Part) → Clear (AtForm c place (along.Other (value.Act name x)) f) → ⊥
has_no_form c place name (act.Step s) f h = h.clear Mismatch
has_no_form c place name (act.Barrier true) f h = h.clear BadBarrier
has_no_form c place name (act.Barrier false) f h = h.clear Mismatch
has_no_form c place name (act.Request group output number element amount) f h = h.clear BadOutputCall
has_no_form c place name (act.Increment group output element amount) f h = h.clear BadOutputCall
has_no_form c place name (act.Complete handle) f h = h.clear BadOutputCall
has_no_form c place name (act.Finished tracked) f h = h.clear BadOutputCall

has_form : (c : Context) (place : Place) (a : Along) (f : FormLayer Part) → Proper a → FormTyped f → Clear (AtForm c place a f) → Well (form_sites a f) → Has (form_on c place a f)
has_form c place (along.Typed r) (form_layer.Member name) d t h w = has_is_none (member_of c.structs r.of name.name r) (is_false _ name.place (h.clear UnknownName))
has_form c place (along.Typed r) (form_layer.Method name parts) d t h w = absurd (h.clear UnknownName)
has_form c place (along.Typed r) (form_layer.Index p) d t h w = has_index place r.of p r t (h.clear Mismatch) w
has_form c place (along.Other (value.Typed of standing tree)) f d t h w = absurd d
has_form c place (along.Other (value.Object o element)) (form_layer.Member name) d t h w = absurd (h.clear UnknownName)
has_form c place (along.Other (value.Object o element)) (form_layer.Method name parts) d t h w =
    has_then (method_of o name.name) _ (has_is_none (method_of o name.name) (is_false _ name.place (h.clear UnknownName))) (λ m q.
    let arguments = said parts _ t (subst (λ x. Well (method_sites o name.place x parts)) q w) in
    let taken = counted name.place (takes o m parts) _ arguments in
    has_then (◌>>=◌ (where_true (takes o m parts) parts) (method_value place name.place o element m)) _
    (has_through (takes o m parts) parts (method_value place name.place o element m) taken
    (has_method place name.place o element m parts name.name q taken t (when_counted name.place (takes o m parts) _ arguments)))
    (λ v r. tt))
has_form c place (along.Other (value.Object o element)) (form_layer.Index p) d t h w =
    let e = indexed_only (has_elements o) place p t (h.clear Mismatch) in
    has_then (◌>>=◌ (fit uint_type p) (element_value place o)) _ (has_then (fit uint_type p) _ (has_fit uint_type p t (well_if (has_elements o) _ e w)) (λ i q. has_element place o i e)) (λ v r. tt)
has_form c place (along.Other (value.Act name x)) f d t h w = absurd (has_no_form c place name x f h)
has_form c place (along.Other (value.Text bytes)) f d t h w = absurd (h.clear Mismatch)

-- ---- all forms

abbrev pub FormsTyped : List (FormLayer ExprForm) → Type 0
FormsTyped [] = Unit {0}
FormsTyped (f ∷ rest) = FormTyped (map_form part_of f) × FormsTyped rest

has_all_forms : (c : Context) (place : Place) (a : Along) (forms : List (FormLayer ExprForm)) → Proper a → FormsTyped forms → Well (forms_sites c place (Some a) forms) → Has (forms_on c place a (map (map_form part_of) forms))
has_all_forms c place a [] d t h = tt
has_all_forms c place a (f ∷ rest) d t h =
    let here = well_left (well_right h) in
    has_then (form_on c place a (map_form part_of f)) _ (has_form c place a (map_form part_of f) d t.0 (well_only (well_left here)) (well_right here)) (λ b q.
    has_all_forms c place b rest (subst ProperIf q (form_proper c place a (map_form part_of f))) t.1 (subst (λ x. Well (forms_sites c place x rest)) q (well_right (well_right (well_right h)))))

-- a value with forms after it
pub has_forms : (c : Context) (place : Place) (v : Option Value) (forms : List (FormLayer ExprForm)) → Has v → FormsTyped forms → Well (forms_sites c place (◌>>=◌ v (λ v. Some (begin v))) forms)
    → Has (◌>>=◌ (◌>>=◌ (◌>>=◌ v (λ v. Some (begin v))) (λ a. forms_on c place a (map (map_form part_of) forms))) (λ a. Some (finish place a)))
has_forms c place None forms h t k = absurd h
has_forms c place (Some v) forms h t k = has_then (forms_on c place (begin v) (map (map_form part_of) forms)) _ (has_all_forms c place (begin v) forms (begin_proper v) t k) (λ a q. tt)
