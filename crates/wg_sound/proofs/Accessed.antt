-- Members, methods and indexes after a value are sound.
use Rattle.std.proofs.Common.{◌≡◌, ℕ, suc, ◌+◌, Bool, true, false, cond, List, [], ◌∷◌, ◌++◌, map, length, Option, Some, None, refl, sym, ap, ◌∙◌, subst, arith}
use Rattle.std.specs.Prelude.{◌&&◌, nat_lt, slice_get}
use Rattle.std.specs.Str.{bytes_eq}
use Rattle.wg_words.specs.declared.place.Place.{Place}
use Rattle.wg_typing.specs.Conversions.{same_type, uint_type}
use Rattle.wg_typing.specs.Layers.{fit}
use Rattle.wg_typing.specs.Maybe.{where_true, all_of}
use Rattle.wg_typing.specs.Scope.{Context}
use Rattle.wg_typing.specs.TypingForms.{begin, with_accesses, finish, extended, field_from, struct_field, letter, component_in, components_in, picked, member_of, indexed, after_object, after_typed, form_on, forms_on, begun, postfix_value}
use Rattle.wg_typing.specs.TypingInterlocked.{is_fixed}
use Rattle.wg_typing.specs.TypingObjects.{method_of, method_value, takes, element_value}
use Rattle.wg_typed.specs.Layout.{types_of, field_types, element_type}
use Rattle.wg_sound.specs.Room.{Room}
use Rattle.wg_sound.specs.SoundExpr.{shown, form_of}
use Rattle.wg_sound.specs.SoundForms.{Form, is_a, field_of, are_components, is_element, all_follow, all_single}
use Rattle.wg_facts.specs.Tests.{test, every}
use Rattle.wg_tree.specs.declared.expr.Scalar.{Scalar}
use Rattle.wg_typed.specs.declared.types.TypeTree.{TypeTree}
use Rattle.wg_typed.specs.declared.types.TypeTree.TheVariants as type
use Rattle.wg_typed.specs.declared.typed.TypedStruct.{TypedStruct}
use Rattle.wg_typed.specs.declared.typed.TypedField.{TypedField}
use Rattle.wg_typed.specs.declared.typed_expr.TypedExpr.{TypedExpr}
use Rattle.wg_typed.specs.declared.typed_expr.TypedKind.TheVariants as tree
use Rattle.wg_typed.specs.declared.typed_expr.Access.{Access}
use Rattle.wg_typed.specs.declared.typed_expr.Access.TheVariants as access
use Rattle.wg_typing.specs.declared.scope.Object.{Object}
use Rattle.wg_typing.specs.declared.scope.Standing.{Standing}
use Rattle.wg_typing.specs.declared.scope.Standing.TheVariants as standing
use Rattle.wg_typing.specs.declared.scope.Value.{Value}
use Rattle.wg_typing.specs.declared.scope.Value.TheVariants as value
use Rattle.wg_facts.proofs.Basics.{and_then, If, and_left, and_right, both, if_then, if_was, if_where, if_so, then_some, where_so, type_is, type_self, type_same, test_some}
use Rattle.wg_sound.proofs.Layered.{Is, Placed, is_typed, made, held_Access, form_Field, form_Components, form_Index}
use Rattle.wg_sound.proofs.Meanings.{ObjectIs, ValueIs, PartIs, AllParts, fit_is}
use Rattle.wg_sound.proofs.Objects.{method_ok, method_is, has_method, element_is}
use Rattle.wg_typing.specs.declared.part.Along.TheVariants as along
use Rattle.wg_typing.specs.declared.part.Along.{Along}
use Rattle.wg_typing.specs.declared.part.FormLayer.TheVariants as form_layer
use Rattle.wg_typing.specs.declared.part.FormLayer.{FormLayer}
use Rattle.wg_typing.specs.declared.part.FoundField.{FoundField}
use Rattle.wg_typing.specs.declared.part.Part.{Part}
use Rattle.wg_typing.specs.declared.part.Reached.{Reached}

-- ---- fields

abbrev FieldAt : ℕ → List TypedField → FoundField → Type 0
FieldAt at fields f = (i : ℕ) × (f.number ≡ at + i) × (slice_get (types_of fields) i ≡ Some f.of)

field_at : (at : ℕ) (name : List ℕ) (fields : List TypedField) → If (FieldAt at fields) (field_from at name fields)
field_at at name [] = tt
field_at at name (f ∷ rest) = picked_field (bytes_eq f.name.name name) (field_from (suc at) name rest) (field_at (suc at) name rest)
  where
    picked_field : (b : Bool) (o : Option FoundField) → If (FieldAt (suc at) rest) o → If (FieldAt at (f ∷ rest)) (cond b (Some (record { number = at; of = f.of })) o)
    picked_field true o h = (0, omega arith, refl)
    picked_field false None h = tt
    picked_field false (Some x) h = (suc h.0, h.1 ∙ omega arith, h.2)

abbrev pub Later : List TypedStruct → List TypedStruct → Type 0
Later xs ys = (n : ℕ) (s : TypedStruct) → slice_get xs n ≡ Some s → slice_get ys n ≡ Some s

-- ---- components

abbrev ComponentsAre : ℕ → ℕ → List ℕ → Type 0
ComponentsAre size n cs = (every (λ c. nat_lt c size) cs ≡ true) × (length cs ≡ n)

component_is : (size byte : ℕ) → If (λ c. nat_lt c size ≡ true) (component_in size byte)
component_is size byte = if_was (λ c. nat_lt c size ≡ true) (letter byte) _ (λ n e. if_where (λ c. nat_lt c size ≡ true) (nat_lt n size) n (λ b. b))

components_are : (size : ℕ) (name : List ℕ) → If (ComponentsAre size (length name)) (all_of (map (component_in size) name))
components_are size [] = (refl, refl)
components_are size (byte ∷ name) = if_then (λ c. nat_lt c size ≡ true) (ComponentsAre size (length (byte ∷ name))) (component_in size byte) _ (component_is size byte) (λ c h.
    if_then (ComponentsAre size (length name)) (ComponentsAre size (length (byte ∷ name))) (all_of (map (component_in size) name)) _ (components_are size name) (λ cs k. (both h k.0, ap suc k.1)))

module _ (room : Room) where
  -- ---- what the forms so far give

  pub record ReachedIs (r : Reached) : Type 0 where
    pub sound : (shown room r.base).sound ≡ true
    pub follow : all_follow (map (form_of room) r.accesses) (shown room r.base).of r.of ≡ true
    pub single : is_fixed r.standing ≡ false → all_single (map (form_of room) r.accesses) ≡ true
    pub stands : is_fixed r.standing ≡ false → (shown room r.base).standing ≡ r.standing

  abbrev pub AlongIs : Along → Type 0
  AlongIs (along.Typed r) = ReachedIs r
  AlongIs (along.Other v) = ValueIs room v

  pub begin_is : (v : Value) → ValueIs room v → AlongIs (begin v)
  begin_is (value.Typed of s base) h = record { sound = h.is.sound; follow = type_same _ of h.is.of; single = λ f. refl; stands = h.stands }
  begin_is (value.Object o element) h = h
  begin_is (value.Act name a) h = h
  begin_is (value.Text bytes) h = h

  accessed_is : (place : Place) (of : TypeTree) (s : Standing) (base : TypedExpr) (accesses : List Access) → ReachedIs (record { of = of; standing = s; base = base; accesses = accesses }) → Placed room of s (with_accesses place of base accesses)
  accessed_is place of s base [] h = record { is = record { of = type_is _ of h.follow; sound = h.sound }; stands = h.stands }
  accessed_is place of s base (a ∷ rest) h = made room place s of (tree.Access base (a ∷ rest)) _ (held_Access room base (a ∷ rest)) (both h.sound h.follow)
      (λ f. ap (λ b. cond b (shown room base).standing standing.Fixed) (h.single f) ∙ h.stands f)

  finish_is : (place : Place) (a : Along) → AlongIs a → ValueIs room (finish place a)
  finish_is place (along.Typed r) h = accessed_is place r.of r.standing r.base r.accesses h
  finish_is place (along.Other v) h = h

  -- ---- one more form

  follow_push : (fs : List Access) (a : Access) (from mid of : TypeTree) → all_follow (map (form_of room) fs) from mid ≡ true → (form_of room a).follows mid ≡ true → (form_of room a).of ≡ of → all_follow (map (form_of room) (fs ++ a ∷ [])) from of ≡ true
  follow_push [] a from mid of h k e = both (subst (λ t. (form_of room a).follows t ≡ true) (sym (type_is from mid h)) k) (type_same _ of e)
  follow_push (x ∷ fs) a from mid of h k e = both (and_left ((form_of room x).follows from) _ h) (follow_push fs a (form_of room x).of mid of (and_right ((form_of room x).follows from) _ h) k e)

  single_push : (fs : List Access) (a : Access) → all_single (map (form_of room) fs) ≡ true → (form_of room a).single ≡ true → all_single (map (form_of room) (fs ++ a ∷ [])) ≡ true
  single_push [] a h k = both k refl
  single_push (x ∷ fs) a h k = both (and_left ((form_of room x).single) _ h) (single_push fs a (and_right ((form_of room x).single) _ h) k)

  -- a form that keeps where the value stands, if it is single
  extended_is : (r : Reached) (of : TypeTree) (a : Access) (f : Form) → ReachedIs r → form_of room a ≡ f → f.of ≡ of → f.follows r.of ≡ true → f.single ≡ true → If AlongIs (extended r of r.standing a)
  extended_is r of a f h e o k s = record {
    sound = h.sound;
    follow = follow_push r.accesses a (shown room r.base).of r.of of h.follow (subst (λ (x : Form). x.follows r.of ≡ true) (sym e) k) (subst (λ (x : Form). x.of ≡ of) (sym e) o);
    single = λ y. single_push r.accesses a (h.single y) (subst (λ (x : Form). x.single ≡ true) (sym e) s);
    stands = h.stands;
  }

  -- one after which nothing can be assigned
  fixed_is : (r : Reached) (of : TypeTree) (a : Access) (f : Form) → ReachedIs r → form_of room a ≡ f → f.of ≡ of → f.follows r.of ≡ true → If AlongIs (extended r of standing.Fixed a)
  fixed_is r of a f h e o k = record {
    sound = h.sound;
    follow = follow_push r.accesses a (shown room r.base).of r.of of h.follow (subst (λ (x : Form). x.follows r.of ≡ true) (sym e) k) (subst (λ (x : Form). x.of ≡ of) (sym e) o);
    single = λ y. absurd (true_false y);
    stands = λ y. absurd (true_false y);
  }
    where
      true_false : true ≡ false → ⊥
      true_false e = cc

  picked_is : (of : Scalar) (size : ℕ) (r : Reached) (cs : List ℕ) → ReachedIs r → r.of ≡ type.Vector of size → every (λ c. nat_lt c size) cs ≡ true → (nat_lt 0 (length cs) && nat_lt (length cs) 5) ≡ true → If AlongIs (picked of r cs)
  picked_is of size r [] h e k l = tt
  picked_is of size r (c ∷ []) h e k l = extended_is r (type.Scalar of) (access.Components (c ∷ []) (type.Scalar of)) _ h (form_Components room (c ∷ []) (type.Scalar of)) refl
      (subst (λ t. are_components (type.Scalar of) (c ∷ []) t ≡ true) (sym e) (both k (both l (type_self (type.Scalar of))))) refl
  picked_is of size r (c ∷ d ∷ cs) h e k l = fixed_is r (type.Vector of (length (c ∷ d ∷ cs))) (access.Components (c ∷ d ∷ cs) (type.Vector of (length (c ∷ d ∷ cs)))) _ h (form_Components room (c ∷ d ∷ cs) (type.Vector of (length (c ∷ d ∷ cs)))) refl
      (subst (λ t. are_components (type.Vector of (length (c ∷ d ∷ cs))) (c ∷ d ∷ cs) t ≡ true) (sym e) (both k (both l (type_self (type.Vector of (length (c ∷ d ∷ cs)))))))

  member_is : (structs : List TypedStruct) (t : TypeTree) (name : List ℕ) (r : Reached) → Later structs room.text.structs → r.of ≡ t → ReachedIs r → If AlongIs (member_of structs t name r)
  member_is structs (type.Scalar of) name r later e h = tt
  member_is structs (type.Vector of size) name r later e h = if_was AlongIs (components_in size name) _ (λ cs f.
      let w = then_some (where_true (nat_lt 0 (length name) && nat_lt (length name) 5) name) (λ name. all_of (map (component_in size) name)) cs f in
      let v = where_so (nat_lt 0 (length name) && nat_lt (length name) 5) name w.0 w.1 in
      let a = if_so (ComponentsAre size (length w.0)) (all_of (map (component_in size) w.0)) cs w.2 (components_are size w.0) in
      picked_is of size r cs h e a.0 (subst (λ n. (nat_lt 0 n && nat_lt n 5) ≡ true) (ap length v.1 ∙ sym a.1) v.0))
  member_is structs (type.Struct number) name r later e h = if_was AlongIs (struct_field name (slice_get structs number)) _ (λ f g.
      let s = found (slice_get structs number) f g in
      extended_is r f.of (access.Field f.number f.of) _ h (form_Field room f.number f.of) refl
      (subst (λ t. test (λ x. same_type x f.of) (field_of room.text.structs t f.number) ≡ true) (sym e)
      (test_some (λ x. same_type x f.of) (field_of room.text.structs (type.Struct number) f.number) f.of (ap (λ o. and_then o (λ (s : TypedStruct). slice_get (field_types s) f.number)) (later number s.0 s.1) ∙ s.2) (type_self f.of))) refl)
    where
      found : (o : Option TypedStruct) (f : FoundField) → struct_field name o ≡ Some f → (s : TypedStruct) × (o ≡ Some s) × (slice_get (field_types s) f.number ≡ Some f.of)
      found None f g = absurd (cc)
      found (Some s) f g =
          let p = if_so (FieldAt 0 s.fields) (field_from 0 name s.fields) f g (field_at 0 name s.fields) in
          (s, refl, subst (λ n. slice_get (field_types s) n ≡ Some f.of) (sym (p.1 ∙ omega arith)) p.2)
  member_is structs (type.Array of size) name r later e h = tt

  indexed_is : (t : TypeTree) (p : Part) (r : Reached) → r.of ≡ t → PartIs room p → ReachedIs r → If AlongIs (indexed t p r)
  indexed_is (type.Scalar of) p r e k h = tt
  indexed_is (type.Vector of size) p r e k h = tt
  indexed_is (type.Struct number) p r e k h = tt
  indexed_is (type.Array of size) p r e k h = if_then (Is room uint_type) AlongIs (fit uint_type p) _ (fit_is room uint_type p k) (λ i x.
      extended_is r (element_type of) (access.Index i (element_type of)) _ h (form_Index room i (element_type of)) refl
      (subst (λ t. (is_element (element_type of) t && is_a uint_type (shown room i)) ≡ true) (sym e) (both (type_self (element_type of)) (is_typed room uint_type i x))) refl)

  -- ---- forms

  abbrev pub FormParts : FormLayer Part → Type 0
  FormParts (form_layer.Member name) = Unit {0}
  FormParts (form_layer.Method name parts) = AllParts room parts
  FormParts (form_layer.Index p) = PartIs room p

  abbrev pub AllForms : List (FormLayer Part) → Type 0
  AllForms [] = Unit {0}
  AllForms (f ∷ rest) = FormParts f × AllForms rest

  after_object_is : (place : Place) (o : Object) (element : Option TypedExpr) (f : FormLayer Part) → ObjectIs room o element → FormParts f → If AlongIs (after_object place o element f)
  after_object_is place o element (form_layer.Member name) h k = tt
  after_object_is place o element (form_layer.Method name parts) h k = if_then (λ m. method_ok o m ≡ true) AlongIs (method_of o name.name) _ (has_method room o name.name) (λ m x.
      if_was AlongIs (and_then (where_true (takes o m parts) parts) (method_value place name.place o element m)) _ (λ v e.
      let w = then_some (where_true (takes o m parts) parts) _ v e in
      let u = where_so (takes o m parts) parts w.0 w.1 in
      begin_is v (if_so (ValueIs room) (method_value place name.place o element m w.0) v w.2 (method_is room place name.place o element m w.0 h x (subst (λ (y : List Part). takes o m y ≡ true) u.1 u.0) (subst (AllParts room) u.1 k)))))
  after_object_is place o element (form_layer.Index p) h k = if_was AlongIs (and_then (fit uint_type p) (element_value place o)) _ (λ v e.
      let w = then_some (fit uint_type p) _ v e in
      begin_is v (if_so (ValueIs room) (element_value place o w.0) v w.2 (element_is room place o element w.0 h (if_so (Is room uint_type) (fit uint_type p) w.0 w.1 (fit_is room uint_type p k)))))

  after_typed_is : (structs : List TypedStruct) (r : Reached) (f : FormLayer Part) → Later structs room.text.structs → ReachedIs r → FormParts f → If AlongIs (after_typed structs r f)
  after_typed_is structs r (form_layer.Member name) later h k = member_is structs r.of name.name r later refl h
  after_typed_is structs r (form_layer.Method name parts) later h k = tt
  after_typed_is structs r (form_layer.Index p) later h k = indexed_is r.of p r refl k h

  form_on_is : (c : Context) (place : Place) (a : Along) (f : FormLayer Part) → Later c.structs room.text.structs → AlongIs a → FormParts f → If AlongIs (form_on c place a f)
  form_on_is c place (along.Typed r) f later h k = after_typed_is c.structs r f later h k
  form_on_is c place (along.Other (value.Typed of s base)) f later h k = tt
  form_on_is c place (along.Other (value.Object o element)) f later h k = after_object_is place o element f h k
  form_on_is c place (along.Other (value.Act name a)) f later h k = tt
  form_on_is c place (along.Other (value.Text bytes)) f later h k = tt

  forms_on_is : (c : Context) (place : Place) (a : Along) (forms : List (FormLayer Part)) → Later c.structs room.text.structs → AlongIs a → AllForms forms → If AlongIs (forms_on c place a forms)
  forms_on_is c place a [] later h k = h
  forms_on_is c place a (f ∷ rest) later h k = if_then AlongIs AlongIs (form_on c place a f) _ (form_on_is c place a f later h k.0) (λ b i. forms_on_is c place b rest later i k.1)

  pub postfix_is : (c : Context) (place : Place) (first : Part) (forms : List (FormLayer Part)) → Later c.structs room.text.structs → PartIs room first → AllForms forms → If (ValueIs room) (postfix_value c place first forms)
  postfix_is c place first forms later h k = if_then AlongIs (ValueIs room) (and_then (begun first) (λ a. forms_on c place a forms)) _
      (if_then AlongIs AlongIs (begun first) _ (if_then (ValueIs room) AlongIs first.value _ h (λ v i. begin_is v i)) (λ a i. forms_on_is c place a forms later i k))
      (λ a i. finish_is place a i)
