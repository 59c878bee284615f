-- Methods and elements of objects are sound.
use Rattle.std.proofs.Common.{◌≡◌, ◌<◌, ℕ, suc, Bool, true, false, not, cond, List, [], ◌∷◌, length, Option, Some, None, refl, sym, ap, ◌∙◌, subst, arith}
use Rattle.std.specs.Prelude.{◌&&◌, ◌==◌, nat_lt, slice_get, is_some, codes}
use Rattle.std.specs.Str.{bytes_eq}
use Rattle.std.proofs.lemmas.Grind.{common_steps}
use Rattle.std.proofs.lemmas.Option.{slice_get_within}
use Prim.Native.String.{String}
use Rattle.wg_words.specs.declared.place.Place.{Place}
use Rattle.wg_typing.specs.Conversions.{same_type, truth_type, uint_type, uints}
use Rattle.wg_typing.specs.Layers.{fit, fit_all, tree_of}
use Rattle.wg_typing.specs.Named.{at_name}
use Rattle.wg_typing.specs.TypingHandle.{same_truth}
use Rattle.wg_typing.specs.TypingObjects.{methods, method_of, takes, argument_types, method_form, method_value, element_of_buffer, input_element, output_element, element_value}
use Rattle.wg_typed.specs.Layout.{words_of}
use Rattle.wg_sound.specs.Room.{Room, Output, is_raw, is_writable_raw, holds_elements, element_standing, input_standing, is_record, buffer_type, input_in, output_at, handle_record}
use Rattle.wg_sound.specs.SoundExpr.{reads_input, has_output, loads, shown_if}
use Rattle.wg_sound.specs.SoundStmt.{is_sent, sends}
use Rattle.wg_facts.specs.Tests.{if_any, every}
use Rattle.wg_tree.specs.declared.expr.Scalar.TheVariants as scalar
use Rattle.wg_typed.specs.declared.types.TypeTree.{TypeTree}
use Rattle.wg_typed.specs.declared.types.TypeTree.TheVariants as type
use Rattle.wg_typed.specs.declared.typed.TypedBufferType.{TypedBufferType}
use Rattle.wg_typed.specs.declared.typed.TypedBufferType.TheVariants as buffer_type_of
use Rattle.wg_typed.specs.declared.typed.TypedHandle.{TypedHandle}
use Rattle.wg_typed.specs.declared.typed_expr.TypedExpr.{TypedExpr}
use Rattle.wg_typed.specs.declared.typed_expr.TypedKind.TheVariants as tree
use Rattle.wg_typing.specs.declared.scope.Object.{Object}
use Rattle.wg_typing.specs.declared.scope.Object.TheVariants as object
use Rattle.wg_typing.specs.declared.scope.Standing.{Standing}
use Rattle.wg_typing.specs.declared.scope.Standing.TheVariants as standing
use Rattle.wg_facts.proofs.Basics.{and_then, If, and_left, and_right, both, if_then, if_was, if_so, then_some, same_count, type_self, test_some}
use Rattle.wg_sound.proofs.Layered.{Is, Placed, is_typed, made, made_fixed, held_Element, held_Load, held_Input, held_Count, held_Handle, held_IsValid}
use Rattle.wg_sound.proofs.Meanings.{IndexIs, index_shown, OutputIs, ObjectIs, ValueIs, AllParts, AllAre, fit_all_is}
use Rattle.wg_sound.proofs.Swapped.{interlocked_raw_is}
use Rattle.wg_typing.specs.declared.called.Method.TheVariants as method
use Rattle.wg_typing.specs.declared.called.Method.{Method}
use Rattle.wg_typing.specs.declared.part.Part.{Part}

-- ---- tables of names

abbrev entry_ok : {X : Type 0} → (X → Bool) → String × X → Bool
entry_ok p e = p e.1

pub entries_ok : {X : Type 0} (p : X → Bool) (table : List (String × X)) (name : List ℕ) → every (entry_ok p) table ≡ true → if_any p (at_name table name) ≡ true
entries_ok p [] name h = refl
entries_ok p (e ∷ rest) name h = picked (bytes_eq (codes e.0) name) (entries_ok p rest name (and_right (p e.1) _ h))
  where
    picked : (b : Bool) → if_any p (at_name rest name) ≡ true → if_any p (cond b (Some e.1) (at_name rest name)) ≡ true
    picked true k = and_left (p e.1) _ h
    picked false k = k

pub any_so : {A : Type 0} (p : A → Bool) (o : Option A) (a : A) → o ≡ Some a → if_any p o ≡ true → p a ≡ true
any_so p o a e h = subst (λ x. if_any p x ≡ true) e h

-- ---- methods

abbrev is_width : ℕ → Bool
is_width n = nat_lt 0 n && nat_lt n 5

-- what a method of an object says of it
abbrev buffer_ok : TypedBufferType → Method → Bool
buffer_ok of (method.Load n) = is_raw of && is_width n
buffer_ok of (method.Store n) = is_writable_raw of && is_width n
buffer_ok of (method.Interlocked f) = is_writable_raw of
buffer_ok of m = true

abbrev pub method_ok : Object → Method → Bool
method_ok (object.Buffer buffer of) m = buffer_ok of m
method_ok (object.Input many record_type s sharing) m = true
method_ok (object.Output output array record_type) m = not array
method_ok (object.Handle handle record_type) m = true

every_true : {A : Type 0} (p : A → Bool) (xs : List A) → ((a : A) → p a ≡ true) → every p xs ≡ true
every_true p [] h = refl
every_true p (x ∷ xs) h = both (h x) (every_true p xs h)

methods_ok : (o : Object) → every (entry_ok (method_ok o)) (methods o) ≡ true
methods_ok (object.Buffer buffer (buffer_type_of.Raw true)) = refl
methods_ok (object.Buffer buffer (buffer_type_of.Raw false)) = refl
methods_ok (object.Buffer buffer (buffer_type_of.Structured writable of)) = refl
methods_ok (object.Input many record_type s sharing) = every_true _ (methods (object.Input many record_type s sharing)) (λ a. refl)
methods_ok (object.Handle handle record_type) = refl
methods_ok (object.Output output true record_type) = refl
methods_ok (object.Output output false record_type) = every_true _ (methods (object.Output output false record_type)) (λ a. refl)

-- on the input an index stands just where there are several records
abbrev counts : Object → Method → ℕ → Bool
counts (object.Input many record_type s sharing) method.Get n = n == (cond many 1 0)
counts o m n = true

takes_counts : (o : Object) (m : Method) (parts : List Part) → takes o m parts ≡ true → counts o m (length parts) ≡ true
takes_counts (object.Input many record_type s sharing) method.Get parts h = h
takes_counts o m parts h = refl

uints_words : (n : ℕ) → words_of [] (uints n) ≡ n
uints_words n = picked (n == 1) refl
  where
    picked : (b : Bool) → (n == 1) ≡ b → words_of [] (cond b uint_type (type.Vector scalar.Uint n)) ≡ n
    picked true e = sym (same_count n 1 e)
    picked false e = refl

loads_uints : (n : ℕ) → is_width n ≡ true → loads (uints n) ≡ true
loads_uints n h = subst (λ m. (nat_lt 0 m && (nat_lt m 5 && same_type (uints n) (uints m))) ≡ true) (sym (uints_words n)) (both (and_left (nat_lt 0 n) _ h) (both (and_right (nat_lt 0 n) _ h) (type_self (uints n))))

pub less_true : (m n : ℕ) → m < n → nat_lt m n ≡ true
less_true m n h = grind (arith, common_steps, h)

pub within : {A : Type 0} (xs : List A) (i : ℕ) (x : A) → slice_get xs i ≡ Some x → nat_lt i (length xs) ≡ true
within xs i x e = less_true i (length xs) (slice_get_within xs i x e)

some_shown : (room : Room) (e : Option TypedExpr) → is_some (shown_if room e) ≡ is_some e
some_shown room None = refl
some_shown room (Some e) = refl

one_many : (many : Bool) → (1 == (cond many 1 0)) ≡ true → same_truth true many ≡ true
one_many true e = refl
one_many false e = e

none_many : (many : Bool) → (0 == (cond many 1 0)) ≡ true → same_truth false many ≡ true
none_many true e = e
none_many false e = refl

module _ (room : Room) where
  same_self : (b : Bool) → same_truth b b ≡ true
  same_self true = refl
  same_self false = refl

  -- an output that is no array
  output_is : (output : ℕ) (r : Option ℕ) (element : Option TypedExpr) → OutputIs room output false r element → has_output room output (shown_if room element) ≡ true
  output_is output r element h = both (test_some (λ (o : Output). same_truth (is_some (shown_if room element)) o.array) (output_at room output) _ h.at (ap (λ x. same_truth x (is_some element)) (some_shown room element) ∙ same_self (is_some element))) (index_shown room element h.index)

  sends_is : (output : ℕ) (r : Option ℕ) (element : Option TypedExpr) (with_records : Bool) (amount : TypedExpr) → OutputIs room output false r element → same_truth (is_some r) with_records ≡ true → Is room uint_type amount → sends room with_records output element amount ≡ true
  sends_is output r element with_records amount h f i = both (test_some (is_sent with_records) (output_at room output) _ h.at f) (both (output_is output r element h) (is_typed room uint_type amount i))

  input_is : (place : Place) (many : Bool) (number : ℕ) (s : Standing) (index : Option TypedExpr) → (shared : Bool) → input_in room ≡ Some (record { many = many; record_type = Some number; standing = s; shared = shared }) → same_truth (is_some index) many ≡ true → IndexIs room index → Placed room (type.Struct number) s (tree_of place (type.Struct number) (tree.Input index))
  input_is place many number s index shared h e i = made room place s (type.Struct number) (tree.Input index) _ (held_Input room index)
      (both (test_some (reads_input (type.Struct number) (is_some (shown_if room index))) (input_in room) _ h (both (type_self (type.Struct number)) (ap (λ x. same_truth x many) (some_shown room index) ∙ e))) (index_shown room index i))
      (λ f. ap input_standing h)

  handle_is : (place : Place) (handle number : ℕ) (index : Option TypedExpr) → handle_record room handle ≡ Some number → IndexIs room index → Placed room (type.Struct number) standing.Own (tree_of place (type.Struct number) (tree.Handle handle index))
  handle_is place handle number index h i = made room place standing.Own (type.Struct number) (tree.Handle handle index) _ (held_Handle room handle index)
      (both (ap (is_record (type.Struct number)) h ∙ type_self (type.Struct number)) (index_shown room index i))
      (λ f. refl)

  called_is : (place name : Place) (o : Object) (element : Option TypedExpr) (m : Method) (parts : List Part) (es : List TypedExpr) → ObjectIs room o element → method_ok o m ≡ true → counts o m (length es) ≡ true → AllAre room (argument_types m parts) es → If (ValueIs room) (method_form place name o element m es)
  called_is place name (object.Buffer buffer of) element (method.Load n) parts (address ∷ []) h k l a =
      made_fixed room place (uints n) (tree.Load buffer address) _ (held_Load room buffer address)
      (both (test_some is_raw (buffer_type room buffer) of h (and_left (is_raw of) _ k)) (both (is_typed room uint_type address a.0) (loads_uints n (and_right (is_raw of) _ k))))
  called_is place name (object.Buffer buffer of) element (method.Store n) parts (address ∷ v ∷ []) h k l a =
      both (test_some is_writable_raw (buffer_type room buffer) of h (and_left (is_writable_raw of) _ k))
      (both (is_typed room uint_type address a.0) (both a.1.0.sound (subst (λ t. loads t ≡ true) (sym a.1.0.of) (loads_uints n (and_right (is_writable_raw of) _ k)))))
  called_is place name (object.Input many (Some number) s sharing) element method.Get parts [] h k l a = input_is place many number s None h.shared h.at (none_many many l) tt
  called_is place name (object.Input many (Some number) s sharing) element method.Get parts (i ∷ []) h k l a = input_is place many number s (Some i) h.shared h.at (one_many many l) (index_of parts a)
    where
      index_of : (parts : List Part) → AllAre room (argument_types method.Get parts) (i ∷ []) → Is room uint_type i
      index_of [] a = absurd a
      index_of (p ∷ parts) a = a.0
  called_is place name (object.Input many record_type s sharing) element method.Count parts [] h k l a =
      made_fixed room place uint_type tree.Count _ (held_Count room) (both (ap is_some h.at) refl)
  called_is place name (object.Input many record_type s sharing) element method.Finished parts [] h k l a = h.tells
  called_is place name (object.Output output true record_type) element m parts es h k l a = absurd (true_false k)
    where
      true_false : false ≡ true → ⊥
      true_false e = cc
  called_is place name (object.Output output false (Some number)) element (method.Request group) parts (n ∷ []) h k l a =
      record { array = is_some element; at = h.at; sends = sends_is output (Some number) element true n h refl a.0 }
  called_is place name (object.Output output false None) element (method.Increment group) parts (n ∷ []) h k l a = sends_is output None element false n h refl a.0
  called_is place name (object.Output output false record_type) element method.IsValid parts [] h k l a =
      made_fixed room place truth_type (tree.IsValid output element) _ (held_IsValid room output element) (both (output_is output record_type element h) refl)
  called_is place name (object.Handle handle number) element method.Get parts [] h k l a = handle_is place handle number None h tt
  called_is place name (object.Handle handle number) element method.Get parts (i ∷ []) h k l a = handle_is place handle number (Some i) h (index_of parts a)
    where
      index_of : (parts : List Part) → AllAre room (argument_types method.Get parts) (i ∷ []) → Is room uint_type i
      index_of [] a = absurd a
      index_of (p ∷ parts) a = a.0
  called_is place name (object.Handle handle number) element method.Complete parts [] h k l a =
      let f = then_some (slice_get room.function.handles handle) (λ (x : TypedHandle). and_then (output_at room x.output) (λ (o : Output). o.record_type)) number h in
      within room.function.handles handle f.0 f.1
  called_is place name o element m parts es h k l a = tt

  fit_length : (types : List TypeTree) (parts : List Part) → If (λ (es : List TypedExpr). length es ≡ length parts) (fit_all types parts)
  fit_length [] [] = refl
  fit_length [] (p ∷ parts) = tt
  fit_length (t ∷ types) [] = tt
  fit_length (t ∷ types) (p ∷ parts) = if_was (λ (es : List TypedExpr). length es ≡ length (p ∷ parts)) (fit t p) _ (λ e f.
      if_then (λ (es : List TypedExpr). length es ≡ length parts) (λ (es : List TypedExpr). length es ≡ length (p ∷ parts)) (fit_all types parts) _ (fit_length types parts) (λ es g. ap suc g))

  fitted_is : (place name : Place) (o : Object) (element : Option TypedExpr) (m : Method) (parts : List Part) → ObjectIs room o element → method_ok o m ≡ true → takes o m parts ≡ true → AllParts room parts → If (ValueIs room) (and_then (fit_all (argument_types m parts) parts) (method_form place name o element m))
  fitted_is place name o element m parts h k l a = if_was (ValueIs room) (fit_all (argument_types m parts) parts) _ (λ es e.
      called_is place name o element m parts es h k (subst (λ n. counts o m n ≡ true) (sym (if_so (λ (es : List TypedExpr). length es ≡ length parts) _ es e (fit_length (argument_types m parts) parts))) (takes_counts o m parts l))
      (if_so (AllAre room (argument_types m parts)) _ es e (fit_all_is room (argument_types m parts) parts a)))

  pub method_is : (place name : Place) (o : Object) (element : Option TypedExpr) (m : Method) (parts : List Part) → ObjectIs room o element → method_ok o m ≡ true → takes o m parts ≡ true → AllParts room parts → If (ValueIs room) (method_value place name o element m parts)
  method_is place name (object.Buffer buffer of) element (method.Interlocked f) parts h k l a = interlocked_raw_is room name f buffer parts (test_some is_writable_raw (buffer_type room buffer) of h k) a
  method_is place name o element m parts h k l a = fitted_is place name o element m parts h k l a

  -- a method that the object has
  pub has_method : (o : Object) (name : List ℕ) → If (λ m. method_ok o m ≡ true) (method_of o name)
  has_method o name = any_if (method_of o name) (entries_ok (method_ok o) (methods o) name (methods_ok o))
    where
      any_if : (x : Option Method) → if_any (method_ok o) x ≡ true → If (λ m. method_ok o m ≡ true) x
      any_if None k = tt
      any_if (Some m) k = k

  -- ---- elements

  buffer_element_is : (place : Place) (buffer : ℕ) (of : TypedBufferType) (i : TypedExpr) → buffer_type room buffer ≡ Some of → Is room uint_type i → If (ValueIs room) (element_of_buffer place buffer of i)
  buffer_element_is place buffer (buffer_type_of.Raw writable) i h k = tt
  buffer_element_is place buffer (buffer_type_of.Structured writable of) i h k =
      made room place (cond writable standing.Memory standing.Fixed) of (tree.Element buffer i) _ (held_Element room buffer i)
      (both (test_some (holds_elements of) (buffer_type room buffer) _ h (type_self of)) (is_typed room uint_type i k))
      (λ f. ap element_standing h)

  input_element_is : (place : Place) (many : Bool) (r : Option ℕ) (s : Standing) (i : TypedExpr) (shared : Bool) → input_in room ≡ Some (record { many = many; record_type = r; standing = s; shared = shared }) → Is room uint_type i → If (ValueIs room) (input_element place many r s i)
  input_element_is place true (Some number) s i shared h k = input_is place true number s (Some i) shared h refl k
  input_element_is place true None s i shared h k = tt
  input_element_is place false r s i shared h k = tt

  output_element_is : (output : ℕ) (array : Bool) (r : Option ℕ) (element : Option TypedExpr) (i : TypedExpr) → OutputIs room output array r element → Is room uint_type i → If (ValueIs room) (output_element output array r i)
  output_element_is output true r element i h k = record { at = h.at; index = k }
  output_element_is output false r element i h k = tt

  pub element_is : (place : Place) (o : Object) (element : Option TypedExpr) (i : TypedExpr) → ObjectIs room o element → Is room uint_type i → If (ValueIs room) (element_value place o i)
  element_is place (object.Buffer buffer of) element i h k = buffer_element_is place buffer of i h k
  element_is place (object.Input many record_type s sharing) element i h k = input_element_is place many record_type s i h.shared h.at k
  element_is place (object.Output output array record_type) element i h k = output_element_is output array record_type element i h k
  element_is place (object.Handle handle number) element i h k = handle_is place handle number (Some i) h k
