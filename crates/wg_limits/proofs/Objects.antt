-- Measures below a bound: interlocked forms, and members, methods and indexes after a value.
use Rattle.std.proofs.Common.{◌≡◌, ◌<◌, ℕ, zero, suc, Bool, true, false, cond, List, [], ◌∷◌, ◌++◌, map, length, Option, Some, None, refl, sym, ap, ◌∙◌, subst, arith}
use Prim.Native.String.{String}
use Rattle.std.specs.Prelude.{◌&&◌, ◌||◌, nat_lt, codes, slice_get}
use Rattle.std.specs.Str.{bytes_eq}
use Rattle.wg_words.specs.declared.place.Place.{Place}
use Rattle.wg_typing.specs.Conversions.{same_type, is_word, uint_type, truth_type, uints}
use Rattle.wg_typing.specs.Layers.{tree_of, typed_part, fit, fit_all}
use Rattle.wg_typing.specs.Maybe.{where_true, all_of, if_there}
use Rattle.wg_typing.specs.Named.{at_name}
use Rattle.wg_typing.specs.Scope.{Context}
use Rattle.wg_typing.specs.TypingForms.{begin, with_accesses, finish, extended, field_from, struct_field, component_in, components_in, picked, member_of, indexed, method_on, after_object, after_typed, form_on, forms_on, begun, postfix_value}
use Rattle.wg_typing.specs.TypingInterlocked.{interlocked_names, is_int, a_value_alone, with_old, maybe_old, compared, compared_with_old, operands, word_place, memory_place, raw_type, interlocked, interlocked_at, interlocked_raw}
use Rattle.wg_typing.specs.TypingObjects.{loads, stores, interlocked_methods, is_shared, methods, method_of, takes, argument_types, method_form, method_value, element_of_buffer, input_element, output_element, element_value}
use Rattle.wg_typed.specs.Layout.{element_type}
use Rattle.wg_tree.specs.declared.expr.Scalar.{Scalar}
use Rattle.wg_tree.specs.declared.expr.Scalar.TheVariants as scalar
use Rattle.wg_typed.specs.declared.types.ElementType.{ElementType}
use Rattle.wg_typed.specs.declared.types.ElementType.TheVariants as element_type_of
use Rattle.wg_typed.specs.declared.types.TypeTree.{TypeTree}
use Rattle.wg_typed.specs.declared.types.TypeTree.TheVariants as type
use Rattle.wg_typed.specs.declared.typed.TypedBufferType.{TypedBufferType}
use Rattle.wg_typed.specs.declared.typed.TypedBufferType.TheVariants as buffer_type_of
use Rattle.wg_typed.specs.declared.typed.TypedField.{TypedField}
use Rattle.wg_typed.specs.declared.typed.TypedStruct.{TypedStruct}
use Rattle.wg_typed.specs.declared.typed_expr.Access.{Access, fold-roll-Access}
use Rattle.wg_typed.specs.declared.typed_expr.Access.TheVariants as access
use Rattle.wg_typed.specs.declared.typed_expr.Access.TheOpen.{TypedKind-F, Access-F}
use Rattle.wg_typed.specs.declared.typed_expr.TypedExpr.{TypedExpr}
use Rattle.wg_typed.specs.declared.typed_expr.TypedKind.TheVariants as tree
use Rattle.wg_typed.specs.declared.typed_stmt.Destination.{Destination}
use Rattle.wg_typed.specs.declared.typed_stmt.Destination.TheVariants as destination
use Rattle.wg_typed.specs.declared.typed_stmt.InterlockedForm.{InterlockedForm}
use Rattle.wg_typed.specs.declared.typed_stmt.InterlockedForm.TheVariants as form
use Rattle.wg_typing.specs.declared.called.Method.{Method}
use Rattle.wg_typing.specs.declared.called.Method.TheVariants as method
use Rattle.wg_typing.specs.declared.part.Along.{Along}
use Rattle.wg_typing.specs.declared.part.Along.TheVariants as along
use Rattle.wg_typing.specs.declared.part.FormLayer.{FormLayer}
use Rattle.wg_typing.specs.declared.part.FormLayer.TheVariants as form_layer
use Rattle.wg_typing.specs.declared.part.FoundField.{FoundField}
use Rattle.wg_typing.specs.declared.part.Operands.{Operands}
use Rattle.wg_typing.specs.declared.part.Part.{Part}
use Rattle.wg_typing.specs.declared.part.Reached.{Reached}
use Rattle.wg_typing.specs.declared.scope.Object.{Object}
use Rattle.wg_typing.specs.declared.scope.Object.TheVariants as object
use Rattle.wg_typing.specs.declared.scope.Standing.{Standing}
use Rattle.wg_typing.specs.declared.scope.Standing.TheVariants as standing
use Rattle.wg_typing.specs.declared.scope.Value.{Value}
use Rattle.wg_typing.specs.declared.scope.Value.TheVariants as value
use Rattle.wg_facts.proofs.Basics.{and_then, If, and_right, some_value, so_less, if_then, if_was, if_where, where_so, all_first, if_there_is}
use Rattle.wg_limits.specs.Measure.{all_joined, access_gives, kind_gives, expr_gives, link_gives, of_expr, of_access, of_maybe, of_destination}
use Rattle.wg_limits.proofs.Parts.{Bound, ExprBelow, Fine, FineBuffer, FineObject, made, AllExprs, AllFine, ValueBelow, PartBelow, AllParts, TypedBelow, typed_below, fit_below, fit_all_below}

module _ (k : Bound) (b : ℕ) where
  -- ---- interlocked forms

  record OperandsBelow (o : Operands Part) : Type 0 where
    compare : If (PartBelow k b) o.compare
    value : PartBelow k b o.value
    old : If (PartBelow k b) o.old

  alone_below : (parts : List Part) → AllParts k b parts → If OperandsBelow (a_value_alone parts)
  alone_below (v ∷ []) h = record { compare = tt; value = h.0; old = tt }
  alone_below _ h = tt

  with_below : (parts : List Part) → AllParts k b parts → If OperandsBelow (with_old parts)
  with_below (v ∷ o ∷ []) h = record { compare = tt; value = h.0; old = h.1.0 }
  with_below _ h = tt

  maybe_old_below : (parts : List Part) → AllParts k b parts → If OperandsBelow (maybe_old parts)
  maybe_old_below (v ∷ []) h = record { compare = tt; value = h.0; old = tt }
  maybe_old_below parts h = with_below parts h

  compared_below : (parts : List Part) → AllParts k b parts → If OperandsBelow (compared parts)
  compared_below (c ∷ v ∷ []) h = record { compare = h.0; value = h.1.0; old = tt }
  compared_below _ h = tt

  all_below : (parts : List Part) → AllParts k b parts → If OperandsBelow (compared_with_old parts)
  all_below (c ∷ v ∷ o ∷ []) h = record { compare = h.0; value = h.1.0; old = h.1.1.0 }
  all_below _ h = tt

  operands_below : (f : InterlockedForm) (parts : List Part) → AllParts k b parts → If OperandsBelow (operands f parts)
  operands_below form.Add parts h = maybe_old_below parts h
  operands_below form.Min parts h = maybe_old_below parts h
  operands_below form.Max parts h = maybe_old_below parts h
  operands_below form.And parts h = maybe_old_below parts h
  operands_below form.Or parts h = maybe_old_below parts h
  operands_below form.Xor parts h = maybe_old_below parts h
  operands_below form.Exchange parts h = with_below parts h
  operands_below form.CompareExchange parts h = all_below parts h
  operands_below form.CompareStore parts h = compared_below parts h

  word_below : (p : Part) → PartBelow k b p → If (ExprBelow k b) (word_place p)
  word_below p h = if_then (TypedBelow k b) (ExprBelow k b) (typed_part p) _ (typed_below k b p h) (λ t i.
      if_then (TypedBelow k b) (ExprBelow k b) (where_true (is_word t.of) t) _ (if_where (TypedBelow k b) (is_word t.of) t (λ e. i)) (λ u j. if_where (ExprBelow k b) _ u.tree (λ e. j.0)))

  memory_below : (p : Part) → PartBelow k b p → If (TypedBelow k b) (memory_place p)
  memory_below p h = if_then (TypedBelow k b) (TypedBelow k b) (typed_part p) _ (typed_below k b p h) (λ t i.
      if_then (TypedBelow k b) (TypedBelow k b) (where_true (is_word t.of) t) _ (if_where (TypedBelow k b) (is_word t.of) t (λ e. i)) (λ u j. if_where (TypedBelow k b) _ u (λ e. j)))

  abbrev MaybeBelow : Option TypedExpr → Type 0
  MaybeBelow o = k.Below (of_maybe k.measure o) b

  interlocked_below : (name : Place) (f : InterlockedForm) (to : Destination) (by : TypeTree) (o : Operands Part) → Fine k by → k.Below (of_destination k.measure to) b → OperandsBelow o → If (ValueBelow k b) (interlocked name f to by o)
  interlocked_below name f to by o fine d h =
      if_then MaybeBelow (ValueBelow k b) (if_there (fit by) o.compare) _ (if_there_is (PartBelow k b) MaybeBelow (fit by) o.compare h.compare (k.none b) (λ p i. fit_below k b by p fine i)) (λ compare c.
      if_then (ExprBelow k b) (ValueBelow k b) (fit by o.value) _ (fit_below k b by o.value fine h.value) (λ v i.
      if_then MaybeBelow (ValueBelow k b) (if_there word_place o.old) _ (if_there_is (PartBelow k b) MaybeBelow word_place o.old h.old (k.none b) word_below) (λ old l.
      k.join (of_destination k.measure to) _ b d (k.join (of_maybe k.measure compare) _ b c (k.join (of_expr k.measure v) (of_maybe k.measure old) b i l)))))

  pub interlocked_at_below : (name : Place) (f : InterlockedForm) (parts : List Part) → AllParts k b parts → If (ValueBelow k b) (interlocked_at name f parts)
  interlocked_at_below name f [] h = tt
  interlocked_at_below name f (to ∷ parts) h = if_then OperandsBelow (ValueBelow k b) (operands f parts) _ (operands_below f parts h.1) (λ o i.
      if_then (TypedBelow k b) (ValueBelow k b) (memory_place to) _ (memory_below to h.0) (λ u j. interlocked_below name f (destination.Scalar u.tree) u.of o j.1 j.0 i))

  raw_fine : (t : TypeTree) → Fine k (raw_type t)
  raw_fine t = picked (is_int t || same_type t truth_type)
    where
      picked : (c : Bool) → Fine k (cond c (type.Scalar scalar.Int) uint_type)
      picked true = tt
      picked false = tt

  interlocked_raw_below : (name : Place) (f : InterlockedForm) (buffer : ℕ) (parts : List Part) → AllParts k b parts → If (ValueBelow k b) (interlocked_raw name f buffer parts)
  interlocked_raw_below name f buffer [] h = tt
  interlocked_raw_below name f buffer (to ∷ parts) h = if_then OperandsBelow (ValueBelow k b) (operands f parts) _ (operands_below f parts h.1) (λ o i.
      if_then (ExprBelow k b) (ValueBelow k b) (fit uint_type to) _ (fit_below k b uint_type to tt h.0) (λ address j.
      if_was (ValueBelow k b) (typed_part o.value) _ (λ v e. interlocked_below name f (destination.Raw buffer address) (raw_type v.of) o (raw_fine v.of) j i)))

  -- ---- methods and elements of objects

  abbrev IndexBelow : Option TypedExpr → Type 0
  IndexBelow index = If (ExprBelow k b) index

  input_below : (place : Place) (t : TypeTree) (index : Option TypedExpr) → Fine k t → IndexBelow index → ExprBelow k b (tree_of place t (tree.Input index)) × Fine k t
  input_below place t None f h = (made k place t b (TypedKind-F.Input None) (tree.Input None) (tree.rolls-Input None) f (k.none b), f)
  input_below place t (Some i) f h = (made k place t b (TypedKind-F.Input (Some i)) (tree.Input (Some i)) (tree.rolls-Input (Some i)) f h, f)

  handle_below : (place : Place) (t : TypeTree) (handle : ℕ) (index : Option TypedExpr) → Fine k t → IndexBelow index → ExprBelow k b (tree_of place t (tree.Handle handle index)) × Fine k t
  handle_below place t handle None f h = (made k place t b (TypedKind-F.Handle handle None) (tree.Handle handle None) (tree.rolls-Handle handle None) f (k.none b), f)
  handle_below place t handle (Some i) f h = (made k place t b (TypedKind-F.Handle handle (Some i)) (tree.Handle handle (Some i)) (tree.rolls-Handle handle (Some i)) f h, f)

  valid_below : (place : Place) (output : ℕ) (element : Option TypedExpr) → IndexBelow element → ExprBelow k b (tree_of place truth_type (tree.IsValid output element)) × Fine k truth_type
  valid_below place output None h = (made k place truth_type b (TypedKind-F.IsValid output None) (tree.IsValid output None) (tree.rolls-IsValid output None) tt (k.none b), tt)
  valid_below place output (Some i) h = (made k place truth_type b (TypedKind-F.IsValid output (Some i)) (tree.IsValid output (Some i)) (tree.rolls-IsValid output (Some i)) tt h, tt)

  -- a method loads and stores one to four words
  abbrev MethodFine : Method → Type 0
  MethodFine (method.Load n) = Fine k (uints n)
  MethodFine (method.Store n) = Fine k (uints n)
  MethodFine (method.Interlocked f) = Unit {0}
  MethodFine method.Get = Unit {0}
  MethodFine method.Count = Unit {0}
  MethodFine (method.Request group) = Unit {0}
  MethodFine (method.Increment group) = Unit {0}
  MethodFine method.IsValid = Unit {0}
  MethodFine method.Complete = Unit {0}
  MethodFine method.Finished = Unit {0}

  abbrev AllMethods : List (String × Method) → Type 0
  AllMethods [] = Unit {0}
  AllMethods (e ∷ rest) = MethodFine e.1 × AllMethods rest

  methods_push : (xs ys : List (String × Method)) → AllMethods xs → AllMethods ys → AllMethods (xs ++ ys)
  methods_push [] ys h i = i
  methods_push (x ∷ xs) ys h i = (h.0, methods_push xs ys h.1 i)

  forms_fine : (fs : List (String × InterlockedForm)) → AllMethods (interlocked_methods fs)
  forms_fine [] = tt
  forms_fine (f ∷ fs) = (tt, forms_fine fs)

  loads_fine : AllMethods loads
  loads_fine = (tt, (k.two, (k.three, (k.four, tt))))

  stores_fine : AllMethods stores
  stores_fine = (tt, (k.two, (k.three, (k.four, tt))))

  methods_fine : (o : Object) → AllMethods (methods o)
  methods_fine (object.Buffer buffer (buffer_type_of.Raw true)) = methods_push loads (stores ++ interlocked_methods interlocked_names) loads_fine (methods_push stores (interlocked_methods interlocked_names) stores_fine (forms_fine interlocked_names))
  methods_fine (object.Buffer buffer (buffer_type_of.Raw false)) = methods_push loads [] loads_fine tt
  methods_fine (object.Buffer buffer (buffer_type_of.Structured writable of)) = tt
  methods_fine (object.Input many None s sharing) = (tt, tt)
  methods_fine (object.Input many (Some number) s sharing) = (tt, methods_push _ _ (counts many) (finishes (is_shared sharing)))
    where
      counts : (c : Bool) → AllMethods (cond c (("Count", method.Count) ∷ []) [])
      counts true = (tt, tt)
      counts false = tt

      finishes : (c : Bool) → AllMethods (cond c (("FinishedCrossGroupSharing", method.Finished) ∷ []) [])
      finishes true = (tt, tt)
      finishes false = tt
  methods_fine (object.Output output true record_type) = tt
  methods_fine (object.Output output false None) = (tt, (tt, (tt, tt)))
  methods_fine (object.Output output false (Some number)) = (tt, (tt, (tt, tt)))
  methods_fine (object.Handle handle number) = (tt, (tt, tt))

  named_fine : (table : List (String × Method)) (name : List ℕ) → AllMethods table → If MethodFine (at_name table name)
  named_fine [] name h = tt
  named_fine (e ∷ rest) name h = picked (bytes_eq (codes e.0) name) (named_fine rest name h.1)
    where
      picked : (c : Bool) → If MethodFine (at_name rest name) → If MethodFine (cond c (Some e.1) (at_name rest name))
      picked true i = h.0
      picked false i = i

  formed_below : (place name : Place) (o : Object) (element : Option TypedExpr) (n : Method) (es : List TypedExpr) → MethodFine n → IndexBelow element → AllExprs k b es → If (ValueBelow k b) (method_form place name o element n es)
  formed_below place name (object.Buffer buffer of) element (method.Load n) (address ∷ []) f h i = (made k place (uints n) b (TypedKind-F.Load buffer address) (tree.Load buffer address) (tree.rolls-Load buffer address) f i.0, f)
  formed_below place name (object.Buffer buffer of) element (method.Store n) (address ∷ v ∷ []) f h i = k.join (of_expr k.measure address) (of_expr k.measure v) b i.0 i.1.0
  formed_below place name (object.Input many (Some number) s sharing) element method.Get [] f h i = input_below place (type.Struct number) None tt tt
  formed_below place name (object.Input many (Some number) s sharing) element method.Get (x ∷ []) f h i = input_below place (type.Struct number) (Some x) tt i.0
  formed_below place name (object.Input many record_type s sharing) element method.Count [] f h i = (made k place uint_type b TypedKind-F.Count tree.Count tree.rolls-Count tt (k.none b), tt)
  formed_below place name (object.Input many record_type s sharing) element method.Finished [] f h i = tt
  formed_below place name (object.Output output array (Some number)) element (method.Request group) (n ∷ []) f h i = (h, i.0)
  formed_below place name (object.Output output array None) element (method.Increment group) (n ∷ []) f h i = (h, i.0)
  formed_below place name (object.Output output array record_type) element method.IsValid [] f h i = valid_below place output element h
  formed_below place name (object.Handle handle number) element method.Get [] f h i = handle_below place (type.Struct number) handle None tt tt
  formed_below place name (object.Handle handle number) element method.Get (x ∷ []) f h i = handle_below place (type.Struct number) handle (Some x) tt i.0
  formed_below place name (object.Handle handle number) element method.Complete [] f h i = tt
  formed_below place name o element n es f h i = tt

  arguments_fine : (n : Method) (parts : List Part) → MethodFine n → AllFine k (argument_types n parts)
  arguments_fine (method.Load n) parts f = (tt, tt)
  arguments_fine (method.Store n) parts f = (tt, (f, tt))
  arguments_fine (method.Interlocked g) parts f = tt
  arguments_fine method.Get [] f = tt
  arguments_fine method.Get (p ∷ parts) f = (tt, tt)
  arguments_fine method.Count parts f = tt
  arguments_fine (method.Request group) parts f = (tt, tt)
  arguments_fine (method.Increment group) parts f = (tt, tt)
  arguments_fine method.IsValid parts f = tt
  arguments_fine method.Complete parts f = tt
  arguments_fine method.Finished parts f = tt

  fitted_below : (place name : Place) (o : Object) (element : Option TypedExpr) (n : Method) (parts : List Part) → MethodFine n → IndexBelow element → AllParts k b parts → If (ValueBelow k b) (and_then (fit_all (argument_types n parts) parts) (method_form place name o element n))
  fitted_below place name o element n parts f h i = if_then (AllExprs k b) (ValueBelow k b) (fit_all (argument_types n parts) parts) _ (fit_all_below k b (argument_types n parts) parts (arguments_fine n parts f) i) (λ es j. formed_below place name o element n es f h j)

  method_below : (place name : Place) (o : Object) (element : Option TypedExpr) (n : Method) (parts : List Part) → MethodFine n → IndexBelow element → AllParts k b parts → If (ValueBelow k b) (method_value place name o element n parts)
  method_below place name (object.Buffer buffer of) element (method.Interlocked f) parts g h i = interlocked_raw_below name f buffer parts i
  method_below place name o element n parts f h i = fitted_below place name o element n parts f h i

  buffer_element_below : (place : Place) (buffer : ℕ) (of : TypedBufferType) (i : TypedExpr) → FineBuffer k of → ExprBelow k b i → If (ValueBelow k b) (element_of_buffer place buffer of i)
  buffer_element_below place buffer (buffer_type_of.Raw writable) i f h = tt
  buffer_element_below place buffer (buffer_type_of.Structured writable of) i f h = (made k place of b (TypedKind-F.Element buffer i) (tree.Element buffer i) (tree.rolls-Element buffer i) f h, f)

  input_element_below : (place : Place) (many : Bool) (r : Option ℕ) (s : Standing) (i : TypedExpr) → ExprBelow k b i → If (ValueBelow k b) (input_element place many r s i)
  input_element_below place true (Some number) s i h = input_below place (type.Struct number) (Some i) tt h
  input_element_below place true None s i h = tt
  input_element_below place false r s i h = tt

  output_element_below : (output : ℕ) (array : Bool) (r : Option ℕ) (i : TypedExpr) → ExprBelow k b i → If (ValueBelow k b) (output_element output array r i)
  output_element_below output true r i h = (tt, h)
  output_element_below output false r i h = tt

  element_below : (place : Place) (o : Object) (i : TypedExpr) → FineObject k o → ExprBelow k b i → If (ValueBelow k b) (element_value place o i)
  element_below place (object.Buffer buffer of) i f h = buffer_element_below place buffer of i f h
  element_below place (object.Input many record_type s sharing) i f h = input_element_below place many record_type s i h
  element_below place (object.Output output array record_type) i f h = output_element_below output array record_type i h
  element_below place (object.Handle handle number) i f h = handle_below place (type.Struct number) handle (Some i) tt h

  -- ---- what the forms so far give

  abbrev AccessBelow : Access → Type 0
  AccessBelow a = k.Below (of_access k.measure a) b

  abbrev AllAccesses : List Access → Type 0
  AllAccesses [] = Unit {0}
  AllAccesses (a ∷ rest) = AccessBelow a × AllAccesses rest

  accesses_below : (forms : List Access) → AllAccesses forms → k.Below (all_joined k.measure (map (of_access k.measure) forms)) b
  accesses_below [] h = k.none b
  accesses_below (a ∷ rest) h = k.join (of_access k.measure a) _ b h.0 (accesses_below rest h.1)

  one_access_more : (xs : List Access) (a : Access) → AllAccesses xs → AccessBelow a → AllAccesses (xs ++ a ∷ [])
  one_access_more [] a h i = (i, tt)
  one_access_more (x ∷ xs) a h i = (h.0, one_access_more xs a h.1 i)

  record ReachedBelow (r : Reached) : Type 0 where
    base : ExprBelow k b r.base
    accesses : AllAccesses r.accesses
    fine : Fine k r.of

  abbrev AlongBelow : Along → Type 0
  AlongBelow (along.Typed r) = ReachedBelow r
  AlongBelow (along.Other v) = ValueBelow k b v

  begin_below : (v : Value) → ValueBelow k b v → AlongBelow (begin v)
  begin_below (value.Typed of s base) h = record { base = h.0; accesses = tt; fine = h.1 }
  begin_below (value.Object o element) h = h
  begin_below (value.Act name a) h = h
  begin_below (value.Text bytes) h = h

  accessed_below : (place : Place) (of : TypeTree) (base : TypedExpr) (forms : List Access) → Fine k of → ExprBelow k b base → AllAccesses forms → ExprBelow k b (with_accesses place of base forms)
  accessed_below place of base [] f h i = h
  accessed_below place of base (a ∷ rest) f h i = made k place of b (TypedKind-F.Access base (a ∷ rest)) (tree.Access base (a ∷ rest)) (tree.rolls-Access base (a ∷ rest)) f (k.join (of_expr k.measure base) _ b h (accesses_below (a ∷ rest) i))

  finish_below : (place : Place) (a : Along) → AlongBelow a → ValueBelow k b (finish place a)
  finish_below place (along.Typed r) h = (accessed_below place r.of r.base r.accesses h.fine h.base h.accesses, h.fine)
  finish_below place (along.Other v) h = h

  extended_below : (r : Reached) (of : TypeTree) (s : Standing) (a : Access) → Fine k of → ReachedBelow r → AccessBelow a → If AlongBelow (extended r of s a)
  extended_below r of s a f h i = record { base = h.base; accesses = one_access_more r.accesses a h.accesses i; fine = f }

  field_below : (field : ℕ) (of : TypeTree) → Fine k of → AccessBelow (access.Field field of)
  field_below field of f = subst (λ x. k.Below x b) (sym (ap (of_access k.measure) (sym (access.rolls-Field field of)) ∙ fold-roll-Access k.carrier k.carrier k.carrier k.carrier (access_gives k.measure) (kind_gives k.measure) (expr_gives k.measure) (link_gives k.measure) (Access-F.Field field of))) (k.of of b f)

  components_below : (components : List ℕ) (of : TypeTree) → Fine k of → AccessBelow (access.Components components of)
  components_below components of f = subst (λ x. k.Below x b) (sym (ap (of_access k.measure) (sym (access.rolls-Components components of)) ∙ fold-roll-Access k.carrier k.carrier k.carrier k.carrier (access_gives k.measure) (kind_gives k.measure) (expr_gives k.measure) (link_gives k.measure) (Access-F.Components components of))) (k.of of b f)

  index_below : (index : TypedExpr) (of : TypeTree) → Fine k of → ExprBelow k b index → AccessBelow (access.Index index of)
  index_below index of f h = subst (λ x. k.Below x b) (sym (ap (of_access k.measure) (sym (access.rolls-Index index of)) ∙ fold-roll-Access k.carrier k.carrier k.carrier k.carrier (access_gives k.measure) (kind_gives k.measure) (expr_gives k.measure) (link_gives k.measure) (Access-F.Index index of))) (k.join (k.measure.of of) (of_expr k.measure index) b (k.of of b f) h)

  components_few : (size : ℕ) (name : List ℕ) → If (λ (cs : List ℕ). nat_lt (length cs) 5 ≡ true) (components_in size name)
  components_few size name = if_was (λ (cs : List ℕ). nat_lt (length cs) 5 ≡ true) (where_true (nat_lt 0 (length name) && nat_lt (length name) 5) name) _ (λ letters e.
      let w = where_so (nat_lt 0 (length name) && nat_lt (length name) 5) name letters e in
      as_many letters (all_of (map (component_in size) letters)) refl (subst (λ (x : List ℕ). nat_lt (length x) 5 ≡ true) w.1 (and_right (nat_lt 0 (length name)) _ w.0)))
    where
      as_many : (letters : List ℕ) (o : Option (List ℕ)) → all_of (map (component_in size) letters) ≡ o → nat_lt (length letters) 5 ≡ true → If (λ (cs : List ℕ). nat_lt (length cs) 5 ≡ true) o
      as_many letters None e h = tt
      as_many letters (Some cs) e h = subst (λ n. nat_lt n 5 ≡ true) (same_lengths letters cs e) h
        where
          same_lengths : (letters cs : List ℕ) → all_of (map (component_in size) letters) ≡ Some cs → length letters ≡ length cs
          same_lengths [] cs e = ap length (some_value e)
          same_lengths (x ∷ xs) cs e = let f = all_first (component_in size x) (map (component_in size) xs) cs e in ap suc (same_lengths xs f.2.0 f.2.1) ∙ ap length (sym f.2.2)

  picked_below : (of : Scalar) (r : Reached) (cs : List ℕ) → nat_lt (length cs) 5 ≡ true → ReachedBelow r → If AlongBelow (picked of r cs)
  picked_below of r [] e h = tt
  picked_below of r (c ∷ []) e h = extended_below r (type.Scalar of) r.standing (access.Components (c ∷ []) (type.Scalar of)) tt h (components_below (c ∷ []) (type.Scalar of) tt)
  picked_below of r (c ∷ d ∷ []) e h = extended_below r _ standing.Fixed _ k.two h (components_below (c ∷ d ∷ []) _ k.two)
  picked_below of r (c ∷ d ∷ x ∷ []) e h = extended_below r _ standing.Fixed _ k.three h (components_below (c ∷ d ∷ x ∷ []) _ k.three)
  picked_below of r (c ∷ d ∷ x ∷ y ∷ []) e h = extended_below r _ standing.Fixed _ k.four h (components_below (c ∷ d ∷ x ∷ y ∷ []) _ k.four)
  picked_below of r (c ∷ d ∷ x ∷ y ∷ z ∷ cs) e h = let l : length (c ∷ d ∷ x ∷ y ∷ z ∷ cs) < 5 = so_less (length (c ∷ d ∷ x ∷ y ∷ z ∷ cs)) 5 e in absurd (omega (arith, l))

  -- the fields of structs
  abbrev pub AllFields : List TypedField → Type 0
  AllFields [] = Unit {0}
  AllFields (f ∷ rest) = Fine k f.of × AllFields rest

  abbrev pub AllStructs : List TypedStruct → Type 0
  AllStructs [] = Unit {0}
  AllStructs (s ∷ rest) = AllFields s.fields × AllStructs rest

  struct_fields : (structs : List TypedStruct) (number : ℕ) → AllStructs structs → If (λ (s : TypedStruct). AllFields s.fields) (slice_get structs number)
  struct_fields [] number h = tt
  struct_fields (s ∷ rest) zero h = h.0
  struct_fields (s ∷ rest) (suc number) h = struct_fields rest number h.1

  found_fine : (at : ℕ) (name : List ℕ) (fields : List TypedField) → AllFields fields → If (λ (f : FoundField). Fine k f.of) (field_from at name fields)
  found_fine at name [] h = tt
  found_fine at name (f ∷ rest) h = by_name (bytes_eq f.name.name name) (found_fine (suc at) name rest h.1)
    where
      by_name : (c : Bool) → If (λ (x : FoundField). Fine k x.of) (field_from (suc at) name rest) → If (λ (x : FoundField). Fine k x.of) (cond c (Some (record { number = at; of = f.of })) (field_from (suc at) name rest))
      by_name true i = h.0
      by_name false i = i

  field_fine : (name : List ℕ) (o : Option TypedStruct) → If (λ (s : TypedStruct). AllFields s.fields) o → If (λ (f : FoundField). Fine k f.of) (struct_field name o)
  field_fine name None h = tt
  field_fine name (Some s) h = found_fine 0 name s.fields h

  member_below : (structs : List TypedStruct) (t : TypeTree) (name : List ℕ) (r : Reached) → AllStructs structs → ReachedBelow r → If AlongBelow (member_of structs t name r)
  member_below structs (type.Scalar of) name r f h = tt
  member_below structs (type.Vector of size) name r f h = if_then (λ (cs : List ℕ). nat_lt (length cs) 5 ≡ true) AlongBelow (components_in size name) _ (components_few size name) (λ cs e. picked_below of r cs e h)
  member_below structs (type.Struct number) name r f h = if_then (λ (x : FoundField). Fine k x.of) AlongBelow (struct_field name (slice_get structs number)) _ (field_fine name (slice_get structs number) (struct_fields structs number f)) (λ x e.
      extended_below r x.of r.standing (access.Field x.number x.of) e h (field_below x.number x.of e))
  member_below structs (type.Array of size) name r f h = tt

  element_fine : (of : ElementType) (size : ℕ) → Fine k (type.Array of size) → Fine k (element_type of)
  element_fine (element_type_of.Scalar of) size f = tt
  element_fine (element_type_of.Vector of n) size f = f
  element_fine (element_type_of.Struct number) size f = tt

  indexed_below : (t : TypeTree) (p : Part) (r : Reached) → Fine k t → PartBelow k b p → ReachedBelow r → If AlongBelow (indexed t p r)
  indexed_below (type.Scalar of) p r f i h = tt
  indexed_below (type.Vector of size) p r f i h = tt
  indexed_below (type.Struct number) p r f i h = tt
  indexed_below (type.Array of size) p r f i h = if_then (ExprBelow k b) AlongBelow (fit uint_type p) _ (fit_below k b uint_type p tt i) (λ x j.
      let g = element_fine of size f in
      extended_below r (element_type of) r.standing (access.Index x (element_type of)) g h (index_below x (element_type of) g j))

  -- ---- forms

  abbrev pub FormBelow : FormLayer Part → Type 0
  FormBelow (form_layer.Member name) = Unit {0}
  FormBelow (form_layer.Method name parts) = AllParts k b parts
  FormBelow (form_layer.Index p) = PartBelow k b p

  abbrev pub AllForms : List (FormLayer Part) → Type 0
  AllForms [] = Unit {0}
  AllForms (f ∷ rest) = FormBelow f × AllForms rest

  method_on_below : (place name : Place) (o : Object) (element : Option TypedExpr) (parts : List Part) (n : Method) → MethodFine n → IndexBelow element → AllParts k b parts → If AlongBelow (method_on place name o element parts n)
  method_on_below place name o element parts n f h i = if_then (ValueBelow k b) AlongBelow (and_then (where_true (takes o n parts) parts) (method_value place name o element n)) _
      (if_then (AllParts k b) (ValueBelow k b) (where_true (takes o n parts) parts) _ (if_where (AllParts k b) (takes o n parts) parts (λ e. i)) (λ ps j. method_below place name o element n ps f h j)) begin_below

  after_object_below : (place : Place) (o : Object) (element : Option TypedExpr) (f : FormLayer Part) → FineObject k o → IndexBelow element → FormBelow f → If AlongBelow (after_object place o element f)
  after_object_below place o element (form_layer.Member name) g h i = tt
  after_object_below place o element (form_layer.Method name parts) g h i = if_then MethodFine AlongBelow (method_of o name.name) _ (named_fine (methods o) name.name (methods_fine o)) (λ n e. method_on_below place name.place o element parts n e h i)
  after_object_below place o element (form_layer.Index p) g h i = if_then (ValueBelow k b) AlongBelow (and_then (fit uint_type p) (element_value place o)) _
      (if_then (ExprBelow k b) (ValueBelow k b) (fit uint_type p) _ (fit_below k b uint_type p tt i) (λ x j. element_below place o x g j)) begin_below

  after_typed_below : (structs : List TypedStruct) (r : Reached) (f : FormLayer Part) → AllStructs structs → ReachedBelow r → FormBelow f → If AlongBelow (after_typed structs r f)
  after_typed_below structs r (form_layer.Member name) g h i = member_below structs r.of name.name r g h
  after_typed_below structs r (form_layer.Method name parts) g h i = tt
  after_typed_below structs r (form_layer.Index p) g h i = indexed_below r.of p r h.fine i h

  form_on_below : (c : Context) (place : Place) (a : Along) (f : FormLayer Part) → AllStructs c.structs → AlongBelow a → FormBelow f → If AlongBelow (form_on c place a f)
  form_on_below c place (along.Typed r) f g h i = after_typed_below c.structs r f g h i
  form_on_below c place (along.Other (value.Typed of s base)) f g h i = tt
  form_on_below c place (along.Other (value.Object o element)) f g h i = after_object_below place o element f h.0 h.1 i
  form_on_below c place (along.Other (value.Act name a)) f g h i = tt
  form_on_below c place (along.Other (value.Text bytes)) f g h i = tt

  forms_on_below : (c : Context) (place : Place) (a : Along) (forms : List (FormLayer Part)) → AllStructs c.structs → AlongBelow a → AllForms forms → If AlongBelow (forms_on c place a forms)
  forms_on_below c place a [] g h i = h
  forms_on_below c place a (f ∷ rest) g h i = if_then AlongBelow AlongBelow (form_on c place a f) _ (form_on_below c place a f g h i.0) (λ x j. forms_on_below c place x rest g j i.1)

  pub postfix_below : (c : Context) (place : Place) (first : Part) (forms : List (FormLayer Part)) → AllStructs c.structs → PartBelow k b first → AllForms forms → If (ValueBelow k b) (postfix_value c place first forms)
  postfix_below c place first forms g h i = if_then AlongBelow (ValueBelow k b) (and_then (begun first) (λ a. forms_on c place a forms)) _
      (if_then AlongBelow AlongBelow (begun first) _ (if_then (ValueBelow k b) AlongBelow first.value _ h begin_below) (λ a j. forms_on_below c place a forms g j i))
      (finish_below place)
