-- The type of every sound expression of a sound text stands in the text: its structs are there, its arrays have elements, and it has no
-- more words than a type may have.
use Rattle.std.proofs.Common.{◌≡◌, ℕ, zero, suc, Bool, true, false, not, cond, List, [], ◌∷◌, ◌++◌, map, length, Option, Some, None, refl, sym, ap, subst, arith, ◌<◌}
use Rattle.std.specs.Prelude.{◌&&◌, ◌==◌, nat_lt, nat_le, slice_get, is_some}
use Rattle.wg_typing.specs.Conversions.{numbers, numbers_fit, same_type, is_number, fits, truth_type, uint_type, uints, Class, arithmetic, shift, comparison, logic, class_of}
use Rattle.wg_typing.specs.TypingDeclared.{type_limit}
use Rattle.wg_typing.specs.TypingIntrinsic.{Reckons, in_common, in_uint, to_one_truth, in_truths, choosing, reckons}
use Rattle.wg_typing.specs.TypingParameter.{Role, an_input, an_output, no_role, role_of}
use Rattle.wg_typed.specs.Layout.{words_of, field_types, element_type}
use Rattle.wg_sound.specs.Room.{Room, Output, Input, holds_elements, is_record, buffer_type, input_in, output_at, handle_record, input_of, input_if, input_of_type, outputs_of, output_of, output_if}
use Rattle.wg_sound.specs.Sound.{parameter_stands, buffer_stands, IsSoundFunction, IsSound}
use Rattle.wg_sound.specs.SoundCalls.{calls, same_result, gives, reckons_on, is_uint_type}
use Rattle.wg_sound.specs.SoundExpr.{reads_input, loads, kind_step, expr_step, shown, kind_held, form_of, link_of}
use Rattle.wg_sound.specs.SoundForms.{Shown, Held, Form, field_of, components_type, are_components, is_element, all_follow, access_step}
use Rattle.wg_sound.specs.SoundOperators.{is_counted, is_truths, operates_in, operates, before_type, link_step, chain_end, prefix_fits}
use Rattle.wg_sound.specs.StandingTypes.{stands_in, names_below, is_struct}
use Rattle.wg_typed.specs.declared.typed.TypedVariable.{TypedVariable}
use Rattle.wg_sound.specs.Room.{is_node}
use Rattle.wg_facts.specs.Tests.{test, if_any, every}
use Rattle.wg_tree.specs.declared.expr.PrefixOperator.{PrefixOperator}
use Rattle.wg_tree.specs.declared.expr.PrefixOperator.TheVariants as prefix
use Rattle.wg_tree.specs.declared.expr.Scalar.{Scalar}
use Rattle.wg_tree.specs.declared.expr.Scalar.TheVariants as scalar
use Rattle.wg_typed.specs.declared.types.ElementType.{ElementType}
use Rattle.wg_typed.specs.declared.types.ElementType.TheVariants as element
use Rattle.wg_typed.specs.declared.types.TypeTree.{TypeTree}
use Rattle.wg_typed.specs.declared.types.TypeTree.TheVariants as type
use Rattle.wg_typed.specs.declared.typed.TypedBuffer.{TypedBuffer}
use Rattle.wg_typed.specs.declared.typed.TypedBufferType.{TypedBufferType}
use Rattle.wg_typed.specs.declared.typed.TypedBufferType.TheVariants as buffer
use Rattle.wg_typed.specs.declared.typed.TypedFunction.{TypedFunction}
use Rattle.wg_typed.specs.declared.typed.TypedParameter.{TypedParameter}
use Rattle.wg_typed.specs.declared.typed.TypedParameterType.{TypedParameterType}
use Rattle.wg_typed.specs.declared.typed.TypedParameterType.TheVariants as parameter
use Rattle.wg_typed.specs.declared.typed.TypedShared.{TypedShared}
use Rattle.wg_typed.specs.declared.typed.TypedStruct.{TypedStruct}
use Rattle.wg_typed.specs.declared.typed_expr.Access.{Access, roll-Access, fold-roll-Access, map-Access}
use Rattle.wg_typed.specs.declared.typed_expr.Access.TheOpen.{TypedKind-F, Access-F, TypedLink-F}
use Rattle.wg_typed.specs.declared.typed_expr.TypedExpr.{TypedExpr, roll-TypedExpr, fold-roll-TypedExpr, ind-TypedExpr}
use Rattle.wg_typed.specs.declared.typed_expr.TypedKind.{TypedKind, roll-TypedKind, fold-roll-TypedKind, map-TypedKind}
use Rattle.wg_typed.specs.declared.typed_expr.TypedLink.{TypedLink, roll-TypedLink, fold-roll-TypedLink, map-TypedLink}
use Rattle.wg_facts.proofs.Basics.{and_then, If, and_left, and_right, both, some_value, then_some, where_so, type_is, less_so, so_less, test_so, either_so}
use Rattle.wg_typing.specs.declared.numbers.Numbers.{Numbers}

-- ---- tests

pub every_at : {A : Type 0} (f : A → Bool) (xs : List A) (n : ℕ) (x : A) → slice_get xs n ≡ Some x → every f xs ≡ true → f x ≡ true
every_at f [] n x e h = absurd (cc)
every_at f (y ∷ xs) zero x e h = subst (λ z. f z ≡ true) (some_value e) (and_left (f y) _ h)
every_at f (y ∷ xs) (suc n) x e h = every_at f xs n x e (and_right (f y) _ h)

module _ (structs : List TypedStruct) where
  -- numbers stand
  pub numbers_stand : (t : TypeTree) (n : Numbers) → numbers t ≡ Some n → stands_in structs t ≡ true
  numbers_stand (type.Scalar of) n e = refl
  numbers_stand (type.Vector of size) n e = refl
  numbers_stand (type.Struct number) n e = absurd (cc)
  numbers_stand (type.Array of size) n e = absurd (cc)

  number_stands : (t : TypeTree) → is_number t ≡ true → stands_in structs t ≡ true
  number_stands (type.Scalar of) e = refl
  number_stands (type.Vector of size) e = refl
  number_stands (type.Struct number) e = absurd (cc)
  number_stands (type.Array of size) e = absurd (cc)

  tested_stands : (f : Numbers → Bool) (t : TypeTree) → test f (numbers t) ≡ true → stands_in structs t ≡ true
  tested_stands f t e = let x = test_so f (numbers t) e in numbers_stand t x.0 x.1

  same_stands : (s t : TypeTree) → same_type s t ≡ true → stands_in structs s ≡ true → stands_in structs t ≡ true
  same_stands s t e h = subst (λ x. stands_in structs x ≡ true) (type_is s t e) h

  back_stands : (s t : TypeTree) → same_type s t ≡ true → stands_in structs t ≡ true → stands_in structs s ≡ true
  back_stands s t e h = subst (λ x. stands_in structs x ≡ true) (sym (type_is s t e)) h

  fit_stands : (s t : TypeTree) → fits s t ≡ true → stands_in structs s ≡ true → stands_in structs t ≡ true
  fit_stands s t e h = either_so (same_type s t) _ (stands_in structs t ≡ true) e (λ f. same_stands s t f h) (λ f. goal_stands (numbers s) (numbers t) refl f)
    where
      goal_stands : (a b : Option Numbers) → numbers t ≡ b → numbers_fit a b ≡ true → stands_in structs t ≡ true
      goal_stands None None q e = absurd (cc)
      goal_stands None (Some n) q e = numbers_stand t n q
      goal_stands (Some m) None q e = absurd (cc)
      goal_stands (Some m) (Some n) q e = numbers_stand t n q

  prefix_stands : (operator : PrefixOperator) (t : TypeTree) → prefix_fits operator t ≡ true → stands_in structs t ≡ true
  prefix_stands prefix.Minus t e = tested_stands _ t e
  prefix_stands prefix.Plus t e = tested_stands _ t e
  prefix_stands prefix.Not t e = tested_stands _ t e
  prefix_stands prefix.Complement t e = tested_stands _ t e

  result_stands : (k : Class) (left right result : TypeTree) → operates_in k left right result ≡ true → stands_in structs result ≡ true
  result_stands arithmetic left right result e = back_stands result left (and_right (same_type right left) _ (and_right (is_counted left) _ e)) (tested_stands _ left (and_left (is_counted left) _ e))
  result_stands shift left right result e = back_stands result left (and_right _ _ (and_right (is_counted right) _ (and_right (is_counted left) _ e))) (tested_stands _ left (and_left (is_counted left) _ e))
  result_stands comparison left right result e = tested_stands _ result (and_left (is_truths result) _ (and_right (same_type right left) _ (and_right (is_counted left) _ e)))
  result_stands logic left right result e = back_stands result truth_type (and_right (same_type right truth_type) _ (and_right (same_type left truth_type) _ e)) refl

  reckoned_stands : (r : Reckons) (t : TypeTree) (arguments : List Shown) → reckons_on r t arguments ≡ true → stands_in structs t ≡ true
  reckoned_stands in_common t given e = tested_stands _ t (and_left (is_counted t) _ e)
  reckoned_stands in_uint t given e = tested_stands _ t (and_left (is_uint_type t) _ e)
  reckoned_stands to_one_truth t given e = back_stands t truth_type (and_left (same_type t truth_type) _ e) refl
  reckoned_stands in_truths t given e = tested_stands _ t (and_left (is_truths t) _ e)
  reckoned_stands choosing t given e =
      let x = test_so _ (and_then (numbers t) _) e in
      let y = then_some (numbers t) _ x.0 x.1 in
      numbers_stand t y.0 y.1

  uints_stand : (n : ℕ) → stands_in structs (uints n) ≡ true
  uints_stand n = picked (n == 1)
    where
      picked : (b : Bool) → stands_in structs (cond b uint_type (type.Vector scalar.Uint n)) ≡ true
      picked true = refl
      picked false = refl

  components_stand : (of : Scalar) (cs : List ℕ) → stands_in structs (components_type of cs) ≡ true
  components_stand of [] = refl
  components_stand of (c ∷ []) = refl
  components_stand of (c ∷ d ∷ rest) = refl

  several_stand : (t u : TypeTree) (cs : List ℕ) → are_components u cs t ≡ true → stands_in structs u ≡ true
  several_stand (type.Vector of size) u cs e = same_stands (components_type of cs) u (and_right _ _ (and_right _ _ e)) (components_stand of cs)
  several_stand (type.Scalar of) u cs e = absurd (cc)
  several_stand (type.Struct number) u cs e = absurd (cc)
  several_stand (type.Array of size) u cs e = absurd (cc)

  -- the sizes of the text's structs
  pub record StructsStand : Type 0 where
    pub fields : (number : ℕ) (s : TypedStruct) → slice_get structs number ≡ Some s → every (stands_in structs) (field_types s) ≡ true
    pub sizes : (number : ℕ) (s : TypedStruct) → slice_get structs number ≡ Some s → nat_le (words_of structs (type.Struct number)) type_limit ≡ true

  there : (n : ℕ) → nat_lt n (length structs) ≡ true → (s : TypedStruct) × (slice_get structs n ≡ Some s)
  there n h = found structs n h
    where
      found : (xs : List TypedStruct) (n : ℕ) → nat_lt n (length xs) ≡ true → (s : TypedStruct) × (slice_get xs n ≡ Some s)
      found [] n h = let l : n < 0 = so_less n 0 h in absurd (omega (arith, l))
      found (x ∷ xs) zero h = (x, refl)
      found (x ∷ xs) (suc n) h = let l : suc n < length (x ∷ xs) = so_less (suc n) (length (x ∷ xs)) h in found xs n (less_so n (length xs) (omega (arith, l)))

  struct_number_stands : StructsStand → (n : ℕ) → nat_lt n (length structs) ≡ true → stands_in structs (type.Struct n) ≡ true
  struct_number_stands s n h = let x = there n h in both h (s.sizes n x.0 x.1)

  field_stands : StructsStand → (t : TypeTree) (field : ℕ) (u : TypeTree) → field_of structs t field ≡ Some u → stands_in structs u ≡ true
  field_stands s (type.Struct number) field u e =
      let x = then_some (slice_get structs number) _ u e in
      every_at (stands_in structs) (field_types x.0) field u x.2 (s.fields number x.0 x.1)
  field_stands s (type.Scalar of) field u e = absurd (cc)
  field_stands s (type.Vector of size) field u e = absurd (cc)
  field_stands s (type.Array of size) field u e = absurd (cc)

  element_stands : StructsStand → (of : ElementType) (size : ℕ) → stands_in structs (type.Array of size) ≡ true → stands_in structs (element_type of) ≡ true
  element_stands s (element.Scalar of) size h = refl
  element_stands s (element.Vector of count) size h = refl
  element_stands s (element.Struct number) size h = struct_number_stands s number (and_left (nat_lt number (length structs)) _ h)

  indexed_stands : StructsStand → (t u : TypeTree) → is_element u t ≡ true → stands_in structs t ≡ true → stands_in structs u ≡ true
  indexed_stands s (type.Array of size) u e h = same_stands (element_type of) u e (element_stands s of size h)
  indexed_stands s (type.Scalar of) u e h = absurd (cc)
  indexed_stands s (type.Vector of size) u e h = absurd (cc)
  indexed_stands s (type.Struct number) u e h = absurd (cc)

  zero_stands : StructsStand → (t : TypeTree) → is_struct t ≡ true → names_below (length structs) t ≡ true → stands_in structs t ≡ true
  zero_stands s (type.Struct number) e h = struct_number_stands s number h
  zero_stands s (type.Scalar of) e h = refl
  zero_stands s (type.Vector of size) e h = refl
  zero_stands s (type.Array of size) e h = absurd (cc)

  -- ---- objects

  record_stands : (t : TypeTree) (o : Option ℕ) → is_record t o ≡ true → If (λ n. stands_in structs (type.Struct n) ≡ true) o → stands_in structs t ≡ true
  record_stands t None e h = absurd (cc)
  record_stands t (Some number) e h = back_stands t (type.Struct number) e h

  abbrev RecordIs : Option ℕ → Type 0
  RecordIs o = If (λ n. stands_in structs (type.Struct n) ≡ true) o

  input_record : (entry : Bool) (ps : List TypedParameter) → every (λ (p : TypedParameter). parameter_stands structs entry p.of) ps ≡ true → If (λ (i : Input). RecordIs i.record_type) (input_of ps)
  input_record entry [] h = tt
  input_record entry (p ∷ ps) h = by_type p.of (input_of ps) (and_left (parameter_stands structs entry p.of) _ h) (input_record entry ps (and_right (parameter_stands structs entry p.of) _ h))
    where
      by_role : (r : Role) (n : Option ℕ) (rest : Option Input) → RecordIs n → If (λ (i : Input). RecordIs i.record_type) rest → If (λ (i : Input). RecordIs i.record_type) (input_if r n rest)
      by_role (an_input many s shared) n rest k l = k
      by_role (an_output array) n rest k l = l
      by_role no_role n rest k l = l

      by_type : (of : TypedParameterType) (rest : Option Input) → parameter_stands structs entry of ≡ true → If (λ (i : Input). RecordIs i.record_type) rest → If (λ (i : Input). RecordIs i.record_type) (input_of_type of rest)
      by_type (parameter.Value of) rest k l = l
      by_type (parameter.Object place word None) rest k l = by_role (role_of word) None rest tt l
      by_type (parameter.Object place word (Some n)) rest k l = by_role (role_of word) (Some n) rest (and_right entry _ k) l

  abbrev OutputStands : Output → Type 0
  OutputStands o = RecordIs o.record_type

  abbrev EachOutput : List Output → Type 0
  EachOutput [] = Unit {0}
  EachOutput (o ∷ rest) = OutputStands o × EachOutput rest

  output_found : (os : List Output) (n : ℕ) (o : Output) → EachOutput os → slice_get os n ≡ Some o → OutputStands o
  output_found [] n o h e = absurd (cc)
  output_found (x ∷ os) zero o h e = subst OutputStands (some_value e) h.0
  output_found (x ∷ os) (suc n) o h e = output_found os n o h.1 e

  output_records : (entry : Bool) (ps : List TypedParameter) → every (λ (p : TypedParameter). parameter_stands structs entry p.of) ps ≡ true → EachOutput (outputs_of ps)
  output_records entry [] h = tt
  output_records entry (p ∷ ps) h = by_type p.of (outputs_of ps) (and_left (parameter_stands structs entry p.of) _ h) (output_records entry ps (and_right (parameter_stands structs entry p.of) _ h))
    where
      by_role : (r : Role) (n : Option ℕ) (rest : List Output) → RecordIs n → EachOutput rest → EachOutput (output_if r n ++ rest)
      by_role (an_input many s shared) n rest k l = l
      by_role (an_output array) n rest k l = (k, l)
      by_role no_role n rest k l = l

      by_type : (of : TypedParameterType) (rest : List Output) → parameter_stands structs entry of ≡ true → EachOutput rest → EachOutput (output_of of ++ rest)
      by_type (parameter.Value of) rest k l = l
      by_type (parameter.Object place word None) rest k l = by_role (role_of word) None rest tt l
      by_type (parameter.Object place word (Some n)) rest k l = by_role (role_of word) (Some n) rest (and_right entry _ k) l

module _ (room : Room) (text : IsSound room.text) (own : IsSoundFunction room.text room.number room.function) where
  abbrev whole : List TypedStruct
  whole = room.text.structs

  abbrev OfType : TypeTree → Type 0
  OfType t = stands_in whole t ≡ true

  structs_stand : StructsStand whole
  structs_stand = record { fields = text.fields; sizes = text.sizes }

  abbrev ExprOk : Shown → Type 0
  ExprOk s = s.sound ≡ true → OfType s.of

  abbrev KindOk : (TypeTree → Held) → Type 0
  KindOk k = (t : TypeTree) → (k t).sound ≡ true → OfType t

  abbrev FormOk : Form → Type 0
  FormOk f = (t : TypeTree) → f.follows t ≡ true → OfType t → OfType f.of

  abbrev LinkOk : (TypeTree → Option TypeTree) → Type 0
  LinkOk l = (t u : TypeTree) → l t ≡ Some u → OfType u

  buffer_elements : (b : TypedBufferType) (t : TypeTree) → holds_elements t b ≡ true → buffer_stands whole b ≡ true → OfType t
  buffer_elements (buffer.Raw writable) t e h = absurd (cc)
  buffer_elements (buffer.Structured writable of) t e h = same_stands whole of t e h

  buffer_at : (number : ℕ) (t : TypeTree) → test (holds_elements t) (buffer_type room number) ≡ true → OfType t
  buffer_at number t e =
      let x = test_so (holds_elements t) (buffer_type room number) e in
      let y = then_some (slice_get room.text.buffers number) _ x.0 x.1 in
      buffer_elements x.0 t x.2 (subst (λ b. buffer_stands whole b ≡ true) (some_value y.2) (every_at (λ (b : TypedBuffer). buffer_stands whole b.of) room.text.buffers number y.0 y.1 text.buffers))

  result_at : (r : Option TypeTree) (t : TypeTree) → same_result r (Some t) ≡ true → if_any (stands_in whole) r ≡ true → OfType t
  result_at None t e h = absurd (cc)
  result_at (Some s) t e h = same_stands whole s t e h

  called_at : (function : ℕ) (t : TypeTree) (arguments : List Shown) → calls room function (Some t) arguments ≡ true → OfType t
  called_at function t arguments e =
      let x = test_so (λ (f : TypedFunction). not (is_node f) && gives (Some t) arguments f) (slice_get room.text.functions function) (and_right (nat_lt function room.number) _ e) in
      result_at x.0.result t (and_left (same_result x.0.result (Some t)) _ (and_right (not (is_node x.0)) _ x.2)) (text.functions function x.0 x.1).result

  handle_at : (handle : ℕ) (n : ℕ) → handle_record room handle ≡ Some n → OfType (type.Struct n)
  handle_at handle n e =
      let x = then_some (slice_get room.function.handles handle) _ n e in
      let y = then_some (output_at room x.0.output) (λ (o : Output). o.record_type) n x.2 in
      subst (RecordIs whole) y.2 (output_found whole (outputs_of room.function.parameters) x.0.output y.0 (output_records whole (is_node room.function) room.function.parameters own.parameters) y.1)

  handle_type : (handle : ℕ) (t : TypeTree) → is_record t (handle_record room handle) ≡ true → OfType t
  handle_type handle t e = record_stands whole t (handle_record room handle) e (any_record (handle_record room handle) refl)
    where
      any_record : (o : Option ℕ) → handle_record room handle ≡ o → RecordIs whole o
      any_record None q = tt
      any_record (Some n) q = handle_at handle n q

  input_type : (t : TypeTree) (indexed : Bool) → test (reads_input t indexed) (input_in room) ≡ true → OfType t
  input_type t indexed e =
      let x = test_so (reads_input t indexed) (input_in room) e in
      record_stands whole t x.0.record_type (and_left (is_record t x.0.record_type) _ x.2) (subst (If (λ (i : Input). RecordIs whole i.record_type)) x.1 (input_record whole (is_node room.function) room.function.parameters own.parameters))

  loaded : (t : TypeTree) → loads t ≡ true → OfType t
  loaded t e = back_stands whole t (uints (words_of [] t)) (and_right (nat_lt (words_of [] t) 5) _ (and_right (nat_lt 0 (words_of [] t)) _ e)) (uints_stand whole (words_of [] t))

  forms_ok : {B : Type 0} (p : B → Form) (holds : (b : B) → FormOk (p b)) (bs : List B) (from goal : TypeTree) → all_follow (map p bs) from goal ≡ true → OfType from → OfType goal
  forms_ok p holds [] from goal e h = same_stands whole from goal e h
  forms_ok p holds (b ∷ bs) from goal e h = forms_ok p holds bs (p b).of goal (and_right ((p b).follows from) _ e) (holds b from (and_left ((p b).follows from) _ e) h)

  links_ok : {B : Type 0} (p : B → TypeTree → Option TypeTree) (holds : (b : B) → LinkOk (p b)) (bs : List B) (from goal : TypeTree) → chain_end (map p bs) from ≡ Some goal → OfType from → OfType goal
  links_ok p holds [] from goal e h = subst OfType (some_value e) h
  links_ok p holds (b ∷ bs) from goal e h = let x = then_some (p b from) _ goal e in links_ok p holds bs x.0 goal x.2 (holds b from x.0 x.1)

  map_twice : {A B C : Type 0} (f : B → C) (g : A → B) (xs : List A) → map f (map g xs) ≡ map (λ x. f (g x)) xs
  map_twice f g [] = refl
  map_twice f g (x ∷ xs) = ap (λ ys. f (g x) ∷ ys) (map_twice f g xs)

  module _ {BA BK BE BL : Type 0} (pa : BA → Access) (pk : BK → TypedKind) (pe : BE → TypedExpr) (pl : BL → TypedLink) (ha : (b : BA) → FormOk (form_of room (pa b))) (hk : (b : BK) → KindOk (kind_held room (pk b))) (he : (b : BE) → ExprOk (shown room (pe b))) (hl : (b : BL) → LinkOk (link_of room (pl b))) where
    kind_level : (y : TypedKind-F BA BK BE BL) → KindOk (kind_step room (map-TypedKind Access TypedKind TypedExpr TypedLink Form (TypeTree → Held) Shown (TypeTree → Option TypeTree) (form_of room) (kind_held room) (shown room) (link_of room) (map-TypedKind BA BK BE BL Access TypedKind TypedExpr TypedLink pa pk pe pl y)))
    kind_level (TypedKind-F.Literal words) t e = number_stands whole t (and_left (is_number t) _ e)
    kind_level (TypedKind-F.Variable variable) t e = let x = test_so _ (slice_get room.function.variables variable) e in same_stands whole x.0.of t x.2 (every_at (λ (v : TypedVariable). stands_in whole v.of) room.function.variables variable x.0 x.1 own.variables)
    kind_level (TypedKind-F.Shared variable) t e = let x = test_so _ (slice_get room.text.shared variable) e in same_stands whole x.0.of t x.2 (every_at (λ (s : TypedShared). stands_in whole s.of) room.text.shared variable x.0 x.1 text.shared)
    kind_level (TypedKind-F.Element number index) t e = buffer_at number t (and_left (test (holds_elements t) (buffer_type room number)) _ e)
    kind_level (TypedKind-F.Load number address) t e = loaded t (and_right _ _ (and_right _ _ e))
    kind_level (TypedKind-F.Input index) t e = input_type t _ (and_left _ _ e)
    kind_level TypedKind-F.Count t e = back_stands whole t uint_type (and_right (is_some (input_in room)) _ e) refl
    kind_level TypedKind-F.Finished t e = absurd (cc)
    kind_level (TypedKind-F.Handle handle index) t e = handle_type handle t (and_left _ _ e)
    kind_level (TypedKind-F.IsValid output index) t e = back_stands whole t truth_type (and_right _ _ e) refl
    kind_level TypedKind-F.Levels t e = back_stands whole t uint_type (and_right _ _ e) refl
    kind_level TypedKind-F.Zeros t e = zero_stands whole structs_stand t (and_left (is_struct t) _ e) (and_right (is_struct t) _ e)
    kind_level (TypedKind-F.Access base forms) t e =
        forms_ok (λ b. form_of room (pa b)) ha forms (shown room (pe base)).of t (subst (λ fs. all_follow fs (shown room (pe base)).of t ≡ true) (map_twice (form_of room) pa forms) (and_right (shown room (pe base)).sound _ e)) (he base (and_left (shown room (pe base)).sound _ e))
    kind_level (TypedKind-F.Prefix operator operand) t e = prefix_stands whole operator t (and_right _ _ e)
    kind_level (TypedKind-F.Convert operand) t e = fit_stands whole (shown room (pe operand)).of t (and_right (shown room (pe operand)).sound _ e) (he operand (and_left (shown room (pe operand)).sound _ e))
    kind_level (TypedKind-F.Chain first rest) t e =
        let x = test_so (λ x. same_type x t) (chain_end (map (link_of room) (map pl rest)) (shown room (pe first)).of) (and_right (shown room (pe first)).sound _ e) in
        same_stands whole x.0 t x.2 (links_ok (λ b. link_of room (pl b)) hl rest (shown room (pe first)).of x.0 (subst (λ ls. chain_end ls (shown room (pe first)).of ≡ Some x.0) (map_twice (link_of room) pl rest) x.1) (he first (and_left (shown room (pe first)).sound _ e)))
    kind_level (TypedKind-F.Choice c a b) t e = number_stands whole t (and_left (is_number t) _ (and_right _ _ e))
    kind_level (TypedKind-F.Construct parts) t e = tested_stands whole _ t (and_left _ _ e)
    kind_level (TypedKind-F.Call function arguments) t e = called_at function t _ e
    kind_level (TypedKind-F.Intrinsic call arguments) t e = reckoned_stands whole (reckons call) t _ (and_right _ _ e)

    access_level : (y : Access-F BA BK BE BL) → FormOk (access_step room (map-Access Access TypedKind TypedExpr TypedLink Form (TypeTree → Held) Shown (TypeTree → Option TypeTree) (form_of room) (kind_held room) (shown room) (link_of room) (map-Access BA BK BE BL Access TypedKind TypedExpr TypedLink pa pk pe pl y)))
    access_level (Access-F.Field field of) t e h = let x = test_so (λ x. same_type x of) (field_of whole t field) e in same_stands whole x.0 of x.2 (field_stands whole structs_stand t field x.0 x.1)
    access_level (Access-F.Components components of) t e h = several_stand whole t of components e
    access_level (Access-F.Index index of) t e h = indexed_stands whole structs_stand t of (and_left (is_element of t) _ e) h

    link_level : (y : TypedLink-F BA BK BE BL) → LinkOk (link_step (map-TypedLink Access TypedKind TypedExpr TypedLink Form (TypeTree → Held) Shown (TypeTree → Option TypeTree) (form_of room) (kind_held room) (shown room) (link_of room) (map-TypedLink BA BK BE BL Access TypedKind TypedExpr TypedLink pa pk pe pl y)))
    link_level y t u e =
        let x = then_some (before_type y.before t) _ u e in
        let w = where_so ((shown room (pe y.operand)).sound && operates y.operator x.0 (shown room (pe y.operand)).of y.of) y.of u x.2 in
        subst OfType w.1 (result_stands whole (class_of y.operator) x.0 (shown room (pe y.operand)).of y.of (and_right (shown room (pe y.operand)).sound _ w.0))

  -- the type of each sound expression stands
  pub type_stands : (e : TypedExpr) → ExprOk (shown room e)
  type_stands e = ind-TypedExpr (λ x. FormOk (form_of room x)) (λ x. KindOk (kind_held room x)) (λ x. ExprOk (shown room x)) (λ x. LinkOk (link_of room x))
      (λ x y eq. subst (λ l. FormOk (form_of room (roll-Access l))) eq (subst FormOk (sym (fold-roll-Access Form (TypeTree → Held) Shown (TypeTree → Option TypeTree) (access_step room) (kind_step room) expr_step link_step _)) (access_level (λ b. b.0) (λ b. b.0) (λ b. b.0) (λ b. b.0) (λ b. b.1) (λ b. b.1) (λ b. b.1) (λ b. b.1) y)))
      (λ x y eq. subst (λ l. KindOk (kind_held room (roll-TypedKind l))) eq (subst KindOk (sym (fold-roll-TypedKind Form (TypeTree → Held) Shown (TypeTree → Option TypeTree) (access_step room) (kind_step room) expr_step link_step _)) (kind_level (λ b. b.0) (λ b. b.0) (λ b. b.0) (λ b. b.0) (λ b. b.1) (λ b. b.1) (λ b. b.1) (λ b. b.1) y)))
      (λ x y eq. subst (λ l. ExprOk (shown room (roll-TypedExpr l))) eq (subst ExprOk (sym (fold-roll-TypedExpr Form (TypeTree → Held) Shown (TypeTree → Option TypeTree) (access_step room) (kind_step room) expr_step link_step _)) (λ s. y.kind.1 y.of s)))
      (λ x y eq. subst (λ l. LinkOk (link_of room (roll-TypedLink l))) eq (subst LinkOk (sym (fold-roll-TypedLink Form (TypeTree → Held) Shown (TypeTree → Option TypeTree) (access_step room) (kind_step room) expr_step link_step _)) (link_level (λ b. b.0) (λ b. b.0) (λ b. b.0) (λ b. b.0) (λ b. b.1) (λ b. b.1) (λ b. b.1) (λ b. b.1) y)))
      e
