-- Sound expressions of a plain function do the same in two settings with the same structs.
use Rattle.std.proofs.Common.{◌≡◌, ℕ, true, false, List, [], ◌∷◌, map, Option, Some, None, refl, ap, subst}
use Rattle.std.specs.Prelude.{◌&&◌, ◌/◌, nat_lt, slice_get, slice_index}
use Rattle.wg_words.specs.Truth.{truth}
use Rattle.wg_tree.specs.declared.expr.BinaryOperator.{BinaryOperator}
use Rattle.wg_tree.specs.declared.expr.BinaryOperator.TheVariants as binary
use Rattle.wg_tree.specs.declared.item.Direction.{Direction}
use Rattle.wg_tree.specs.declared.item.Direction.TheVariants as direction
use Rattle.wg_state.specs.Turns.{Action, Done, ◌>>=◌, pure, read, each}
use Rattle.wg_state.specs.WordLists.{zeros, list_at}
use Rattle.wg_state.specs.declared.world.World.{World}
use Rattle.wg_semantics.specs.declared.state.State.{State}
use Rattle.wg_semantics.specs.declared.state.Passed.{Passed}
use Rattle.wg_semantics.specs.declared.state.Spot.{Spot}
use Rattle.wg_semantics.specs.declared.state.Spot.TheVariants as spot
use Rattle.wg_semantics.specs.Places.{Setting, fetched, words_from, array_size, element_at, buffer_element, input_record}
use Rattle.wg_semantics.specs.Calls.{Seen, Callee, callee_at, value_of, with_variables, on_world, parameter_words, passed_by, passed, all_passed, called}
use Rattle.wg_semantics.specs.ExprMeaning.{Follows, Linked, word_of, when, components_of, indexed, followed, with_right, operated, linked, chained, access_step, kind_step, expr_step, link_step, valued, seen, kind_does, follows, links}
use Rattle.wg_sound.specs.Room.{Room, is_node}
use Rattle.wg_sound.specs.SoundExpr.{shown, kind_held, form_of, link_of}
use Rattle.wg_sound.specs.SoundExpr.{kind_step as sound_kind}
use Rattle.wg_sound.specs.SoundExpr.{expr_step as sound_expr}
use Rattle.wg_sound.specs.SoundForms.{Shown, Held, Form, is_element, all_follow}
use Rattle.wg_sound.specs.SoundForms.{access_step as sound_access}
use Rattle.wg_sound.specs.SoundOperators.{operates, before_type, chain_end}
use Rattle.wg_sound.specs.SoundOperators.{link_step as sound_link}
use Rattle.wg_typing.specs.Conversions.{same_type}
use Rattle.wg_typing.specs.TypingIntrinsic.{reckons}
use Rattle.wg_typed.specs.declared.types.TypeTree.{TypeTree}
use Rattle.wg_typed.specs.declared.typed.TypedFunction.{TypedFunction}
use Rattle.wg_typed.specs.declared.typed.TypedParameter.{TypedParameter}
use Rattle.wg_typed.specs.declared.typed.TypedStruct.{TypedStruct}
use Rattle.wg_typed.specs.declared.typed_expr.Access.{Access}
use Rattle.wg_typed.specs.declared.typed_expr.TypedExpr.{TypedExpr}
use Rattle.wg_typed.specs.declared.typed_expr.TypedKind.{TypedKind}
use Rattle.wg_typed.specs.declared.typed_expr.TypedLink.{TypedLink}
use Rattle.wg_typed.specs.declared.typed_expr.Access.TheViews.{roll-Access, roll-TypedKind, roll-TypedExpr, roll-TypedLink}
use Rattle.wg_typed.specs.declared.typed_expr.Access.TheFolds.{fold-roll-Access, fold-roll-TypedKind, fold-roll-TypedExpr, fold-roll-TypedLink, map-Access, map-TypedKind, map-TypedExpr, map-TypedLink, ind-TypedExpr}
use Rattle.wg_typed.specs.declared.typed_expr.Access.TheOpen.{TypedExpr-F, TypedKind-F, Access-F, TypedLink-F}
use Rattle.wg_typed.specs.Layout.{words_of, put}
use Rattle.wg_typed.specs.Directions.{direction_of}
use Rattle.wg_typed.specs.Operators.{converted, combined_words, prefixed_words}
use Rattle.wg_typed.specs.Intrinsics.{called_words}
use Rattle.wg_bodies.proofs.Doing.{Alike, alike_self, alike_bind, alike_first, alike_when}
use Rattle.wg_bodies.proofs.Plain.{AllSound, never_both, reckoned_sound, constructed_sound, CallsPlain, calls_plain, IsPlain, names_no_output, names_no_record}
use Rattle.wg_facts.proofs.Basics.{and_left, and_right, test_so, then_some, where_so}

-- the meanings of a function in two settings
pub record SameCallee (x y : Callee) : Type 0 where
  pub parameters : x.parameters ≡ y.parameters
  pub does : (values : List (List ℕ)) → Alike (x.does values) (y.does values)

-- those of the plain functions before the own one are the same
abbrev pub SameCalls : Room → List Callee → List Callee → Type 0
SameCalls room cs ds = (number : ℕ) (f : TypedFunction) → nat_lt number room.number ≡ true → slice_get room.text.functions number ≡ Some f → is_node f ≡ false → SameCallee (callee_at cs number) (callee_at ds number)

-- a setting with the structs of another
abbrev pub with_structs : List TypedStruct → Setting → Setting
with_structs structs s = record s { structs = structs }

module _ (a other : Setting) (cs ds : List Callee) (room : Room) (plain : IsPlain room) (same : SameCalls room cs ds) where
  abbrev b : Setting
  b = with_structs a.structs other

  abbrev structs : List TypedStruct
  structs = a.structs

  pub record ExprGood (h : Shown) (x y : Seen) : Type 0 where
    pub of : x.of ≡ y.of
    pub spots : h.sound ≡ true → Alike x.spot y.spot

  abbrev KindGood : (TypeTree → Held) → (TypeTree → Action State Spot) → (TypeTree → Action State Spot) → Type 0
  KindGood h x y = (t : TypeTree) → (h t).sound ≡ true → Alike (x t) (y t)

  record FormGood (h : Form) (x y : Follows) : Type 0 where
    of : x.of ≡ y.of
    after : (from : TypeTree) → h.follows from ≡ true → (t : TypeTree) (p : Spot) → Alike (x.after t p) (y.after t p)

  record LinkGood (h : TypeTree → Option TypeTree) (x y : Linked) : Type 0 where
    of : x.of ≡ y.of
    next : (from u : TypeTree) → h from ≡ Some u → (t : TypeTree) (words : List ℕ) → Alike (x.next t words) (y.next t words)

  -- ---- values

  pub values_alike : (h : Shown) (x y : Seen) → ExprGood h x y → h.sound ≡ true → Alike (value_of structs x) (value_of structs y)
  values_alike h x y g e = alike_bind x.spot y.spot (λ p. read (fetched structs x.of p)) (λ p. read (fetched structs y.of p)) (g.spots e) (λ p. record { same = λ s t. ap (λ of. Done (fetched structs of p s) s t) g.of })

  pub words_alike : (h : Shown) (x y : Seen) → ExprGood h x y → h.sound ≡ true → Alike (word_of a x) (word_of b y)
  words_alike h x y g e = alike_first (value_of structs x) (value_of structs y) (λ words. pure (slice_index words 0)) (values_alike h x y g e)

  each_alike : {C : Type 0} (p : C → TypedExpr) (x y : TypedExpr → Seen) → ((c : C) → ExprGood (shown room (p c)) (x (p c)) (y (p c))) → (es : List C) → AllSound (map (shown room) (map p es))
      → Alike (each (map (value_of structs) (map x (map p es)))) (each (map (value_of structs) (map y (map p es))))
  each_alike p x y all [] h = alike_self (pure [])
  each_alike p x y all (c ∷ es) h =
      alike_bind (value_of structs (x (p c))) (value_of structs (y (p c))) _ _ (values_alike (shown room (p c)) (x (p c)) (y (p c)) (all c) (and_left (shown room (p c)).sound _ h)) (λ words.
      alike_first (each (map (value_of structs) (map x (map p es)))) (each (map (value_of structs) (map y (map p es)))) (λ rest. pure (words ∷ rest)) (each_alike p x y all es (and_right (shown room (p c)).sound _ h)))

  valued_alike : (m n : Action State (List ℕ)) → Alike m n → Alike (valued m) (valued n)
  valued_alike m n h = alike_first m n (λ words. pure (spot.Value words)) h

  -- ---- forms

  several_alike : (numbers : List ℕ) (t : TypeTree) (p : Spot) → Alike (components_of a numbers t p) (components_of b numbers t p)
  several_alike [] t p = alike_self _
  several_alike (c ∷ []) t p = alike_self _
  several_alike (c ∷ d ∷ rest) t p = alike_self _

  followed_alike : {C : Type 0} (p : C → Access) (x y : Access → Follows) → ((c : C) → FormGood (form_of room (p c)) (x (p c)) (y (p c))) → (fs : List C) (from goal : TypeTree) → all_follow (map (form_of room) (map p fs)) from goal ≡ true → (t : TypeTree) (at : Spot)
      → Alike (followed (map x (map p fs)) t at) (followed (map y (map p fs)) t at)
  followed_alike p x y all [] from goal h t at = alike_self (pure at)
  followed_alike p x y all (c ∷ fs) from goal h t at =
      alike_bind ((x (p c)).after t at) ((y (p c)).after t at) _ _ ((all c).after from (and_left ((form_of room (p c)).follows from) _ h) t at) (λ q.
      subst (λ of. Alike (followed (map x (map p fs)) (x (p c)).of q) (followed (map y (map p fs)) of q)) (all c).of (followed_alike p x y all fs (form_of room (p c)).of goal (and_right ((form_of room (p c)).follows from) _ h) (x (p c)).of q))

  -- ---- chains

  right_alike : (operator : BinaryOperator) (t : TypeTree) (h : Shown) (x y : Seen) (words : List ℕ) → ExprGood h x y → h.sound ≡ true → Alike (with_right a operator t x words) (with_right b operator t y words)
  right_alike operator t h x y words g e = alike_first (value_of structs x) (value_of structs y) (λ right. pure (combined_words operator t words right)) (values_alike h x y g e)

  operated_alike : (operator : BinaryOperator) (t : TypeTree) (h : Shown) (x y : Seen) (words : List ℕ) → ExprGood h x y → h.sound ≡ true → Alike (operated a operator t x words) (operated b operator t y words)
  operated_alike binary.And t h x y words g e = alike_when (slice_index words 0) (value_of structs x) (value_of structs y) (pure (truth false ∷ [])) (pure (truth false ∷ [])) (values_alike h x y g e) (alike_self (pure (truth false ∷ [])))
  operated_alike binary.Or t h x y words g e = alike_when (slice_index words 0) (pure (truth true ∷ [])) (pure (truth true ∷ [])) (value_of structs x) (value_of structs y) (alike_self (pure (truth true ∷ []))) (values_alike h x y g e)
  operated_alike binary.Multiply t h x y words g e = right_alike binary.Multiply t h x y words g e
  operated_alike binary.Divide t h x y words g e = right_alike binary.Divide t h x y words g e
  operated_alike binary.Remainder t h x y words g e = right_alike binary.Remainder t h x y words g e
  operated_alike binary.Add t h x y words g e = right_alike binary.Add t h x y words g e
  operated_alike binary.Subtract t h x y words g e = right_alike binary.Subtract t h x y words g e
  operated_alike binary.ShiftLeft t h x y words g e = right_alike binary.ShiftLeft t h x y words g e
  operated_alike binary.ShiftRight t h x y words g e = right_alike binary.ShiftRight t h x y words g e
  operated_alike binary.Less t h x y words g e = right_alike binary.Less t h x y words g e
  operated_alike binary.Greater t h x y words g e = right_alike binary.Greater t h x y words g e
  operated_alike binary.AtMost t h x y words g e = right_alike binary.AtMost t h x y words g e
  operated_alike binary.AtLeast t h x y words g e = right_alike binary.AtLeast t h x y words g e
  operated_alike binary.Equal t h x y words g e = right_alike binary.Equal t h x y words g e
  operated_alike binary.NotEqual t h x y words g e = right_alike binary.NotEqual t h x y words g e
  operated_alike binary.BitAnd t h x y words g e = right_alike binary.BitAnd t h x y words g e
  operated_alike binary.BitXor t h x y words g e = right_alike binary.BitXor t h x y words g e
  operated_alike binary.BitOr t h x y words g e = right_alike binary.BitOr t h x y words g e

  linked_alike : (operator : BinaryOperator) (before : Option TypeTree) (t : TypeTree) (h : Shown) (x y : Seen) (words : List ℕ) → ExprGood h x y → h.sound ≡ true → Alike (linked a operator before x t words) (linked b operator before y t words)
  linked_alike operator None t h x y words g e = operated_alike operator t h x y words g e
  linked_alike operator (Some by) t h x y words g e = operated_alike operator by h x y (converted t by words) g e

  chained_alike : {C : Type 0} (p : C → TypedLink) (x y : TypedLink → Linked) → ((c : C) → LinkGood (link_of room (p c)) (x (p c)) (y (p c))) → (ls : List C) (from u : TypeTree) → chain_end (map (link_of room) (map p ls)) from ≡ Some u → (t : TypeTree) (words : List ℕ)
      → Alike (chained (map x (map p ls)) t words) (chained (map y (map p ls)) t words)
  chained_alike p x y all [] from u h t words = alike_self (pure words)
  chained_alike p x y all (c ∷ ls) from u h t words =
      let k = then_some (link_of room (p c) from) (chain_end (map (link_of room) (map p ls))) u h in
      alike_bind ((x (p c)).next t words) ((y (p c)).next t words) _ _ ((all c).next from k.0 k.1 t words) (λ more.
      subst (λ of. Alike (chained (map x (map p ls)) (x (p c)).of more) (chained (map y (map p ls)) of more)) (all c).of (chained_alike p x y all ls k.0 u k.2 (x (p c)).of more))

  -- ---- calls

  passed_alike : (d : Direction) (n : ℕ) (h : Shown) (x y : Seen) → ExprGood h x y → h.sound ≡ true → Alike (passed_by structs d n x) (passed_by structs d n y)
  passed_alike direction.In n h x y g e = alike_first (value_of structs x) (value_of structs y) (λ words. pure (record { words = words; back = None })) (values_alike h x y g e)
  passed_alike direction.Out n h x y g e = alike_first x.spot y.spot (λ p. pure (record { words = zeros n; back = Some p })) (g.spots e)
  passed_alike direction.InOut n h x y g e = alike_bind x.spot y.spot _ _ (g.spots e) (λ p. record { same = λ s t. ap (λ of. Done (record { words = fetched structs of p s; back = Some p }) s t) g.of })

  all_passed_alike : {C : Type 0} (p : C → TypedExpr) (x y : TypedExpr → Seen) → ((c : C) → ExprGood (shown room (p c)) (x (p c)) (y (p c))) → (ps : List TypedParameter) (es : List C) → AllSound (map (shown room) (map p es))
      → Alike (all_passed structs ps (map x (map p es))) (all_passed structs ps (map y (map p es)))
  all_passed_alike p x y all [] es h = alike_self (pure [])
  all_passed_alike p x y all (q ∷ ps) [] h = alike_self (pure [])
  all_passed_alike p x y all (q ∷ ps) (c ∷ es) h =
      alike_bind (passed structs q (x (p c))) (passed structs q (y (p c))) _ _ (passed_alike (direction_of q.direction) (parameter_words structs q.of) (shown room (p c)) (x (p c)) (y (p c)) (all c) (and_left (shown room (p c)).sound _ h)) (λ first.
      alike_first (all_passed structs ps (map x (map p es))) (all_passed structs ps (map y (map p es))) (λ rest. pure (first ∷ rest)) (all_passed_alike p x y all ps es (and_right (shown room (p c)).sound _ h)))

  on_world_alike : {A : Type 0} (m n : Action World A) → Alike m n → Alike (on_world m) (on_world n)
  on_world_alike m n h = record { same = λ s t. ap (with_variables s.variables) (h.same s.world t) }

  pub called_alike : {C : Type 0} (p : C → TypedExpr) (x y : TypedExpr → Seen) → ((c : C) → ExprGood (shown room (p c)) (x (p c)) (y (p c))) → (number : ℕ) (es : List C) → CallsPlain room number (map (shown room) (map p es))
      → Alike (called structs (callee_at cs number) (map x (map p es))) (called structs (callee_at ds number) (map y (map p es)))
  called_alike p x y all number es h =
      let k = same number h.function h.before h.at h.plain in
      let c = callee_at cs number in
      let d = callee_at ds number in
      alike_bind (all_passed structs c.parameters (map x (map p es))) (all_passed structs d.parameters (map y (map p es))) _ _
      (subst (λ ps. Alike (all_passed structs c.parameters (map x (map p es))) (all_passed structs ps (map y (map p es)))) k.parameters (all_passed_alike p x y all c.parameters es h.sound)) (λ given.
      alike_bind (on_world (c.does (map (λ (q : Passed). q.words) given))) (on_world (d.does (map (λ (q : Passed). q.words) given))) _ _ (on_world_alike _ _ (k.does (map (λ (q : Passed). q.words) given))) (λ left. alike_self _))

  -- ---- one layer

  of_words : (m n : Action State (List ℕ)) (f : List ℕ → List ℕ) → Alike m n → Alike (m >>= (λ words. pure (spot.Value (f words)))) (n >>= (λ words. pure (spot.Value (f words))))
  of_words m n f h = alike_first m n (λ words. pure (spot.Value (f words))) h

  of_values : (m n : Action State (List (List ℕ))) (f : List (List ℕ) → List ℕ) → Alike m n → Alike (m >>= (λ values. pure (spot.Value (f values)))) (n >>= (λ values. pure (spot.Value (f values))))
  of_values m n f h = alike_first m n (λ values. pure (spot.Value (f values))) h

  element_alike : (number : ℕ) (t : TypeTree) (m n : Action State ℕ) → Alike m n → Alike (m >>= (λ at. read (buffer_element number (words_of structs t) at))) (n >>= (λ at. read (buffer_element number (words_of structs t) at)))
  element_alike number t m n h = alike_first m n (λ at. read (buffer_element number (words_of structs t) at)) h

  load_alike : (number : ℕ) (t : TypeTree) (m n : Action State ℕ) → Alike m n
      → Alike (m >>= (λ at. valued (read (λ s. words_from (list_at s.world.buffers number) (at / 4) (words_of structs t))))) (n >>= (λ at. valued (read (λ s. words_from (list_at s.world.buffers number) (at / 4) (words_of structs t)))))
  load_alike number t m n h = alike_first m n (λ at. valued (read (λ s. words_from (list_at s.world.buffers number) (at / 4) (words_of structs t)))) h

  input_alike : (m n : Action State ℕ) → Alike m n → Alike (m >>= (λ at. read (input_record at))) (n >>= (λ at. read (input_record at)))
  input_alike m n h = alike_first m n (λ at. read (input_record at)) h

  convert_alike : (h : Shown) (x y : Seen) (t : TypeTree) → ExprGood h x y → h.sound ≡ true
      → Alike (value_of structs x >>= (λ words. pure (spot.Value (converted x.of t words)))) (value_of structs y >>= (λ words. pure (spot.Value (converted y.of t words))))
  convert_alike h x y t g e = subst (λ of. Alike (value_of structs x >>= (λ words. pure (spot.Value (converted x.of t words)))) (value_of structs y >>= (λ words. pure (spot.Value (converted of t words))))) g.of (of_words (value_of structs x) (value_of structs y) (converted x.of t) (values_alike h x y g e))

  access_alike : {C : Type 0} (h : Shown) (x y : Seen) → ExprGood h x y → h.sound ≡ true → (p : C → Access) (f g : Access → Follows) → ((c : C) → FormGood (form_of room (p c)) (f (p c)) (g (p c))) → (fs : List C) (from goal : TypeTree) → all_follow (map (form_of room) (map p fs)) from goal ≡ true
      → Alike (x.spot >>= followed (map f (map p fs)) x.of) (y.spot >>= followed (map g (map p fs)) y.of)
  access_alike h x y k e p f g all fs from goal l = alike_bind x.spot y.spot (followed (map f (map p fs)) x.of) (followed (map g (map p fs)) y.of) (k.spots e) (λ at.
      subst (λ of. Alike (followed (map f (map p fs)) x.of at) (followed (map g (map p fs)) of at)) k.of (followed_alike p f g all fs from goal l x.of at))

  chain_alike : {C : Type 0} (h : Shown) (x y : Seen) → ExprGood h x y → h.sound ≡ true → (p : C → TypedLink) (f g : TypedLink → Linked) → ((c : C) → LinkGood (link_of room (p c)) (f (p c)) (g (p c))) → (ls : List C) (from u : TypeTree) → chain_end (map (link_of room) (map p ls)) from ≡ Some u
      → Alike (value_of structs x >>= (λ words. valued (chained (map f (map p ls)) x.of words))) (value_of structs y >>= (λ words. valued (chained (map g (map p ls)) y.of words)))
  chain_alike h x y k e p f g all ls from u l = alike_bind (value_of structs x) (value_of structs y) _ _ (values_alike h x y k e) (λ words.
      subst (λ of. Alike (valued (chained (map f (map p ls)) x.of words)) (valued (chained (map g (map p ls)) of words))) k.of (valued_alike (chained (map f (map p ls)) x.of words) (chained (map g (map p ls)) x.of words) (chained_alike p f g all ls from u l x.of words)))

  choice_alike : (h i j : Shown) (x y k l m n : Seen) → ExprGood h x y → ExprGood i k l → ExprGood j m n → h.sound ≡ true → i.sound ≡ true → j.sound ≡ true
      → Alike (word_of a x >>= (λ c. valued (when c (value_of structs k) (value_of structs m)))) (word_of b y >>= (λ c. valued (when c (value_of structs l) (value_of structs n))))
  choice_alike h i j x y k l m n f g q e1 e2 e3 = alike_bind (word_of a x) (word_of b y) _ _ (words_alike h x y f e1) (λ c.
      valued_alike (when c (value_of structs k) (value_of structs m)) (when c (value_of structs l) (value_of structs n))
      (alike_when c (value_of structs k) (value_of structs l) (value_of structs m) (value_of structs n) (values_alike i k l g e2) (values_alike j m n q e3)))

  index_alike : (h : Shown) (of : TypeTree) (x y : Seen) → ExprGood h x y → h.sound ≡ true → (t : TypeTree) (p : Spot) → Alike (indexed a x of t p) (indexed b y of t p)
  index_alike h of x y g e t p = alike_first (word_of a x) (word_of b y) (λ at. pure (element_at (array_size t) (words_of structs of) at p)) (words_alike h x y g e)

  -- ---- whole trees

  abbrev RightExpr : TypedExpr → Type 0
  RightExpr e = ExprGood (shown room e) (seen a cs e) (seen b ds e)

  abbrev RightKind : TypedKind → Type 0
  RightKind k = KindGood (kind_held room k) (kind_does a cs k) (kind_does b ds k)

  abbrev RightForm : Access → Type 0
  RightForm f = FormGood (form_of room f) (follows a cs f) (follows b ds f)

  abbrev RightLink : TypedLink → Type 0
  RightLink l = LinkGood (link_of room l) (links a cs l) (links b ds l)

  module _ {BA BK BE BL : Type 0} (pa : BA → Access) (pk : BK → TypedKind) (pe : BE → TypedExpr) (pl : BL → TypedLink) (ha : (c : BA) → RightForm (pa c)) (hk : (c : BK) → RightKind (pk c)) (he : (c : BE) → RightExpr (pe c)) (hl : (c : BL) → RightLink (pl c)) where
    abbrev KindLevel : TypedKind-F BA BK BE BL → Type 0
    KindLevel y =
        let z = map-TypedKind BA BK BE BL Access TypedKind TypedExpr TypedLink pa pk pe pl y in
        KindGood
        (sound_kind room (map-TypedKind Access TypedKind TypedExpr TypedLink Form (TypeTree → Held) Shown (TypeTree → Option TypeTree) (form_of room) (kind_held room) (shown room) (link_of room) z))
        (kind_step a cs (map-TypedKind Access TypedKind TypedExpr TypedLink Follows (TypeTree → Action State Spot) Seen Linked (follows a cs) (kind_does a cs) (seen a cs) (links a cs) z))
        (kind_step b ds (map-TypedKind Access TypedKind TypedExpr TypedLink Follows (TypeTree → Action State Spot) Seen Linked (follows b ds) (kind_does b ds) (seen b ds) (links b ds) z))

    kind_level : (y : TypedKind-F BA BK BE BL) → KindLevel y
    kind_level (TypedKind-F.Literal words) t e = alike_self _
    kind_level (TypedKind-F.Variable variable) t e = alike_self _
    kind_level (TypedKind-F.Shared variable) t e = alike_self _
    kind_level (TypedKind-F.Element number index) t e = element_alike number t (word_of a (seen a cs (pe index))) (word_of b (seen b ds (pe index))) (words_alike _ _ _ (he index) (and_left _ _ (and_right _ _ e)))
    kind_level (TypedKind-F.Load number address) t e = load_alike number t (word_of a (seen a cs (pe address))) (word_of b (seen b ds (pe address))) (words_alike _ _ _ (he address) (and_left _ _ (and_left _ _ (and_right _ _ e))))
    kind_level (TypedKind-F.Input None) t e = alike_self _
    kind_level (TypedKind-F.Input (Some index)) t e = input_alike (word_of a (seen a cs (pe index))) (word_of b (seen b ds (pe index))) (words_alike _ _ _ (he index) (and_left _ _ (and_right _ _ e)))
    kind_level TypedKind-F.Count t e = alike_self _
    kind_level TypedKind-F.Finished t e = absurd (cc)
    kind_level (TypedKind-F.Handle handle index) t e = absurd (names_no_record room plain t handle (and_left _ _ e))
    kind_level (TypedKind-F.IsValid output index) t e = absurd (names_no_output room plain _ output (and_left _ _ (and_left _ _ e)))
    kind_level TypedKind-F.Levels t e = absurd (never_both (is_node room.function) plain.node (and_left (is_node room.function) _ e))
    kind_level TypedKind-F.Zeros t e = alike_self _
    kind_level (TypedKind-F.Access base forms) t e =
        access_alike _ _ _ (he base) (and_left (shown room (pe base)).sound _ e) pa (follows a cs) (follows b ds) ha forms (shown room (pe base)).of t (and_right (shown room (pe base)).sound _ e)
    kind_level (TypedKind-F.Prefix operator operand) t e =
        of_words (value_of structs (seen a cs (pe operand))) (value_of structs (seen b ds (pe operand))) (prefixed_words operator t) (values_alike _ _ _ (he operand) (and_left (shown room (pe operand)).sound _ (and_left _ _ e)))
    kind_level (TypedKind-F.Convert operand) t e = convert_alike _ _ _ t (he operand) (and_left (shown room (pe operand)).sound _ e)
    kind_level (TypedKind-F.Chain first rest) t e =
        let x = test_so (λ x. same_type x t) (chain_end (map (link_of room) (map pl rest)) (shown room (pe first)).of) (and_right (shown room (pe first)).sound _ e) in
        chain_alike _ _ _ (he first) (and_left (shown room (pe first)).sound _ e) pl (links a cs) (links b ds) hl rest (shown room (pe first)).of x.0 x.1
    kind_level (TypedKind-F.Choice c x y) t e =
        let k = and_right _ _ (and_right _ _ e) in
        choice_alike _ _ _ _ _ _ _ _ _ (he c) (he x) (he y) (and_left (shown room (pe c)).sound _ (and_left _ _ e)) (and_left (shown room (pe x)).sound _ (and_left _ _ k)) (and_left (shown room (pe y)).sound _ (and_right _ _ k))
    kind_level (TypedKind-F.Construct parts) t e =
        of_values (each (map (value_of structs) (map (seen a cs) (map pe parts)))) (each (map (value_of structs) (map (seen b ds) (map pe parts)))) put (each_alike pe (seen a cs) (seen b ds) he parts (constructed_sound t (map (shown room) (map pe parts)) e))
    kind_level (TypedKind-F.Call function arguments) t e =
        valued_alike _ _ (called_alike pe (seen a cs) (seen b ds) he function arguments (calls_plain room function (Some t) (map (shown room) (map pe arguments)) e))
    kind_level (TypedKind-F.Intrinsic call arguments) t e =
        of_values (each (map (value_of structs) (map (seen a cs) (map pe arguments)))) (each (map (value_of structs) (map (seen b ds) (map pe arguments)))) (called_words call t) (each_alike pe (seen a cs) (seen b ds) he arguments (reckoned_sound (reckons call) t (map (shown room) (map pe arguments)) (and_right _ _ e)))

    access_level : (y : Access-F BA BK BE BL) → FormGood
        (sound_access room (map-Access Access TypedKind TypedExpr TypedLink Form (TypeTree → Held) Shown (TypeTree → Option TypeTree) (form_of room) (kind_held room) (shown room) (link_of room) (map-Access BA BK BE BL Access TypedKind TypedExpr TypedLink pa pk pe pl y)))
        (access_step a (map-Access Access TypedKind TypedExpr TypedLink Follows (TypeTree → Action State Spot) Seen Linked (follows a cs) (kind_does a cs) (seen a cs) (links a cs) (map-Access BA BK BE BL Access TypedKind TypedExpr TypedLink pa pk pe pl y)))
        (access_step b (map-Access Access TypedKind TypedExpr TypedLink Follows (TypeTree → Action State Spot) Seen Linked (follows b ds) (kind_does b ds) (seen b ds) (links b ds) (map-Access BA BK BE BL Access TypedKind TypedExpr TypedLink pa pk pe pl y)))
    access_level (Access-F.Field field of) = record { of = refl; after = λ from e t p. alike_self _ }
    access_level (Access-F.Components numbers of) = record { of = refl; after = λ from e t p. several_alike numbers t p }
    access_level (Access-F.Index index of) = record { of = refl; after = λ from e t p. index_alike _ of _ _ (he index) (and_left (shown room (pe index)).sound _ (and_right (is_element of from) _ e)) t p }

    expr_level : (y : TypedExpr-F BA BK BE BL) → ExprGood
        (sound_expr (map-TypedExpr Access TypedKind TypedExpr TypedLink Form (TypeTree → Held) Shown (TypeTree → Option TypeTree) (form_of room) (kind_held room) (shown room) (link_of room) (map-TypedExpr BA BK BE BL Access TypedKind TypedExpr TypedLink pa pk pe pl y)))
        (expr_step (map-TypedExpr Access TypedKind TypedExpr TypedLink Follows (TypeTree → Action State Spot) Seen Linked (follows a cs) (kind_does a cs) (seen a cs) (links a cs) (map-TypedExpr BA BK BE BL Access TypedKind TypedExpr TypedLink pa pk pe pl y)))
        (expr_step (map-TypedExpr Access TypedKind TypedExpr TypedLink Follows (TypeTree → Action State Spot) Seen Linked (follows b ds) (kind_does b ds) (seen b ds) (links b ds) (map-TypedExpr BA BK BE BL Access TypedKind TypedExpr TypedLink pa pk pe pl y)))
    expr_level y = record { of = refl; spots = λ e. hk y.kind y.of e }

    link_level : (y : TypedLink-F BA BK BE BL) → LinkGood
        (sound_link (map-TypedLink Access TypedKind TypedExpr TypedLink Form (TypeTree → Held) Shown (TypeTree → Option TypeTree) (form_of room) (kind_held room) (shown room) (link_of room) (map-TypedLink BA BK BE BL Access TypedKind TypedExpr TypedLink pa pk pe pl y)))
        (link_step a (map-TypedLink Access TypedKind TypedExpr TypedLink Follows (TypeTree → Action State Spot) Seen Linked (follows a cs) (kind_does a cs) (seen a cs) (links a cs) (map-TypedLink BA BK BE BL Access TypedKind TypedExpr TypedLink pa pk pe pl y)))
        (link_step b (map-TypedLink Access TypedKind TypedExpr TypedLink Follows (TypeTree → Action State Spot) Seen Linked (follows b ds) (kind_does b ds) (seen b ds) (links b ds) (map-TypedLink BA BK BE BL Access TypedKind TypedExpr TypedLink pa pk pe pl y)))
    link_level y = record {
      of = refl;
      next = λ from u e t words.
          let x = then_some (before_type y.before from) _ u e in
          linked_alike y.operator y.before t _ _ _ words (he y.operand) (and_left (shown room (pe y.operand)).sound _ (where_so ((shown room (pe y.operand)).sound && operates y.operator x.0 (shown room (pe y.operand)).of y.of) y.of u x.2).0);
    }

  pub right : (e : TypedExpr) → RightExpr e
  right e = ind-TypedExpr RightForm RightKind RightExpr RightLink
      (λ x y eq. subst (λ l. RightForm (roll-Access l)) eq (rw (fold-roll-Access Form (TypeTree → Held) Shown (TypeTree → Option TypeTree) (sound_access room) (sound_kind room) sound_expr sound_link _, fold-roll-Access Follows (TypeTree → Action State Spot) Seen Linked (access_step a) (kind_step a cs) expr_step (link_step a) _, fold-roll-Access Follows (TypeTree → Action State Spot) Seen Linked (access_step b) (kind_step b ds) expr_step (link_step b) _) (access_level (λ c. c.0) (λ c. c.0) (λ c. c.0) (λ c. c.0) (λ c. c.1) (λ c. c.1) (λ c. c.1) (λ c. c.1) y)))
      (λ x y eq. subst (λ l. RightKind (roll-TypedKind l)) eq (rw (fold-roll-TypedKind Form (TypeTree → Held) Shown (TypeTree → Option TypeTree) (sound_access room) (sound_kind room) sound_expr sound_link _, fold-roll-TypedKind Follows (TypeTree → Action State Spot) Seen Linked (access_step a) (kind_step a cs) expr_step (link_step a) _, fold-roll-TypedKind Follows (TypeTree → Action State Spot) Seen Linked (access_step b) (kind_step b ds) expr_step (link_step b) _) (kind_level (λ c. c.0) (λ c. c.0) (λ c. c.0) (λ c. c.0) (λ c. c.1) (λ c. c.1) (λ c. c.1) (λ c. c.1) y)))
      (λ x y eq. subst (λ l. RightExpr (roll-TypedExpr l)) eq (rw (fold-roll-TypedExpr Form (TypeTree → Held) Shown (TypeTree → Option TypeTree) (sound_access room) (sound_kind room) sound_expr sound_link _, fold-roll-TypedExpr Follows (TypeTree → Action State Spot) Seen Linked (access_step a) (kind_step a cs) expr_step (link_step a) _, fold-roll-TypedExpr Follows (TypeTree → Action State Spot) Seen Linked (access_step b) (kind_step b ds) expr_step (link_step b) _) (expr_level (λ c. c.0) (λ c. c.0) (λ c. c.0) (λ c. c.0) (λ c. c.1) (λ c. c.1) (λ c. c.1) (λ c. c.1) y)))
      (λ x y eq. subst (λ l. RightLink (roll-TypedLink l)) eq (rw (fold-roll-TypedLink Form (TypeTree → Held) Shown (TypeTree → Option TypeTree) (sound_access room) (sound_kind room) sound_expr sound_link _, fold-roll-TypedLink Follows (TypeTree → Action State Spot) Seen Linked (access_step a) (kind_step a cs) expr_step (link_step a) _, fold-roll-TypedLink Follows (TypeTree → Action State Spot) Seen Linked (access_step b) (kind_step b ds) expr_step (link_step b) _) (link_level (λ c. c.0) (λ c. c.0) (λ c. c.0) (λ c. c.0) (λ c. c.1) (λ c. c.1) (λ c. c.1) (λ c. c.1) y)))
      e
