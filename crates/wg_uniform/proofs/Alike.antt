-- A uniform expression has one value on two lanes that are alike.
use Rattle.std.proofs.Common.{◌≡◌, ℕ, ◌+◌, Bool, true, false, List, [], ◌∷◌, map, length, Option, Some, None, refl, sym, ap, ◌∙◌, subst}
use Rattle.std.proofs.lemmas.Bool.{false≢true, and_parts}
use Rattle.std.specs.Prelude.{◌&&◌, ◌||◌, nat_lt, if◌then◌else◌, slice_get, slice_index, is_some}
use Rattle.wg_words.specs.Truth.{is_true, truth}
use Rattle.wg_tree.specs.declared.expr.BinaryOperator.{BinaryOperator}
use Rattle.wg_tree.specs.declared.expr.BinaryOperator.TheVariants as binary
use Rattle.wg_state.specs.Turns.{Action, Done, and_then, ◌>>=◌, pure, read, each}
use Rattle.wg_state.specs.WordLists.{zeros, list_at}
use Rattle.wg_state.specs.Requests.{target_of}
use Rattle.wg_semantics.specs.declared.state.State.{State}
use Rattle.wg_semantics.specs.declared.state.Store.TheVariants as store
use Rattle.wg_semantics.specs.declared.state.Spot.{Spot}
use Rattle.wg_semantics.specs.declared.state.Spot.TheVariants as spot
use Rattle.wg_semantics.specs.Places.{Setting, fetched, as_read, stored, words_from, part_at, input_record}
use Rattle.wg_semantics.specs.Calls.{Seen, Callee, value_of}
use Rattle.wg_semantics.specs.ExprMeaning.{Follows, Linked, word_of, when, components_of, followed, with_right, operated, linked, chained, access_step, kind_step, expr_step, link_step, valued, seen, kind_does, follows, links}
use Rattle.wg_typed.specs.declared.types.TypeTree.{TypeTree}
use Rattle.wg_typed.specs.declared.typed_expr.Access.{Access}
use Rattle.wg_typed.specs.declared.typed_expr.TypedExpr.{TypedExpr}
use Rattle.wg_typed.specs.declared.typed_expr.TypedKind.{TypedKind}
use Rattle.wg_typed.specs.declared.typed_expr.TypedLink.{TypedLink}
use Rattle.wg_typed.specs.declared.typed_expr.Access.TheViews.{roll-Access, roll-TypedKind, roll-TypedExpr, roll-TypedLink}
use Rattle.wg_typed.specs.declared.typed_expr.Access.TheFolds.{fold-TypedKind, fold-roll-Access, fold-roll-TypedKind, fold-roll-TypedExpr, fold-roll-TypedLink, map-Access, map-TypedKind, map-TypedExpr, map-TypedLink, ind-TypedExpr}
use Rattle.wg_typed.specs.declared.typed_expr.Access.TheOpen.{TypedExpr-F, TypedKind-F, Access-F, TypedLink-F}
use Rattle.wg_typed.specs.Layout.{Range, words_of, field_range, put}
use Rattle.wg_typed.specs.Operators.{converted, combined_words, prefixed_words}
use Rattle.wg_typed.specs.Intrinsics.{called_words}
use Rattle.wg_typed.specs.Uniform.{UniformSetting, Spread, Taken, a_field, components, an_element, evenly, taken, all_taken, all_uniform, is_marked, access_taken, kind_spread, expr_spread, link_spread, spread_of, form_taken, operand_spread, is_uniform}
use Rattle.wg_uniform.specs.OneValue.{on_lane, words_on, AreAlike, HasOneValue}

-- whether the whole or its fields are uniform
abbrev known : Spread → Bool
known w = w.whole || w.field

even_whole : (b : Bool) → known (evenly b) ≡ true → b ≡ true
even_whole true e = refl
even_whole false e = absurd (false≢true e)

whole_known : (w : Spread) → w.whole ≡ true → known w ≡ true
whole_known w e = ap (λ b. b || w.field) e

even_known : (w : Spread) → known (evenly w.whole) ≡ true → known w ≡ true
even_known w e = whole_known w (even_whole w.whole e)

taken_known : (w : Spread) (f : Taken) → taken w f ≡ true → (known w ≡ true) × (taken (evenly true) f ≡ true)
taken_known w a_field e = (field_known w.whole w.field e, refl)
  where
    field_known : (a b : Bool) → b ≡ true → (a || b) ≡ true
    field_known true b e = refl
    field_known false b e = e
taken_known w components e = (whole_known w e, refl)
taken_known w an_element e = absurd (false≢true e)

forms_known : (w : Spread) (fs : List Taken) → known (all_taken w fs) ≡ true → known w ≡ true
forms_known w [] e = e
forms_known w (f ∷ rest) e = (taken_known w f (even_whole (taken w f) (forms_known (evenly (taken w f)) rest e))).0

module _ (u : UniformSetting) (setting : Setting) (lane other : ℕ) (callees others : List Callee) (s r : State) (alike : AreAlike u s r) where
  abbrev a : Setting
  a = on_lane setting lane

  abbrev b : Setting
  b = on_lane setting other

  -- both lanes come to one answer of this sort, and nothing changes
  record Both {A : Type 0} (Is : A → Type 0) (m n : Action State A) : Type 0 where
    answer : A
    is : Is answer
    here : (t : ℕ) → m s t ≡ Done answer s t
    there : (t : ℕ) → n r t ≡ Done answer r t

  abbrev Any : {A : Type 0} → A → Type 0
  Any x = Unit {0}

  -- a place where both lanes read the same
  abbrev Shared : Spot → Type 0
  Shared (spot.Value words) = Unit {0}
  Shared (spot.At at from) = stored at s ≡ stored at r
  Shared spot.Nowhere = Unit {0}

  fetched_same : (p : Spot) (of : TypeTree) → Shared p → fetched setting.structs of p s ≡ fetched setting.structs of p r
  fetched_same (spot.Value words) of h = refl
  fetched_same (spot.At at from) of h = ap (λ words. as_read at setting.structs of (words_from words from (words_of setting.structs of))) h
  fetched_same spot.Nowhere of h = refl

  both_then : {A B : Type 0} {Is : A → Type 0} {Of : B → Type 0} (m n : Action State A) (k l : A → Action State B) → Both Is m n → ((x : A) → Is x → Both Of (k x) (l x)) → Both Of (m >>= k) (n >>= l)
  both_then m n k l g f =
      let h = f g.answer g.is in
      record {
        answer = h.answer;
        is = h.is;
        here = λ t. ap (λ e. and_then e k) (g.here t) ∙ h.here t;
        there = λ t. ap (λ e. and_then e l) (g.there t) ∙ h.there t;
      }

  both_pure : {A : Type 0} {Is : A → Type 0} (x : A) → Is x → Both Is (pure x) (pure x)
  both_pure x i = record { answer = x; is = i; here = λ t. refl; there = λ t. refl }

  both_read : {A : Type 0} {Is : A → Type 0} (f g : State → A) → Is (f s) → f s ≡ g r → Both Is (read f) (read g)
  both_read f g i e = record { answer = f s; is = i; here = λ t. refl; there = λ t. ap (λ x. Done x r t) (sym e) }

  both_if : {A : Type 0} {Is : A → Type 0} (c : Bool) (m n k l : Action State A) → Both Is m n → Both Is k l → Both Is (if c then m else k) (if c then n else l)
  both_if true m n k l g h = g
  both_if false m n k l g h = h

  both_when : {A : Type 0} {Is : A → Type 0} (w : ℕ) (m n k l : Action State A) → Both Is m n → Both Is k l → Both Is (when w m k) (when w n l)
  both_when w m n k l g h = both_if (is_true w) m n k l g h

  both_value : (words : List ℕ) → Both Shared (pure (spot.Value words)) (pure (spot.Value words))
  both_value words = both_pure (spot.Value words) tt

  record ExprGood (w : Spread) (x y : Seen) : Type 0 where
    of : x.of ≡ y.of
    both : known w ≡ true → Both Shared x.spot y.spot

  abbrev KindGood : Spread → (TypeTree → Action State Spot) → (TypeTree → Action State Spot) → Type 0
  KindGood w x y = (t : TypeTree) → known w ≡ true → Both Shared (x t) (y t)

  record FormGood (w : Taken) (x y : Follows) : Type 0 where
    of : x.of ≡ y.of
    both : taken (evenly true) w ≡ true → (t : TypeTree) (p : Spot) → Shared p → Both Shared (x.after t p) (y.after t p)

  record LinkGood (w : Spread) (x y : Linked) : Type 0 where
    of : x.of ≡ y.of
    both : known w ≡ true → (t : TypeTree) (words : List ℕ) → Both Any (x.next t words) (y.next t words)

  -- ---- values

  both_words : (w : Spread) (x y : Seen) → ExprGood w x y → known w ≡ true → Both Any (value_of setting.structs x) (value_of setting.structs y)
  both_words w x y g e = both_then x.spot y.spot _ _ (g.both e) (λ p shared. both_read (fetched setting.structs x.of p) (fetched setting.structs y.of p) tt (fetched_same p x.of shared ∙ ap (λ t. fetched setting.structs t p r) g.of))

  both_word : (w : Spread) (x y : Seen) → ExprGood w x y → known w ≡ true → Both Any (word_of a x) (word_of b y)
  both_word w x y g e = both_then (value_of setting.structs x) (value_of setting.structs y) _ _ (both_words w x y g e) (λ words i. both_pure (slice_index words 0) tt)

  both_each : {C : Type 0} (p : C → TypedExpr) (w : TypedExpr → Spread) (x y : TypedExpr → Seen) → ((c : C) → ExprGood (w (p c)) (x (p c)) (y (p c))) → (cs : List C) → all_uniform (map w (map p cs)) ≡ true
      → Both Any (each (map (value_of setting.structs) (map x (map p cs)))) (each (map (value_of setting.structs) (map y (map p cs))))
  both_each p w x y all [] e = both_pure [] tt
  both_each p w x y all (c ∷ cs) e =
      let h = and_parts (w (p c)).whole (all_uniform (map w (map p cs))) e in
      both_then (value_of setting.structs (x (p c))) (value_of setting.structs (y (p c))) _ _ (both_words (w (p c)) (x (p c)) (y (p c)) (all c) (whole_known (w (p c)) h.0)) (λ words i.
      both_then (each (map (value_of setting.structs) (map x (map p cs)))) (each (map (value_of setting.structs) (map y (map p cs)))) _ _ (both_each p w x y all cs h.1) (λ rest j. both_pure (words ∷ rest) tt))

  both_valued : (m n : Action State (List ℕ)) → Both Any m n → Both Shared (valued m) (valued n)
  both_valued m n g = both_then m n _ _ g (λ words i. both_value words)

  -- ---- forms

  shared_part : (range : Range) (p : Spot) → Shared p → Shared (part_at range p)
  shared_part range (spot.Value words) h = tt
  shared_part range (spot.At at from) h = h
  shared_part range spot.Nowhere h = tt

  field_good : (field : ℕ) (of : TypeTree) → FormGood a_field (access_step a (Access-F.Field field of)) (access_step b (Access-F.Field field of))
  field_good field of = record { of = refl; both = λ e t p h. both_pure (part_at (field_range setting.structs t field) p) (shared_part (field_range setting.structs t field) p h) }

  several_good : (cs : List ℕ) (t : TypeTree) (p : Spot) → Shared p → Both Shared (read (fetched setting.structs t p) >>= (λ words. pure (spot.Value (map (slice_index words) cs)))) (read (fetched setting.structs t p) >>= (λ words. pure (spot.Value (map (slice_index words) cs))))
  several_good cs t p h = both_then {Is = Any} (read (fetched setting.structs t p)) (read (fetched setting.structs t p)) _ _ (both_read (fetched setting.structs t p) (fetched setting.structs t p) tt (fetched_same p t h)) (λ words i. both_value (map (slice_index words) cs))

  components_both : (cs : List ℕ) (t : TypeTree) (p : Spot) → Shared p → Both Shared (components_of a cs t p) (components_of b cs t p)
  components_both [] t p h = several_good [] t p h
  components_both (c ∷ []) t p h = both_pure (part_at (record { from = c; to = c + 1 }) p) (shared_part (record { from = c; to = c + 1 }) p h)
  components_both (c ∷ d ∷ rest) t p h = several_good (c ∷ d ∷ rest) t p h

  components_good : (cs : List ℕ) (of : TypeTree) → FormGood components (access_step a (Access-F.Components cs of)) (access_step b (Access-F.Components cs of))
  components_good cs of = record { of = refl; both = λ e t p h. components_both cs t p h }

  both_followed : {C : Type 0} (p : C → Access) (w : Access → Taken) (x y : Access → Follows) → ((c : C) → FormGood (w (p c)) (x (p c)) (y (p c))) → (cs : List C) (z : Spread) (t : TypeTree) (at : Spot) → known (all_taken z (map w (map p cs))) ≡ true → Shared at
      → Both Shared (followed (map x (map p cs)) t at) (followed (map y (map p cs)) t at)
  both_followed p w x y all [] z t at e h = both_pure at h
  both_followed p w x y all (c ∷ cs) z t at e h =
      let k = taken_known z (w (p c)) (even_whole (taken z (w (p c))) (forms_known (evenly (taken z (w (p c)))) (map w (map p cs)) e)) in
      both_then ((x (p c)).after t at) ((y (p c)).after t at) _ _ ((all c).both k.1 t at h) (λ q i.
      subst (λ of. Both Shared (followed (map x (map p cs)) (x (p c)).of q) (followed (map y (map p cs)) of q)) (all c).of (both_followed p w x y all cs (evenly (taken z (w (p c)))) (x (p c)).of q e i))

  -- ---- chains

  right_good : (operator : BinaryOperator) (t : TypeTree) (w : Spread) (x y : Seen) (words : List ℕ) → ExprGood w x y → known w ≡ true → Both Any (with_right a operator t x words) (with_right b operator t y words)
  right_good operator t w x y words g e = both_then (value_of setting.structs x) (value_of setting.structs y) _ _ (both_words w x y g e) (λ right i. both_pure (combined_words operator t words right) tt)

  operated_good : (operator : BinaryOperator) (t : TypeTree) (w : Spread) (x y : Seen) (words : List ℕ) → ExprGood w x y → known w ≡ true → Both Any (operated a operator t x words) (operated b operator t y words)
  operated_good binary.And t w x y words g e = both_when (slice_index words 0) (value_of setting.structs x) (value_of setting.structs y) (pure (truth false ∷ [])) (pure (truth false ∷ [])) (both_words w x y g e) (both_pure (truth false ∷ []) tt)
  operated_good binary.Or t w x y words g e = both_when (slice_index words 0) (pure (truth true ∷ [])) (pure (truth true ∷ [])) (value_of setting.structs x) (value_of setting.structs y) (both_pure (truth true ∷ []) tt) (both_words w x y g e)
  operated_good binary.Multiply t w x y words g e = right_good binary.Multiply t w x y words g e
  operated_good binary.Divide t w x y words g e = right_good binary.Divide t w x y words g e
  operated_good binary.Remainder t w x y words g e = right_good binary.Remainder t w x y words g e
  operated_good binary.Add t w x y words g e = right_good binary.Add t w x y words g e
  operated_good binary.Subtract t w x y words g e = right_good binary.Subtract t w x y words g e
  operated_good binary.ShiftLeft t w x y words g e = right_good binary.ShiftLeft t w x y words g e
  operated_good binary.ShiftRight t w x y words g e = right_good binary.ShiftRight t w x y words g e
  operated_good binary.Less t w x y words g e = right_good binary.Less t w x y words g e
  operated_good binary.Greater t w x y words g e = right_good binary.Greater t w x y words g e
  operated_good binary.AtMost t w x y words g e = right_good binary.AtMost t w x y words g e
  operated_good binary.AtLeast t w x y words g e = right_good binary.AtLeast t w x y words g e
  operated_good binary.Equal t w x y words g e = right_good binary.Equal t w x y words g e
  operated_good binary.NotEqual t w x y words g e = right_good binary.NotEqual t w x y words g e
  operated_good binary.BitAnd t w x y words g e = right_good binary.BitAnd t w x y words g e
  operated_good binary.BitXor t w x y words g e = right_good binary.BitXor t w x y words g e
  operated_good binary.BitOr t w x y words g e = right_good binary.BitOr t w x y words g e

  linked_good : (operator : BinaryOperator) (before : Option TypeTree) (t : TypeTree) (w : Spread) (x y : Seen) (words : List ℕ) → ExprGood w x y → known w ≡ true → Both Any (linked a operator before x t words) (linked b operator before y t words)
  linked_good operator None t w x y words g e = operated_good operator t w x y words g e
  linked_good operator (Some by) t w x y words g e = operated_good operator by w x y (converted t by words) g e

  both_chained : {C : Type 0} (p : C → TypedLink) (w : TypedLink → Spread) (x y : TypedLink → Linked) → ((c : C) → LinkGood (w (p c)) (x (p c)) (y (p c))) → (cs : List C) (t : TypeTree) (words : List ℕ) → all_uniform (map w (map p cs)) ≡ true
      → Both Any (chained (map x (map p cs)) t words) (chained (map y (map p cs)) t words)
  both_chained p w x y all [] t words e = both_pure words tt
  both_chained p w x y all (c ∷ cs) t words e =
      let h = and_parts (w (p c)).whole (all_uniform (map w (map p cs))) e in
      both_then ((x (p c)).next t words) ((y (p c)).next t words) _ _ ((all c).both (whole_known (w (p c)) h.0) t words) (λ more i.
      subst (λ of. Both Any (chained (map x (map p cs)) (x (p c)).of more) (chained (map y (map p cs)) of more)) (all c).of (both_chained p w x y all cs (x (p c)).of more h.1))

  -- ---- one layer of the tree

  never : {A : Type 0} → false ≡ true → A
  never e = absurd (false≢true e)

  shared_input : (at : ℕ) → s.world.inputs ≡ r.world.inputs → Shared (input_record at s)
  shared_input at e = either (nat_lt at (length s.world.inputs))
    where
      either : (c : Bool) → Shared (if c then spot.At (store.Input at) 0 else spot.Nowhere)
      either true = ap (λ inputs. list_at inputs at) e
      either false = tt

  input_good : (m n : Action State ℕ) → s.world.inputs ≡ r.world.inputs → Both Any m n → Both Shared (m >>= (λ at. read (input_record at))) (n >>= (λ at. read (input_record at)))
  input_good m n e g = both_then m n _ _ g (λ at i. both_read (input_record at) (input_record at) (shared_input at e) (ap (λ inputs. if nat_lt at (length inputs) then spot.At (store.Input at) 0 else spot.Nowhere) e))

  valid_good : (m n : Action State ℕ) (output : ℕ) → Both Any m n → Both Shared (m >>= (λ at. pure (spot.Value (truth (is_some (target_of setting.outputs output at)) ∷ [])))) (n >>= (λ at. pure (spot.Value (truth (is_some (target_of setting.outputs output at)) ∷ []))))
  valid_good m n output g = both_then m n _ _ g (λ at i. both_value (truth (is_some (target_of setting.outputs output at)) ∷ []))

  count_good : Both Shared (valued (read (λ z. length z.world.inputs ∷ []))) (valued (read (λ z. length z.world.inputs ∷ [])))
  count_good = both_valued (read (λ z. length z.world.inputs ∷ [])) (read (λ z. length z.world.inputs ∷ [])) (both_read (λ z. length z.world.inputs ∷ []) (λ z. length z.world.inputs ∷ []) tt (ap (λ n. n ∷ []) alike.count))

  of_words : (m n : Action State (List ℕ)) (f : List ℕ → List ℕ) → Both Any m n → Both Shared (m >>= (λ words. pure (spot.Value (f words)))) (n >>= (λ words. pure (spot.Value (f words))))
  of_words m n f g = both_then m n _ _ g (λ words i. both_value (f words))

  of_values : (m n : Action State (List (List ℕ))) (f : List (List ℕ) → List ℕ) → Both Any m n → Both Shared (m >>= (λ values. pure (spot.Value (f values)))) (n >>= (λ values. pure (spot.Value (f values))))
  of_values m n f g = both_then m n _ _ g (λ values i. both_value (f values))

  convert_good : (w : Spread) (x y : Seen) (t : TypeTree) → ExprGood w x y → known w ≡ true
      → Both Shared (value_of setting.structs x >>= (λ words. pure (spot.Value (converted x.of t words)))) (value_of setting.structs y >>= (λ words. pure (spot.Value (converted y.of t words))))
  convert_good w x y t g e = subst (λ of. Both Shared (value_of setting.structs x >>= (λ words. pure (spot.Value (converted x.of t words)))) (value_of setting.structs y >>= (λ words. pure (spot.Value (converted of t words))))) g.of (of_words (value_of setting.structs x) (value_of setting.structs y) (converted x.of t) (both_words w x y g e))

  access_good : {C : Type 0} (v : Spread) (x y : Seen) → ExprGood v x y → (p : C → Access) (w : Access → Taken) (f g : Access → Follows) → ((c : C) → FormGood (w (p c)) (f (p c)) (g (p c))) → (cs : List C) → known (all_taken v (map w (map p cs))) ≡ true
      → Both Shared (x.spot >>= followed (map f (map p cs)) x.of) (y.spot >>= followed (map g (map p cs)) y.of)
  access_good v x y h p w f g all cs e = both_then x.spot y.spot _ _ (h.both (forms_known v (map w (map p cs)) e)) (λ at i.
      subst (λ of. Both Shared (followed (map f (map p cs)) x.of at) (followed (map g (map p cs)) of at)) h.of (both_followed p w f g all cs v x.of at e i))

  chain_good : {C : Type 0} (v : Spread) (x y : Seen) → ExprGood v x y → (p : C → TypedLink) (w : TypedLink → Spread) (f g : TypedLink → Linked) → ((c : C) → LinkGood (w (p c)) (f (p c)) (g (p c))) → (cs : List C) → known (evenly (v.whole && all_uniform (map w (map p cs)))) ≡ true
      → Both Shared (value_of setting.structs x >>= (λ words. valued (chained (map f (map p cs)) x.of words))) (value_of setting.structs y >>= (λ words. valued (chained (map g (map p cs)) y.of words)))
  chain_good v x y h p w f g all cs e =
      let k = and_parts v.whole (all_uniform (map w (map p cs))) (even_whole (v.whole && all_uniform (map w (map p cs))) e) in
      both_then (value_of setting.structs x) (value_of setting.structs y) _ _ (both_words v x y h (whole_known v k.0)) (λ words i.
      subst (λ of. Both Shared (valued (chained (map f (map p cs)) x.of words)) (valued (chained (map g (map p cs)) of words))) h.of (both_valued (chained (map f (map p cs)) x.of words) (chained (map g (map p cs)) x.of words) (both_chained p w f g all cs x.of words k.1)))

  choice_good : (v w z : Spread) (x y k l m n : Seen) → ExprGood v x y → ExprGood w k l → ExprGood z m n → known (evenly (v.whole && w.whole && z.whole)) ≡ true
      → Both Shared (word_of a x >>= (λ c. valued (when c (value_of setting.structs k) (value_of setting.structs m)))) (word_of b y >>= (λ c. valued (when c (value_of setting.structs l) (value_of setting.structs n))))
  choice_good v w z x y k l m n f g h e =
      let three = and_parts (v.whole && w.whole) z.whole (even_whole (v.whole && w.whole && z.whole) e) in
      let two = and_parts v.whole w.whole three.0 in
      both_then (word_of a x) (word_of b y) _ _ (both_word v x y f (whole_known v two.0)) (λ c i.
      both_valued (when c (value_of setting.structs k) (value_of setting.structs m)) (when c (value_of setting.structs l) (value_of setting.structs n))
      (both_when c (value_of setting.structs k) (value_of setting.structs l) (value_of setting.structs m) (value_of setting.structs n) (both_words w k l g (whole_known w two.1)) (both_words z m n h (whole_known z three.1))))

  link_any : (operator : BinaryOperator) (before : Option TypeTree) (of : TypeTree) (w : Spread) (x y : Seen) → ExprGood w x y → LinkGood w (record { of = of; next = linked a operator before x }) (record { of = of; next = linked b operator before y })
  link_any operator before of w x y g = record { of = refl; both = λ e t words. linked_good operator before t w x y words g e }

  -- ---- whole trees

  abbrev kind_uniform : TypedKind → Spread
  kind_uniform = fold-TypedKind Taken Spread Spread Spread access_taken (kind_spread u) expr_spread link_spread

  abbrev RightExpr : TypedExpr → Type 0
  RightExpr e = ExprGood (spread_of u e) (seen a callees e) (seen b others e)

  abbrev RightKind : TypedKind → Type 0
  RightKind k = KindGood (kind_uniform k) (kind_does a callees k) (kind_does b others k)

  abbrev RightForm : Access → Type 0
  RightForm f = FormGood (form_taken u f) (follows a callees f) (follows b others f)

  abbrev RightLink : TypedLink → Type 0
  RightLink l = LinkGood (operand_spread u l) (links a callees l) (links b others l)

  module _ {BA BK BE BL : Type 0} (pa : BA → Access) (pk : BK → TypedKind) (pe : BE → TypedExpr) (pl : BL → TypedLink) (ha : (c : BA) → RightForm (pa c)) (hk : (c : BK) → RightKind (pk c)) (he : (c : BE) → RightExpr (pe c)) (hl : (c : BL) → RightLink (pl c)) where
    abbrev KindLevel : TypedKind-F BA BK BE BL → Type 0
    KindLevel y =
        let z = map-TypedKind BA BK BE BL Access TypedKind TypedExpr TypedLink pa pk pe pl y in
        KindGood
        (kind_spread u (map-TypedKind Access TypedKind TypedExpr TypedLink Taken Spread Spread Spread (form_taken u) kind_uniform (spread_of u) (operand_spread u) z))
        (kind_step a callees (map-TypedKind Access TypedKind TypedExpr TypedLink Follows (TypeTree → Action State Spot) Seen Linked (follows a callees) (kind_does a callees) (seen a callees) (links a callees) z))
        (kind_step b others (map-TypedKind Access TypedKind TypedExpr TypedLink Follows (TypeTree → Action State Spot) Seen Linked (follows b others) (kind_does b others) (seen b others) (links b others) z))

    kind_level : (y : TypedKind-F BA BK BE BL) → KindLevel y
    kind_level (TypedKind-F.Literal words) t e = both_value words
    kind_level (TypedKind-F.Variable variable) t e = both_pure (spot.At (store.Variable variable) 0) (alike.variables variable (even_whole (is_marked (slice_get u.variables variable)) e))
    kind_level (TypedKind-F.Shared variable) t e = never e
    kind_level (TypedKind-F.Element buffer index) t e = never e
    kind_level (TypedKind-F.Load buffer address) t e = never e
    kind_level (TypedKind-F.Input None) t e = input_good (pure 0) (pure 0) (alike.inputs (and_parts u.reads_input true e).0) (both_pure 0 tt)
    kind_level (TypedKind-F.Input (Some index)) t e =
        let h = and_parts u.reads_input (spread_of u (pe index)).whole e in
        input_good (word_of a (seen a callees (pe index))) (word_of b (seen b others (pe index))) (alike.inputs h.0) (both_word _ _ _ (he index) (whole_known _ h.1))
    kind_level TypedKind-F.Count t e = count_good
    kind_level TypedKind-F.Finished t e = never e
    kind_level (TypedKind-F.Handle handle index) t e = never e
    kind_level (TypedKind-F.IsValid output None) t e = valid_good (pure 0) (pure 0) output (both_pure 0 tt)
    kind_level (TypedKind-F.IsValid output (Some element)) t e =
        valid_good (word_of a (seen a callees (pe element))) (word_of b (seen b others (pe element))) output (both_word _ _ _ (he element) (even_known (spread_of u (pe element)) e))
    kind_level TypedKind-F.Levels t e = both_value (setting.level ∷ [])
    kind_level TypedKind-F.Zeros t e = both_value (zeros (words_of setting.structs t))
    kind_level (TypedKind-F.Access base forms) t e = access_good _ _ _ (he base) pa (form_taken u) (follows a callees) (follows b others) ha forms e
    kind_level (TypedKind-F.Prefix operator operand) t e =
        of_words (value_of setting.structs (seen a callees (pe operand))) (value_of setting.structs (seen b others (pe operand))) (prefixed_words operator t) (both_words _ _ _ (he operand) (even_known (spread_of u (pe operand)) e))
    kind_level (TypedKind-F.Convert operand) t e = convert_good _ _ _ t (he operand) (even_known (spread_of u (pe operand)) e)
    kind_level (TypedKind-F.Chain first rest) t e = chain_good _ _ _ (he first) pl (operand_spread u) (links a callees) (links b others) hl rest e
    kind_level (TypedKind-F.Choice test x y) t e = choice_good _ _ _ _ _ _ _ _ _ (he test) (he x) (he y) e
    kind_level (TypedKind-F.Construct parts) t e =
        of_values (each (map (value_of setting.structs) (map (seen a callees) (map pe parts)))) (each (map (value_of setting.structs) (map (seen b others) (map pe parts)))) put (both_each pe (spread_of u) (seen a callees) (seen b others) he parts (even_whole _ e))
    kind_level (TypedKind-F.Call function arguments) t e = never e
    kind_level (TypedKind-F.Intrinsic call arguments) t e =
        of_values (each (map (value_of setting.structs) (map (seen a callees) (map pe arguments)))) (each (map (value_of setting.structs) (map (seen b others) (map pe arguments)))) (called_words call t) (both_each pe (spread_of u) (seen a callees) (seen b others) he arguments (even_whole _ e))

    access_level : (y : Access-F BA BK BE BL) → FormGood
        (access_taken (map-Access Access TypedKind TypedExpr TypedLink Taken Spread Spread Spread (form_taken u) kind_uniform (spread_of u) (operand_spread u) (map-Access BA BK BE BL Access TypedKind TypedExpr TypedLink pa pk pe pl y)))
        (access_step a (map-Access Access TypedKind TypedExpr TypedLink Follows (TypeTree → Action State Spot) Seen Linked (follows a callees) (kind_does a callees) (seen a callees) (links a callees) (map-Access BA BK BE BL Access TypedKind TypedExpr TypedLink pa pk pe pl y)))
        (access_step b (map-Access Access TypedKind TypedExpr TypedLink Follows (TypeTree → Action State Spot) Seen Linked (follows b others) (kind_does b others) (seen b others) (links b others) (map-Access BA BK BE BL Access TypedKind TypedExpr TypedLink pa pk pe pl y)))
    access_level (Access-F.Field field of) = field_good field of
    access_level (Access-F.Components cs of) = components_good cs of
    access_level (Access-F.Index index of) = record { of = refl; both = λ e t p h. never e }

    expr_level : (y : TypedExpr-F BA BK BE BL) → ExprGood
        (expr_spread (map-TypedExpr Access TypedKind TypedExpr TypedLink Taken Spread Spread Spread (form_taken u) kind_uniform (spread_of u) (operand_spread u) (map-TypedExpr BA BK BE BL Access TypedKind TypedExpr TypedLink pa pk pe pl y)))
        (expr_step (map-TypedExpr Access TypedKind TypedExpr TypedLink Follows (TypeTree → Action State Spot) Seen Linked (follows a callees) (kind_does a callees) (seen a callees) (links a callees) (map-TypedExpr BA BK BE BL Access TypedKind TypedExpr TypedLink pa pk pe pl y)))
        (expr_step (map-TypedExpr Access TypedKind TypedExpr TypedLink Follows (TypeTree → Action State Spot) Seen Linked (follows b others) (kind_does b others) (seen b others) (links b others) (map-TypedExpr BA BK BE BL Access TypedKind TypedExpr TypedLink pa pk pe pl y)))
    expr_level y = record { of = refl; both = hk y.kind y.of }

    link_level : (y : TypedLink-F BA BK BE BL) → LinkGood
        (link_spread (map-TypedLink Access TypedKind TypedExpr TypedLink Taken Spread Spread Spread (form_taken u) kind_uniform (spread_of u) (operand_spread u) (map-TypedLink BA BK BE BL Access TypedKind TypedExpr TypedLink pa pk pe pl y)))
        (link_step a (map-TypedLink Access TypedKind TypedExpr TypedLink Follows (TypeTree → Action State Spot) Seen Linked (follows a callees) (kind_does a callees) (seen a callees) (links a callees) (map-TypedLink BA BK BE BL Access TypedKind TypedExpr TypedLink pa pk pe pl y)))
        (link_step b (map-TypedLink Access TypedKind TypedExpr TypedLink Follows (TypeTree → Action State Spot) Seen Linked (follows b others) (kind_does b others) (seen b others) (links b others) (map-TypedLink BA BK BE BL Access TypedKind TypedExpr TypedLink pa pk pe pl y)))
    link_level y = link_any y.operator y.before y.of _ _ _ (he y.operand)

  right : (e : TypedExpr) → RightExpr e
  right e = ind-TypedExpr RightForm RightKind RightExpr RightLink
      (λ x y eq. subst (λ l. RightForm (roll-Access l)) eq (rw (fold-roll-Access Taken Spread Spread Spread access_taken (kind_spread u) expr_spread link_spread _, fold-roll-Access Follows (TypeTree → Action State Spot) Seen Linked (access_step a) (kind_step a callees) expr_step (link_step a) _, fold-roll-Access Follows (TypeTree → Action State Spot) Seen Linked (access_step b) (kind_step b others) expr_step (link_step b) _) (access_level (λ c. c.0) (λ c. c.0) (λ c. c.0) (λ c. c.0) (λ c. c.1) (λ c. c.1) (λ c. c.1) (λ c. c.1) y)))
      (λ x y eq. subst (λ l. RightKind (roll-TypedKind l)) eq (rw (fold-roll-TypedKind Taken Spread Spread Spread access_taken (kind_spread u) expr_spread link_spread _, fold-roll-TypedKind Follows (TypeTree → Action State Spot) Seen Linked (access_step a) (kind_step a callees) expr_step (link_step a) _, fold-roll-TypedKind Follows (TypeTree → Action State Spot) Seen Linked (access_step b) (kind_step b others) expr_step (link_step b) _) (kind_level (λ c. c.0) (λ c. c.0) (λ c. c.0) (λ c. c.0) (λ c. c.1) (λ c. c.1) (λ c. c.1) (λ c. c.1) y)))
      (λ x y eq. subst (λ l. RightExpr (roll-TypedExpr l)) eq (rw (fold-roll-TypedExpr Taken Spread Spread Spread access_taken (kind_spread u) expr_spread link_spread _, fold-roll-TypedExpr Follows (TypeTree → Action State Spot) Seen Linked (access_step a) (kind_step a callees) expr_step (link_step a) _, fold-roll-TypedExpr Follows (TypeTree → Action State Spot) Seen Linked (access_step b) (kind_step b others) expr_step (link_step b) _) (expr_level (λ c. c.0) (λ c. c.0) (λ c. c.0) (λ c. c.0) (λ c. c.1) (λ c. c.1) (λ c. c.1) (λ c. c.1) y)))
      (λ x y eq. subst (λ l. RightLink (roll-TypedLink l)) eq (rw (fold-roll-TypedLink Taken Spread Spread Spread access_taken (kind_spread u) expr_spread link_spread _, fold-roll-TypedLink Follows (TypeTree → Action State Spot) Seen Linked (access_step a) (kind_step a callees) expr_step (link_step a) _, fold-roll-TypedLink Follows (TypeTree → Action State Spot) Seen Linked (access_step b) (kind_step b others) expr_step (link_step b) _) (link_level (λ c. c.0) (λ c. c.0) (λ c. c.0) (λ c. c.0) (λ c. c.1) (λ c. c.1) (λ c. c.1) (λ c. c.1) y)))
      e

  both_lanes : (e : TypedExpr) → is_uniform u e ≡ true → Both Any (words_on a callees e) (words_on b others e)
  both_lanes e holds = both_words (spread_of u e) (seen a callees e) (seen b others e) (right e) (whole_known (spread_of u e) holds)

-- a uniform expression has one value on all lanes
pub one_value : (u : UniformSetting) (e : TypedExpr) → is_uniform u e ≡ true → HasOneValue u e
one_value u e holds setting lane other callees others s r alike =
    let h = both_lanes u setting lane other callees others s r alike e holds in
    (h.answer, (h.here, h.there))
