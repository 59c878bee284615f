-- Constructors, calls on numbers and calls of plain functions are sound.
use Rattle.std.proofs.Common.{◌≡◌, ℕ, suc, ◌+◌, true, not, List, [], ◌∷◌, map, length, Option, Some, None, refl, sym, ap, ◌∙◌, subst}
use Rattle.std.specs.Prelude.{◌&&◌, ◌==◌, slice_get}
use Rattle.wg_words.specs.declared.place.Place.{Place}
use Rattle.wg_typing.specs.Conversions.{numbers, type_of, same_type, same_scalar, chosen_scalar, truths}
use Rattle.wg_typing.specs.Layers.{typed_part, all_typed_parts, convert, fit}
use Rattle.wg_typing.specs.Maybe.{where_true}
use Rattle.wg_typing.specs.TypingConstructor.{components, component_count, all_make, constructed}
use Rattle.wg_typing.specs.TypingFunction.{passed_if, passed_of}
use Rattle.wg_typed.specs.Directions.{direction_of}
use Rattle.wg_typing.specs.TypingFunctionCall.{passed_place, passed_as, passed_all, chain_fits, plain_call, plain_value}
use Rattle.wg_typing.specs.TypingInterlocked.{is_fixed}
use Rattle.wg_typing.specs.TypingIntrinsic.{Reckons, in_common, in_uint, to_one_truth, in_truths, choosing, reckons, arity_of, joined_size_of, scalar_of_all, choosing_between, chosen_of_size, signature, all_numbers, convert_all, all_suit, signature_on, intrinsic_value}
use Rattle.wg_sound.specs.Room.{is_node, Room, is_value_of}
use Rattle.wg_sound.specs.SoundCalls.{all_are, are_of, reckons_on, is_part, count_in, count_of, parts_count, passes_as, all_pass, same_result, gives, calls}
use Rattle.wg_sound.specs.SoundExpr.{shown}
use Rattle.wg_sound.specs.SoundForms.{Shown}
use Rattle.wg_sound.specs.SoundOperators.{is_truths, truths_like}
use Rattle.wg_facts.specs.Tests.{test, every}
use Rattle.wg_tree.specs.declared.expr.Scalar.{Scalar}
use Rattle.wg_tree.specs.declared.expr.Scalar.TheVariants as scalar
use Rattle.wg_tree.specs.declared.item.Directed.{Directed}
use Rattle.wg_tree.specs.declared.item.Direction.{Direction}
use Rattle.wg_tree.specs.declared.item.Direction.TheVariants as direction
use Rattle.wg_typed.specs.declared.types.TypeTree.{TypeTree}
use Rattle.wg_typed.specs.declared.typed.TypedFunction.{TypedFunction}
use Rattle.wg_typed.specs.declared.typed.TypedParameter.{TypedParameter}
use Rattle.wg_typed.specs.declared.typed.TypedParameterType.{TypedParameterType}
use Rattle.wg_typed.specs.declared.typed.TypedParameterType.TheVariants as parameter
use Rattle.wg_typed.specs.declared.typed_expr.Intrinsic.{Intrinsic}
use Rattle.wg_typed.specs.declared.typed_expr.TypedExpr.{TypedExpr}
use Rattle.wg_typed.specs.declared.typed_expr.TypedKind.TheVariants as tree
use Rattle.wg_typing.specs.declared.scope.FormalParameter.{FormalParameter}
use Rattle.wg_sound.proofs.Numbered.{numbers_type}
use Rattle.wg_facts.proofs.Basics.{and_then, If, and_left, and_right, both, not_true, not_false, some_value, if_then, if_was, if_where, if_so, then_some, where_so, all_first, same_count, same_self, scalar_self, type_is, type_self, type_same, test_some}
use Rattle.wg_sound.proofs.Layered.{Is, is_typed, made_fixed, held_Construct, held_Call, held_Intrinsic}
use Rattle.wg_sound.proofs.Meanings.{ValueIs, PartIs, AllParts, TypedIs, AllTyped, AllAre, FunctionIs, typed_is, all_typed, convert_is, fit_is}
use Rattle.wg_sound.proofs.Operated.{test_type, counted_counted, common_counted}
use Rattle.wg_typing.specs.declared.numbers.Numbers.{Numbers}
use Rattle.wg_typing.specs.declared.numbers.Signature.{Signature}
use Rattle.wg_typing.specs.declared.part.Part.{Part}
use Rattle.wg_typing.specs.declared.part.TypedPart.{TypedPart}

-- ---- numbers

type_count : (n : Numbers) → count_of (type_of n) ≡ components n.size
type_count n = ap count_in (numbers_type n)

count_same : (m n : ℕ) → m ≡ n → (m == n) ≡ true
count_same m n e = subst (λ x. (m == x) ≡ true) e (same_self m)

all_counted : (all : List Numbers) → not (same_scalar (scalar_of_all all) scalar.Bool) ≡ true
all_counted [] = refl
all_counted (n ∷ []) = counted_counted n.of
all_counted (n ∷ m ∷ rest) = common_counted n.of (scalar_of_all (m ∷ rest))

module _ (room : Room) where
  -- ---- conversions of several

  abbrev Converted : List TypeTree → ℕ → List TypedExpr → Type 0
  Converted types n es = AllAre room types es × (length es ≡ n)

  convert_all_is : (ns : List Numbers) (ts : List TypedPart) → AllTyped room ts → If (Converted (map type_of ns) (length ts)) (convert_all ns ts)
  convert_all_is [] [] h = (tt, refl)
  convert_all_is [] (t ∷ ts) h = tt
  convert_all_is (n ∷ ns) [] h = tt
  convert_all_is (n ∷ ns) (t ∷ ts) h =
      if_then (Is room (type_of n)) (Converted (map type_of (n ∷ ns)) (length (t ∷ ts))) (convert (type_of n) t) _ (convert_is room (type_of n) t h.0) (λ e k.
      if_then (Converted (map type_of ns) (length ts)) (Converted (map type_of (n ∷ ns)) (length (t ∷ ts))) (convert_all ns ts) _ (convert_all_is ns ts h.1) (λ es l. ((k, l.0), ap suc l.1)))

  pub are_of_all : (types : List TypeTree) (es : List TypedExpr) → AllAre room types es → are_of types (map (shown room) es) ≡ true
  are_of_all [] [] h = refl
  are_of_all [] (e ∷ es) h = absurd h
  are_of_all (t ∷ types) [] h = absurd h
  are_of_all (t ∷ types) (e ∷ es) h = both (is_typed room t e h.0) (are_of_all types es h.1)

  -- ---- constructors

  record PartsAre (of : Scalar) (ns : List Numbers) (es : List TypedExpr) : Type 0 where
    parts : every (is_part of) (map (shown room) es) ≡ true
    count : parts_count (map (shown room) es) ≡ component_count ns

  abbrev to_scalar : Scalar → Numbers → Numbers
  to_scalar of n = record { of = of; size = n.size }

  parts_are : (of : Scalar) (ns : List Numbers) (es : List TypedExpr) → AllAre room (map type_of (map (to_scalar of) ns)) es → PartsAre of ns es
  parts_are of [] [] h = record { parts = refl; count = refl }
  parts_are of [] (e ∷ es) h = absurd h
  parts_are of (n ∷ ns) [] h = absurd h
  parts_are of (n ∷ ns) (e ∷ es) h =
      let r = parts_are of ns es h.1 in
      record {
        parts = both (both h.0.sound (subst (λ t. test (λ (m : Numbers). same_scalar m.of of) (numbers t) ≡ true) (sym h.0.of) (test_type (λ (m : Numbers). same_scalar m.of of) (to_scalar of n) (scalar_self of)))) r.parts;
        count = ap (λ t. count_of t + parts_count (map (shown room) es)) h.0.of ∙ ap (λ m. m + parts_count (map (shown room) es)) (type_count (to_scalar of n)) ∙ ap (λ m. components n.size + m) r.count;
      }

  pub constructed_is : (place : Place) (goal : Numbers) (parts : List Part) → AllParts room parts → If (ValueIs room) (constructed place goal parts)
  constructed_is place goal parts h = if_then (AllTyped room) (ValueIs room) (all_typed_parts parts) _ (all_typed room parts h) (λ ts k.
      if_was (ValueIs room) (all_numbers ts) _ (λ ns e.
      let fitting = component_count ns == components goal.size && all_make goal.size ts in
      if_was (ValueIs room) (and_then (where_true fitting ns) (λ ns. convert_all (map (to_scalar goal.of) ns) ts)) _ (λ es f.
      let w = then_some (where_true fitting ns) _ es f in
      let v = where_so fitting ns w.0 w.1 in
      let a = if_so (Converted (map type_of (map (to_scalar goal.of) w.0)) (length ts)) _ es w.2 (convert_all_is (map (to_scalar goal.of) w.0) ts k) in
      let p = parts_are goal.of w.0 es a.0 in
      let c : component_count w.0 ≡ components goal.size = subst (λ (x : List Numbers). component_count x ≡ components goal.size) v.1 (same_count (component_count ns) (components goal.size) (and_left (component_count ns == components goal.size) _ v.0)) in
      made_fixed room place (type_of goal) (tree.Construct es) _ (held_Construct room es)
      (both (test_type (λ (n : Numbers). every (is_part n.of) (map (shown room) es)) goal p.parts) (count_same _ _ (p.count ∙ c ∙ sym (type_count goal)))))))

  -- ---- calls on numbers

  alike_are : (n : Numbers) (all : List Numbers) (es : List TypedExpr) → AllAre room (map type_of (map (λ a. n) all)) es → all_are (type_of n) (map (shown room) es) ≡ true
  alike_are n [] [] h = refl
  alike_are n [] (e ∷ es) h = absurd h
  alike_are n (a ∷ all) [] h = absurd h
  alike_are n (a ∷ all) (e ∷ es) h = both (is_typed room (type_of n) e h.0) (alike_are n all es h.1)

  truths_are : (all : List Numbers) (es : List TypedExpr) → AllAre room (map type_of (map (λ (n : Numbers). truths n.size) all)) es → every (λ (a : Shown). a.sound && is_truths a.of) (map (shown room) es) ≡ true
  truths_are [] [] h = refl
  truths_are [] (e ∷ es) h = absurd h
  truths_are (n ∷ all) [] h = absurd h
  truths_are (n ∷ all) (e ∷ es) h =
      both (both h.0.sound (subst (λ t. is_truths t ≡ true) (sym h.0.of) (test_type (λ (m : Numbers). same_scalar m.of scalar.Bool) (truths n.size) refl))) (truths_are all es h.1)

  abbrev Reckoned : Reckons → List TypedExpr → Signature → Type 0
  Reckoned r es s = AllAre room (map type_of s.arguments) es → reckons_on r (type_of s.result) (map (shown room) es) ≡ true

  choosing_is : (n : Numbers) (es : List TypedExpr) → Reckoned choosing es (choosing_between n)
  choosing_is n es a = test_some (λ truth. are_of (truth ∷ type_of n ∷ type_of n ∷ []) (map (shown room) es)) (truths_like (type_of n)) (type_of (truths n.size)) (ap (λ o. and_then o (λ (n : Numbers). Some (type_of (truths n.size)))) (numbers_type n)) (are_of_all (type_of (truths n.size) ∷ type_of n ∷ type_of n ∷ []) es a)

  chosen_is : (all : List Numbers) (size : Option ℕ) (es : List TypedExpr) → If (Reckoned choosing es) (chosen_of_size all size)
  chosen_is [] size es = tt
  chosen_is (a ∷ []) size es = tt
  chosen_is (a ∷ b ∷ []) size es = tt
  chosen_is (test ∷ a ∷ b ∷ []) size es = choosing_is (record { of = chosen_scalar a.of b.of; size = size }) es
  chosen_is (test ∷ a ∷ b ∷ c ∷ rest) size es = tt

  reckoned_is : (r : Reckons) (all : List Numbers) (es : List TypedExpr) → If (Reckoned r es) (signature r all)
  reckoned_is in_common all es = if_was (Reckoned in_common es) (joined_size_of all) _ (λ size e.
      let n : Numbers = record { of = scalar_of_all all; size = size } in
      λ a. both (test_type (λ (m : Numbers). not (same_scalar m.of scalar.Bool)) n (all_counted all)) (alike_are n all es a))
  reckoned_is in_uint all es = if_was (Reckoned in_uint es) (joined_size_of all) _ (λ size e.
      let n : Numbers = record { of = scalar.Uint; size = size } in
      λ a. both (test_type (λ (m : Numbers). same_scalar m.of scalar.Uint) n refl) (alike_are n all es a))
  reckoned_is to_one_truth all es = λ a. truths_are all es a
  reckoned_is in_truths all es = if_was (Reckoned in_truths es) (joined_size_of all) _ (λ size e.
      λ a. both (test_type (λ (m : Numbers). same_scalar m.of scalar.Bool) (truths size) refl) (alike_are (truths size) all es a))
  reckoned_is choosing all es = if_was (Reckoned choosing es) (joined_size_of all) _ (λ size e. chosen_is all size es)

  length_shown : (es : List TypedExpr) → length (map (shown room) es) ≡ length es
  length_shown [] = refl
  length_shown (e ∷ es) = ap suc (length_shown es)

  pub intrinsic_is : (name : Place) (i : Intrinsic) (parts : List Part) → AllParts room parts → If (ValueIs room) (intrinsic_value name i parts)
  intrinsic_is name i parts h = if_then (AllTyped room) (ValueIs room) (all_typed_parts parts) _ (all_typed room parts h) (λ ts k.
      if_was (ValueIs room) (and_then (where_true (length ts == arity_of i && all_suit (reckons i) ts) ts) (signature_on i)) _ (λ s e.
      let w = then_some (where_true (length ts == arity_of i && all_suit (reckons i) ts) ts) _ s e in
      let v = where_so (length ts == arity_of i && all_suit (reckons i) ts) ts w.0 w.1 in
      let n = then_some (all_numbers w.0) _ s w.2 in
      if_then (Converted (map type_of s.arguments) (length ts)) (ValueIs room) (convert_all s.arguments ts) _ (convert_all_is s.arguments ts k) (λ es a.
      let r = if_so (Reckoned (reckons i) es) _ s n.2 (reckoned_is (reckons i) n.0 es) in
      made_fixed room name (type_of s.result) (tree.Intrinsic i es) _ (held_Intrinsic room i es)
      (both (count_same _ _ (length_shown es ∙ a.1 ∙ same_count (length ts) (arity_of i) (and_left (length ts == arity_of i) _ v.0))) (r a.0)))))

  -- ---- calls of plain functions

  abbrev PassedAs : Direction → TypeTree → TypedExpr → Type 0
  PassedAs d of e = Is room of e × (passes_as d (shown room e) ≡ true)

  place_is : (of : TypeTree) (p : Part) → PartIs room p → If (λ e. Is room of e × (not (is_fixed (shown room e).standing) ≡ true)) (passed_place of p)
  place_is of p h = if_then (TypedIs room) (λ e. Is room of e × (not (is_fixed (shown room e).standing) ≡ true)) (typed_part p) _ (typed_is room p h) (λ t k.
      if_where (λ e. Is room of e × (not (is_fixed (shown room e).standing) ≡ true)) (same_type t.of of && not (is_fixed t.standing)) t.tree (λ b.
      let f = and_right (same_type t.of of) _ b in
      (subst (λ x. Is room x t.tree) (type_is t.of of (and_left (same_type t.of of) _ b)) k.is, subst (λ x. not (is_fixed x) ≡ true) (sym (k.stands (not_false (is_fixed t.standing) f))) f)))

  passed_is : (d : Direction) (of : TypeTree) (p : Part) → PartIs room p → If (PassedAs d of) (passed_as d of p)
  passed_is direction.In of p h = only_is (fit of p) (fit_is room of p h)
    where
      only_is : (o : Option TypedExpr) → If (Is room of) o → If (PassedAs direction.In of) o
      only_is None k = tt
      only_is (Some e) k = (k, refl)
  passed_is direction.Out of p h = place_is of p h
  passed_is direction.InOut of p h = place_is of p h

  value_passes : (d : Option Directed) (of : TypedParameterType) (a : FormalParameter) (e : TypedExpr) → passed_if d of ≡ Some a → PassedAs a.direction a.of e
      → (is_value_of (shown room e).of of && ((shown room e).sound && passes_as (direction_of d) (shown room e))) ≡ true
  value_passes d (parameter.Object place word number) a e f h = absurd (cc)
  value_passes d (parameter.Value of) a e f h =
      let q = some_value f in
      let k : PassedAs (direction_of d) of e = subst (λ (x : FormalParameter). PassedAs x.direction x.of e) (sym q) h in
      both (type_same of _ (sym k.0.of)) (both k.0.sound k.1)

  all_passed_is : (ps : List TypedParameter) (formals : List FormalParameter) (parts : List Part) → passed_of ps ≡ Some formals → AllParts room parts → If (λ es. all_pass ps (map (shown room) es) ≡ true) (passed_all formals parts)
  all_passed_is [] [] [] e h = refl
  all_passed_is [] [] (p ∷ parts) e h = tt
  all_passed_is [] (a ∷ formals) parts e h = absurd (cc)
  all_passed_is (p ∷ ps) [] parts e h = let f = all_first (passed_if p.direction p.of) (map (λ (p : TypedParameter). passed_if p.direction p.of) ps) [] e in absurd (nil_cons f.2.2)
    where
      nil_cons : {A : Type 0} {a : A} {xs : List A} → [] ≡ a ∷ xs → ⊥
      nil_cons {A} {a} {xs} e = cc
  all_passed_is (p ∷ ps) (a ∷ formals) [] e h = tt
  all_passed_is (p ∷ ps) (a ∷ formals) (x ∷ parts) e h =
      let f = all_first (passed_if p.direction p.of) (map (λ (p : TypedParameter). passed_if p.direction p.of) ps) (a ∷ formals) e in
      let first : passed_if p.direction p.of ≡ Some a = f.1 ∙ ap Some (sym (head_same f.2.2)) in
      let rest : passed_of ps ≡ Some formals = f.2.1 ∙ ap Some (sym (tail_same f.2.2)) in
      if_then (PassedAs a.direction a.of) (λ es. all_pass (p ∷ ps) (map (shown room) es) ≡ true) (passed_as a.direction a.of x) _ (passed_is a.direction a.of x h.0) (λ e k.
      if_then (λ es. all_pass ps (map (shown room) es) ≡ true) (λ es. all_pass (p ∷ ps) (map (shown room) es) ≡ true) (passed_all formals parts) _ (all_passed_is ps formals parts rest h.1) (λ es l.
      both (value_passes p.direction p.of a e first k) l))
    where
      head_same : {A : Type 0} {a b : A} {xs ys : List A} → a ∷ xs ≡ b ∷ ys → a ≡ b
      head_same {A} {a} {b} {xs} {ys} e = cc

      tail_same : {A : Type 0} {a b : A} {xs ys : List A} → a ∷ xs ≡ b ∷ ys → xs ≡ ys
      tail_same {A} {a} {b} {xs} {ys} e = cc

  result_self : (r : Option TypeTree) → same_result r r ≡ true
  result_self None = refl
  result_self (Some t) = type_self t

  calls_is : (number : ℕ) (result : Option TypeTree) (formals : List FormalParameter) (es : List TypedExpr) (f : FunctionIs room number result formals) → all_pass f.function.parameters (map (shown room) es) ≡ true → calls room number result (map (shown room) es) ≡ true
  calls_is number result formals es f h =
      both f.before (test_some (λ (g : TypedFunction). not (is_node g) && gives result (map (shown room) es) g) (slice_get room.text.functions number) f.function f.at
      (both (not_true _ f.plain) (both (subst (λ r. same_result f.function.result r ≡ true) f.result (result_self f.function.result)) h)))

  called_is : (name : Place) (number : ℕ) (result : Option TypeTree) (es : List TypedExpr) → calls room number result (map (shown room) es) ≡ true → If (ValueIs room) (plain_call name number result es)
  called_is name number None es h = h
  called_is name number (Some of) es h = made_fixed room name of (tree.Call number es) _ (held_Call room number es) h

  pub plain_is : (name : Place) (number : ℕ) (result : Option TypeTree) (formals : List FormalParameter) (chain : ℕ) (parts : List Part) → FunctionIs room number result formals → AllParts room parts → If (ValueIs room) (plain_value name number result formals chain parts)
  plain_is name number result formals chain parts f h =
      if_then (λ es. all_pass f.function.parameters (map (shown room) es) ≡ true) (ValueIs room) (passed_all formals parts) _ (all_passed_is f.function.parameters formals parts f.passed h) (λ es k.
      if_was (ValueIs room) (where_true (chain_fits chain) es) _ (λ xs e.
      let w = where_so (chain_fits chain) es xs e in
      called_is name number result xs (calls_is number result formals xs f (subst (λ (y : List TypedExpr). all_pass f.function.parameters (map (shown room) y) ≡ true) w.1 k))))
