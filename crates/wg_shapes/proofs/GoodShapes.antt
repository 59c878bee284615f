-- The shape of a graph whose nodes fit one another is a good one.
use Rattle.std.proofs.Common.{◌≡◌, ◌≢◌, ℕ, zero, suc, ◌+◌, ◌<◌, ◌≤◌, Bool, true, false, cond, not, ◌||◌, List, [], ◌∷◌, length, map, refl, sym, ap, ap₂, subst, subst₂, ◌∙◌, ◌⊎◌, inl, inr, ⊎_elim, arith, IsTrue, Option, Some, None, slice_get, filter, option_map, eqb-true, eq-eqb, ◌==◌, unwrap_or}
use Rattle.std.specs.List.{AllZip, list_any, range_with_len}
use Rattle.std.specs.Str.{bytes_eq}
use Rattle.std.proofs.lemmas.Bool.{cases_Bool, cases_lt, cond-true, cond-false}
use Rattle.std.proofs.lemmas.List.{length-map}
use Rattle.std.proofs.lemmas.List.FromFn.{length-map-range_with_len}
use Rattle.std.proofs.lemmas.Option.{same_Some, slice_get-map, slice_get_within, slice_get-get_or}
use Rattle.std.proofs.lemmas.Slice.Eq.{bytes_eq-Decides}
use Rattle.wg_words.specs.Each.{Each}
use Rattle.wg_words.specs.Maybe.{◌>>=◌}
use Rattle.wg_words.specs.Characters.{is_identifier}
use Rattle.wg_machine.specs.GoodShape.{IsGoodShape, IsGoodUnit, IsGoodOutput, IsGoodElement, IsGoodTarget, IsGoodKind, IsAlike, IsBetween, RisesBelow, form_of}
use Rattle.wg_machine.specs.Need.{is_target}
use Rattle.wg_machine.specs.Units.{is_broadcasting}
use Rattle.wg_machine.specs.Unrolling.{node_and_level, node_at, sends_to, IsFirst}
use Rattle.wg_machine.specs.declared.shape.NodeName.{NodeName}
use Rattle.wg_machine.specs.declared.shape.Output.{Output}
use Rattle.wg_machine.specs.declared.shape.Shape.{Shape}
use Rattle.wg_machine.specs.declared.shape.Unit.{Unit}
use Rattle.wg_typed.specs.declared.typed.Typed.{Typed}
use Rattle.wg_node_attributes.specs.declared.attributes.NodeAttrs.{NodeAttrs}
use Rattle.wg_node_attributes.specs.declared.attributes.OutputAttr.{OutputAttr}
use Rattle.wg_shapes.specs.Chain.{onward, IsLongest}
use Rattle.wg_shapes.specs.Buildable.{IsBuildable, IsTaken, Takes}
use Rattle.wg_shapes.specs.Level.{Sends, top_level, top_levels, depth_if}
use Rattle.wg_shapes.specs.Limits.{AreGoodAttrs, IsGoodNode, IsGoodOutputAttr}
use Rattle.wg_shapes.specs.Naming.{elements_of, is_named, targets}
use Rattle.wg_shapes.specs.Records.{input_record, output_record, record_words, bool_words, shares_input}
use Rattle.wg_shapes.specs.ShapeOf.{IsShapeOf, IsUnitOfNode, IsOutputOf, IsUnitAt, arrival, budgets_of, budget_count, most_of, is_targeted, node_name, buffer_name}
use Rattle.wg_shapes.proofs.Booleans.{and_first, and_both, not_both, zip_length, each_at, each_map, each_of, each_then, any_at, beside}
use Rattle.wg_shapes.proofs.Depths.{Arrives, arrives, at_unit, depth_is, sends_on, top_at, top_is}
use Rattle.wg_shapes.proofs.Empty.{few, no_earlier}
use Rattle.wg_shapes.proofs.Numbered.{none_before}

-- ---- numbers in order

rises : (test : ℕ → Bool) (at n : ℕ) (least : ℕ) → least ≤ at → RisesBelow least (at + n) (filter test (range_with_len at n))
rises test at zero least le = tt
rises test at (suc n) least le = ⊎_elim (yes (rises test (at + 1) n (at + 1) (omega arith))) (no (rises test (at + 1) n least (omega (arith, le)))) (cases_Bool (test at))
  where
    later : (least : ℕ) → RisesBelow least ((at + 1) + n) (filter test (range_with_len (at + 1) n)) → RisesBelow least (at + suc n) (filter test (range_with_len (at + 1) n))
    later least h = let e : (at + 1) + n ≡ at + suc n = omega arith in subst (λ end. RisesBelow least end (filter test (range_with_len (at + 1) n))) e h

    yes : RisesBelow (at + 1) ((at + 1) + n) (filter test (range_with_len (at + 1) n)) → test at ≡ true → RisesBelow least (at + suc n) (filter test (range_with_len at (suc n)))
    yes h t = subst (RisesBelow least (at + suc n)) (sym (cond-true (test at) (at ∷ filter test (range_with_len (at + 1) n)) (filter test (range_with_len (at + 1) n)) t)) (le, omega arith, later (at + 1) h)

    no : RisesBelow least ((at + 1) + n) (filter test (range_with_len (at + 1) n)) → test at ≡ false → RisesBelow least (at + suc n) (filter test (range_with_len at (suc n)))
    no h t = subst (RisesBelow least (at + suc n)) (sym (cond-false (test at) (at ∷ filter test (range_with_len (at + 1) n)) (filter test (range_with_len (at + 1) n)) t)) (later least h)

bools_rise : (typed : Typed) (r : Option ℕ) → RisesBelow 0 (record_words typed.structs r) (bool_words typed.structs r)
bools_rise typed None = tt
bools_rise typed (Some number) =
    let e : 0 + record_words typed.structs (Some number) ≡ record_words typed.structs (Some number) = omega arith in
    subst (λ end. RisesBelow 0 end (bool_words typed.structs (Some number))) e (rises _ 0 (record_words typed.structs (Some number)) 0 (omega arith))

length_range : (at n : ℕ) → length (range_with_len at n) ≡ n
length_range at zero = refl
length_range at (suc n) = ap suc (length_range (at + 1) n)

length_elements : (nodes : List NodeAttrs) (o : OutputAttr) → length (elements_of nodes o) ≡ o.elements
length_elements nodes o = length-map (range_with_len o.index o.elements) _ ∙ length_range o.index o.elements

length_budgets : (outputs : List OutputAttr) → length (budgets_of outputs) ≡ budget_count outputs
length_budgets outputs = length-map (range_with_len 0 (budget_count outputs)) (most_of outputs) ∙ length_range 0 (budget_count outputs)

budget_below : (outputs : List OutputAttr) → Each (λ (o : OutputAttr). o.budget < budget_count outputs) outputs
budget_below [] = tt
budget_below (o ∷ rest) = (omega arith, each_then (λ (p : OutputAttr). p.budget < budget_count rest) (λ (p : OutputAttr). p.budget < budget_count (o ∷ rest)) rest (λ p h. omega (arith, h)) (budget_below rest))

-- ---- outputs

forms : (typed : Typed) (nodes : List NodeAttrs) (units : List Unit) (a : NodeAttrs) (at : ℕ × ℕ) (froms : List OutputAttr) (outputs : List Output) → AllZip (λ (from : OutputAttr) (o : Output). IsOutputOf typed nodes units a at from o) froms outputs
    → map form_of outputs ≡ map (λ (from : OutputAttr). (from.budget, record_words typed.structs (output_record typed a from), length (elements_of nodes from))) froms
forms typed nodes units a at [] [] all = refl
forms typed nodes units a at [] (y ∷ ys) all = absurd all
forms typed nodes units a at (x ∷ xs) [] all = absurd all
forms typed nodes units a at (x ∷ xs) (y ∷ ys) all =
    let o = all.0 in
    ap₂ (λ f l. f ∷ l)
    (ap₂ (λ (p : ℕ × ℕ) n. (p.0, p.1, n)) (ap₂ (λ (b : ℕ) (w : ℕ). (b, w)) o.budget o.words) (zip_length (λ (e : Option ℕ) (t : Option ℕ). IsUnitAt units (arrival nodes at.0 at.1 e) t) (elements_of nodes x) y.elements o.elements))
    (forms typed nodes units a at xs ys all.1)

module _ (typed : Typed) (nodes : List NodeAttrs) (shape : Shape) (good : AreGoodAttrs typed nodes) (fits : IsBuildable typed nodes) (is : IsShapeOf typed nodes shape) where
  unit_of : (k : ℕ) (u : Unit) → slice_get shape.units k ≡ Some u → IsUnitOfNode typed nodes shape.units u
  unit_of k u e = is.units_are k u e

  node_good : (n : ℕ) (a : NodeAttrs) → slice_get nodes n ≡ Some a → IsGoodNode typed a
  node_good n a e = each_at (IsGoodNode typed) nodes n a good.nodes_good e

  first_of_node : (k : ℕ) (u : Unit) (a : NodeAttrs) → slice_get shape.units k ≡ Some u → slice_get nodes u.node ≡ Some a → u.level ≡ top_level nodes u.node → IsFirst shape k
  first_of_node k u a e there level v lt same = go (slice_get shape.units v) refl same
    where
      node_is : node_at shape k ≡ u.node
      node_is = ap (λ o. unwrap_or (option_map (λ (n : Unit). n.node) o) 0) e

      gone : (w : Unit) → slice_get shape.units v ≡ Some w → w.node ≡ u.node → ⊥
      gone w f g =
          let h = none_before (top_levels nodes) 0 k v u.node (top_level nodes u.node) (node_and_level u) (node_and_level w)
          (top_at nodes u.node (slice_get_within nodes u.node a there)) (at_unit typed nodes shape is k u e) (omega arith) level (at_unit typed nodes shape is v w f) g in
          omega (arith, h, lt)

      go : (o : Option Unit) → slice_get shape.units v ≡ o → node_at shape v ≡ node_at shape k → ⊥
      go (Some w) f same = gone w f (sym (ap (λ o. unwrap_or (option_map (λ (n : Unit). n.node) o) 0) f) ∙ same ∙ node_is)
      go None f same =
          let within = slice_get_within shape.units k u e in
          let there = slice_get-get_or shape.units v u (omega (arith, within, lt)) in
          absurd (let c = sym f ∙ there in cc)

  -- what is known of an element and the unit that it sends to
  record Sending (k : ℕ) (u : Unit) (t : ℕ) (v : Unit) (x : Option ℕ) : Type 0 where
    arrives : Arrives nodes u.node u.level x (node_and_level v)
    node : IsUnitOfNode typed nodes shape.units v
    known : (x >>= slice_get nodes) ≡ Some node.node

  sending : (k : ℕ) (u : Unit) (t : ℕ) (v : Unit) (x : Option ℕ) → slice_get shape.units t ≡ Some v → IsUnitAt shape.units (arrival nodes u.node u.level x) (Some t) → Sending k u t v x
  sending k u t v x f at = go (arrival nodes u.node u.level x) refl at
    where
      go : (a : Option (ℕ × ℕ)) → arrival nodes u.node u.level x ≡ a → IsUnitAt shape.units a (Some t) → Sending k u t v x
      go None to at = absurd at
      go (Some p) to at =
          let here : p ≡ node_and_level v = same_Some p (node_and_level v) (sym at ∙ (slice_get-map node_and_level shape.units t ∙ ap (option_map node_and_level) f)) in
          let arrived = arrives nodes u.node u.level x (node_and_level v) (to ∙ ap (λ q. Some q) here) in
          let m = unit_of t v f in
          record { arrives = arrived; node = m; known = ap (λ o. o >>= slice_get nodes) arrived.is ∙ m.there }

  good_target : (k : ℕ) (u : Unit) (n : IsUnitOfNode typed nodes shape.units u) (from : OutputAttr) (o : Output) → slice_get shape.units k ≡ Some u → o.words ≡ record_words typed.structs (output_record typed n.node from)
      → (x : Option ℕ) (t : ℕ) (v : Unit) → slice_get shape.units t ≡ Some v → IsTrue (sends_to t u) → Takes typed (record_words typed.structs (output_record typed n.node from)) (x >>= slice_get nodes) → IsUnitAt shape.units (arrival nodes u.node u.level x) (Some t) → IsGoodTarget shape u o t
  good_target k u n from o e words x t v f sends taken at =
      let s = sending k u t v x f at in
      let same : record_words typed.structs (input_record typed s.node.node) ≡ record_words typed.structs (output_record typed n.node from) = subst (Takes typed (record_words typed.structs (output_record typed n.node from))) s.known taken in
      let long : IsLongest (Sends nodes) u.depth (node_and_level u) = n.is.depth in
      let longer : IsLongest (Sends nodes) v.depth (node_and_level v) = s.node.is.depth in
      let deeper = longer.longest (suc u.depth) (onward long.chain (sends_on typed nodes shape is k t u v e f sends)) in
      record {
        target = v;
        there = f;
        deeper = omega (arith, deeper);
        words = s.node.is.words ∙ (same ∙ sym words);
        place = place_of s s.arrives.place;
      }
    where
      place_of : (s : Sending k u t v x) → ((v.node ≡ u.node) × (v.level + 1 ≡ u.level)) ⊎ ((v.node ≢ u.node) × (v.level ≡ top_level nodes v.node))
          → ((v.node ≡ u.node) × (v.level + 1 ≡ u.level)) ⊎ ((v.node ≢ u.node) × IsFirst shape t)
      place_of s (inl own) = inl own
      place_of s (inr other) = inr (other.0, first_of_node t v s.node.node f s.node.there other.1)

  -- an element's target is in range
  good_element : (k : ℕ) (u : Unit) (n : IsUnitOfNode typed nodes shape.units u) (from : OutputAttr) (o : Output) → slice_get shape.units k ≡ Some u → o.words ≡ record_words typed.structs (output_record typed n.node from)
      → (x : Option ℕ) (y : Option ℕ) → ((t : ℕ) → y ≡ Some t → IsTrue (sends_to t u)) → Takes typed (record_words typed.structs (output_record typed n.node from)) (x >>= slice_get nodes) → IsUnitAt shape.units (arrival nodes u.node u.level x) y → IsGoodElement shape u o y
  good_element k u n from o e words x None sends taken at = tt
  good_element k u n from o e words x (Some t) sends taken at = go (slice_get shape.units t) refl
    where
      out : (a : Option (ℕ × ℕ)) → slice_get shape.units t ≡ None → IsUnitAt shape.units a (Some t) → ⊥
      out None f at = at
      out (Some p) f at = let c = sym at ∙ (slice_get-map node_and_level shape.units t ∙ ap (option_map node_and_level) f) in cc

      go : (v : Option Unit) → slice_get shape.units t ≡ v → IsGoodElement shape u o (Some t)
      go None f = absurd (out (arrival nodes u.node u.level x) f at)
      go (Some v) f = good_target k u n from o e words x t v f (sends t refl) taken at

  good_output : (k : ℕ) (u : Unit) (n : IsUnitOfNode typed nodes shape.units u) → slice_get shape.units k ≡ Some u → (j : ℕ) (o : Output) → slice_get u.outputs j ≡ Some o → IsGoodOutput shape u o
  good_output k u n e j o f =
      let g = node_good u.node n.node n.there in
      let b = beside (λ (from : OutputAttr) (o : Output). IsOutputOf typed nodes shape.units n.node (node_and_level u) from o) n.node.outputs u.outputs j o n.is.outputs f in
      let from = b.first in
      let r : IsOutputOf typed nodes shape.units n.node (node_and_level u) from o = b.related in
      let a = each_at (IsGoodOutputAttr typed n.node) n.node.outputs j from g.outputs b.there in
      let taken = each_at (IsTaken typed nodes n.node) n.node.outputs j from (each_at (λ (a : NodeAttrs). Each (IsTaken typed nodes a) a.outputs) nodes u.node n.node fits.taken n.there) b.there in
      let count : length o.elements ≡ from.elements = zip_length (λ (x : Option ℕ) (y : Option ℕ). IsUnitAt shape.units (arrival nodes u.node u.level x) y) (elements_of nodes from) o.elements r.elements ∙ length_elements nodes from in
      let few = a.count in
      let budget = each_at (λ (p : OutputAttr). p.budget < budget_count n.node.outputs) n.node.outputs j from (budget_below n.node.outputs) b.there in
      let budgets : length u.budgets ≡ budget_count n.node.outputs = ap length n.is.budgets ∙ length_budgets n.node.outputs in
      let same = r.budget in
      let words = r.words in
      let bound = a.words in
      record {
        budget = omega (arith, budget, budgets, same);
        words = omega (arith, words, bound);
        count = record { low = (let l = few.low in omega (arith, l, count)); high = (let h = few.high in omega (arith, h, count)) };
        elements = each_of (IsGoodElement shape u o) o.elements (λ i y h. element_at from r taken i y h);
      }
    where
      element_at : (from : OutputAttr) → IsOutputOf typed nodes shape.units n.node (node_and_level u) from o → IsTaken typed nodes n.node from → (i : ℕ) (y : Option ℕ) → slice_get o.elements i ≡ Some y → IsGoodElement shape u o y
      element_at from r taken i y h =
          let b = beside (λ (x : Option ℕ) (y : Option ℕ). IsUnitAt shape.units (arrival nodes u.node u.level x) y) (elements_of nodes from) o.elements i y r.elements h in
          good_element k u n from o e r.words b.first y
          (λ t is_t. any_at (λ (p : Output). list_any (is_target t) p.elements) u.outputs j o f (any_at (is_target t) o.elements i y h (ap (is_target t) is_t ∙ eq-eqb t t refl)))
          (each_at (λ (x : Option ℕ). Takes typed (record_words typed.structs (output_record typed n.node from)) (x >>= slice_get nodes)) (elements_of nodes from) i b.first taken b.there)
          b.related

  good_unit : (k : ℕ) (u : Unit) → slice_get shape.units k ≡ Some u → IsGoodUnit shape k u
  good_unit k u e =
      let n = unit_of k u e in
      let g = node_good u.node n.node n.there in
      let long : IsLongest (Sends nodes) u.depth (node_and_level u) = n.is.depth in
      let words = n.is.words in
      let bound = g.words in
      let outputs = zip_length (λ (from : OutputAttr) (o : Output). IsOutputOf typed nodes shape.units n.node (node_and_level u) from o) n.node.outputs u.outputs n.is.outputs in
      let few_outputs = g.few_outputs in
      record {
        depth = depth_is typed nodes shape is k u e;
        chain = ⊎_elim (λ (lt : u.depth < 33). omega (arith, lt)) (λ (le : 33 ≤ u.depth). absurd (fits.short u.node (record { level = u.level; units = u.depth; long = omega (arith, le); chain = long.chain }))) (cases_lt u.depth 33);
        words = omega (arith, words, bound);
        stride = n.is.stride;
        kind = subst₂ IsGoodKind (sym words) (sym n.is.kind) g.kind;
        entry = λ t. first_of_node k u n.node e n.there (eqb-true u.level (top_level nodes u.node) (and_first (u.level == top_level nodes u.node) (n.node.marked || not (is_targeted nodes u.node)) (sym n.is.entry ∙ t)));
        budgets = subst (Each (IsBetween 1 256)) (sym n.is.budgets) g.budgets;
        few_outputs = omega (arith, outputs, few_outputs);
        outputs = each_of (IsGoodOutput shape u) u.outputs (good_output k u n e);
        bools = subst₂ (RisesBelow 0) (sym words) (sym n.is.bools) (bools_rise typed (input_record typed n.node));
        shared = λ t. ap is_broadcasting n.is.kind ∙ g.shared (sym n.is.shared ∙ t);
      }

  alike : (i j : ℕ) (a b : Unit) → slice_get shape.units i ≡ Some a → slice_get shape.units j ≡ Some b → a.node ≡ b.node → IsAlike a b
  alike i j a b e f same =
      let m = unit_of i a e in
      let n = unit_of j b f in
      let one : m.node ≡ n.node = same_Some m.node n.node (sym m.there ∙ (ap (slice_get nodes) same ∙ n.there)) in
      record {
        words = m.is.words ∙ (ap (λ x. record_words typed.structs (input_record typed x)) one ∙ sym n.is.words);
        kind = m.is.kind ∙ (ap (λ (x : NodeAttrs). x.kind) one ∙ sym n.is.kind);
        budgets = m.is.budgets ∙ (ap (λ (x : NodeAttrs). budgets_of x.outputs) one ∙ sym n.is.budgets);
        bools = m.is.bools ∙ (ap (λ x. bool_words typed.structs (input_record typed x)) one ∙ sym n.is.bools);
        shared = m.is.shared ∙ (ap (λ x. shares_input typed x) one ∙ sym n.is.shared);
        outputs =
            forms typed nodes shape.units m.node (node_and_level a) m.node.outputs a.outputs m.is.outputs
            ∙ (ap (λ (x : NodeAttrs). map (λ (from : OutputAttr). (from.budget, record_words typed.structs (output_record typed x from), length (elements_of nodes from))) x.outputs) one
            ∙ sym (forms typed nodes shape.units n.node (node_and_level b) n.node.outputs b.outputs n.is.outputs));
      }

  -- top levels are few
  low_top : (n : ℕ) → top_level nodes n ≤ 31
  low_top n = low (targets nodes n n) (depth_if (slice_get nodes n)) (go (slice_get nodes n) refl)
    where
      go : (o : Option NodeAttrs) → slice_get nodes n ≡ o → depth_if o ≤ 31
      go None e = omega arith
      go (Some a) e = let g = node_good n a e in g.recursion

      low : (b : Bool) (d : ℕ) → d ≤ 31 → cond b d 0 ≤ 31
      low true d le = le
      low false d le = omega arith

  -- nodes of one name and index are one
  names_differ : (i j : ℕ) (n : NodeName) → slice_get (map node_name nodes) i ≡ Some n → slice_get (map node_name nodes) j ≡ Some n → i ≡ j
  names_differ i j n e f = go (slice_get nodes i) (slice_get nodes j) refl refl (sym (slice_get-map node_name nodes i) ∙ e) (sym (slice_get-map node_name nodes j) ∙ f)
    where
      clash : (i j : ℕ) (a b : NodeAttrs) → i < j → slice_get nodes i ≡ Some a → slice_get nodes j ≡ Some b → node_name a ≡ n → node_name b ≡ n → ⊥
      clash i j a b lt p q x y =
          let same : node_name b ≡ node_name a = y ∙ sym x in
          let name : bytes_eq b.name a.name ≡ true = (bytes_eq-Decides b.name a.name).1 (ap (λ (m : NodeName). m.name) same) in
          let index : (a.index == b.index) ≡ true = eq-eqb a.index b.index (ap (λ (m : NodeName). m.index) (sym same)) in
          not_both (is_named b.name b.index a) (and_both (bytes_eq b.name a.name) (a.index == b.index) name index) (no_earlier typed nodes fits.names_differ i j a b lt p q)

      go : (x y : Option NodeAttrs) → slice_get nodes i ≡ x → slice_get nodes j ≡ y → option_map node_name (slice_get nodes i) ≡ Some n → option_map node_name (slice_get nodes j) ≡ Some n → i ≡ j
      go None y p q h k = absurd (let c = sym (ap (option_map node_name) p) ∙ h in cc)
      go (Some a) None p q h k = absurd (let c = sym (ap (option_map node_name) q) ∙ k in cc)
      go (Some a) (Some b) p q h k =
          let x = same_Some (node_name a) n (sym (ap (option_map node_name) p) ∙ h) in
          let y = same_Some (node_name b) n (sym (ap (option_map node_name) q) ∙ k) in
          ⊎_elim (λ lt. absurd (clash i j a b lt p q x y))
          (λ (le : j ≤ i). ⊎_elim (λ lt. absurd (clash j i b a lt q p y x)) (λ (ge : i ≤ j). omega (arith, le, ge)) (cases_lt j i))
          (cases_lt i j)

  pub shape_good : IsGoodShape shape
  shape_good = record {
    few_nodes = let f = few typed nodes fits.few in let e = ap length is.nodes_are in let l = length-map nodes node_name in omega (arith, f, e, l);
    node_names = subst (Each (λ (n : NodeName). IsTrue (is_identifier n.name))) (sym is.nodes_are) (each_map (λ (n : NodeName). IsTrue (is_identifier n.name)) node_name nodes (each_then (IsGoodNode typed) (λ (a : NodeAttrs). IsTrue (is_identifier a.name)) nodes (λ a g. g.name) good.nodes_good));
    nodes_differ = λ i j n e f. names_differ i j n (ap (λ l. slice_get l i) (sym is.nodes_are) ∙ e) (ap (λ l. slice_get l j) (sym is.nodes_are) ∙ f);
    unrolling = record {
      depths = top_levels nodes;
      count = length-map-range_with_len (top_level nodes) 0 (length nodes) ∙ (sym (length-map nodes node_name) ∙ ap length (sym is.nodes_are));
      few = each_of (λ d. d ≤ 31) (top_levels nodes) (λ n d e. let t = top_is nodes n d e in let l = low_top n in omega (arith, t, l));
      units = is.unrolling;
    };
    units = good_unit;
    alike = alike;
    few_buffers = let f = good.few_buffers in let e = ap length is.buffers_are in let l = length-map typed.buffers buffer_name in omega (arith, f, e, l);
    buffer_names = subst (Each (λ name. IsTrue (is_identifier name))) (sym is.buffers_are) good.buffer_names;
    buffers_differ = λ i j name e f. good.buffers_differ i j name (ap (λ l. slice_get l i) (sym is.buffers_are) ∙ e) (ap (λ l. slice_get l j) (sym is.buffers_are) ∙ f);
  }
