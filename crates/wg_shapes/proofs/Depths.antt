-- The depth of a unit, which is that of the longest chain that ends there, is one more than the greatest depth of those that send to it.
use Rattle.std.proofs.Common.{◌≡◌, ◌≢◌, ℕ, zero, suc, ◌+◌, ◌-◌, ◌<◌, ◌≤◌, true, false, max, List, [], ◌∷◌, length, map, refl, sym, ap, subst, ◌∙◌, ◌⊎◌, inl, inr, ⊎_elim, arith, IsTrue, Option, Some, None, slice_get, filter, option_map, eqb-true, eq-eqb, ne_eqb, ◌==◌, true≢false}
use Rattle.std.specs.List.{list_any}
use Rattle.std.proofs.lemmas.Bool.{cases_Bool, cond-true, cond-false}
use Rattle.std.proofs.lemmas.Option.{same_Some, slice_get-map, slice_get-get_or, slice_get_within}
use Rattle.std.proofs.lemmas.List.FromFn.{get_or-map-range_with_len, length-map-range_with_len}
use Rattle.wg_machine.specs.Need.{greatest, is_target}
use Rattle.wg_machine.specs.Unrolling.{unrolled, node_and_level, sends_to, depth_of}
use Rattle.wg_machine.specs.declared.shape.Output.{Output}
use Rattle.wg_machine.specs.declared.shape.Shape.{Shape}
use Rattle.wg_machine.specs.declared.shape.Unit.{Unit}
use Rattle.wg_typed.specs.declared.typed.Typed.{Typed}
use Rattle.wg_node_attributes.specs.declared.attributes.NodeAttrs.{NodeAttrs}
use Rattle.wg_node_attributes.specs.declared.attributes.OutputAttr.{OutputAttr}
use Rattle.wg_shapes.specs.Chain.{Chain, alone, onward, IsLongest}
use Rattle.wg_shapes.specs.Level.{Sends, top_level, top_levels}
use Rattle.wg_shapes.specs.Naming.{elements_of, has_target, targets, targets_of}
use Rattle.wg_shapes.specs.ShapeOf.{IsShapeOf, IsOutputOf, IsUnitAt, arrival, one_lower}
use Rattle.wg_shapes.proofs.Booleans.{found, any_beside}
use Rattle.wg_shapes.proofs.Numbered.{stands, unit_there, one_unit, first_unit}

-- ---- the greatest of some

greatest_most : (v b : ℕ) (units : List Unit) → ((k : ℕ) (u : Unit) → slice_get units k ≡ Some u → IsTrue (sends_to v u) → u.depth ≤ b) → greatest (map (λ (u : Unit). u.depth) (filter (sends_to v) units)) ≤ b
greatest_most v b [] h = omega arith
greatest_most v b (u ∷ units) h = (let rest = greatest_most v b units (λ k w e t. h (suc k) w e t) in ⊎_elim (yes rest) (no rest) (cases_Bool (sends_to v u)))
  where
    yes : greatest (map (λ (u : Unit). u.depth) (filter (sends_to v) units)) ≤ b → sends_to v u ≡ true → greatest (map (λ (u : Unit). u.depth) (filter (sends_to v) (u ∷ units))) ≤ b
    yes rest t =
        let e : greatest (map (λ (u : Unit). u.depth) (filter (sends_to v) (u ∷ units))) ≡ max u.depth (greatest (map (λ (u : Unit). u.depth) (filter (sends_to v) units))) =
        ap (λ l. greatest (map (λ (u : Unit). u.depth) l)) (cond-true (sends_to v u) (u ∷ filter (sends_to v) units) (filter (sends_to v) units) t) in
        let f = h zero u refl t in
        omega (arith, e, f, rest)

    no : greatest (map (λ (u : Unit). u.depth) (filter (sends_to v) units)) ≤ b → sends_to v u ≡ false → greatest (map (λ (u : Unit). u.depth) (filter (sends_to v) (u ∷ units))) ≤ b
    no rest t =
        let e : greatest (map (λ (u : Unit). u.depth) (filter (sends_to v) (u ∷ units))) ≡ greatest (map (λ (u : Unit). u.depth) (filter (sends_to v) units)) =
        ap (λ l. greatest (map (λ (u : Unit). u.depth) l)) (cond-false (sends_to v u) (u ∷ filter (sends_to v) units) (filter (sends_to v) units) t) in
        omega (arith, e, rest)

greatest_least : (v : ℕ) (units : List Unit) (k : ℕ) (u : Unit) → slice_get units k ≡ Some u → IsTrue (sends_to v u) → u.depth ≤ greatest (map (λ (u : Unit). u.depth) (filter (sends_to v) units))
greatest_least v [] k u e t = absurd cc
greatest_least v (x ∷ units) zero u e t =
    let s : x.depth ≡ u.depth = ap (λ (u : Unit). u.depth) (same_Some x u e) in
    let tx : sends_to v x ≡ true = ap (sends_to v) (same_Some x u e) ∙ t in
    let g = ap (λ l. greatest (map (λ (u : Unit). u.depth) l)) (cond-true (sends_to v x) (x ∷ filter (sends_to v) units) (filter (sends_to v) units) tx) in
    omega (arith, s, g)
greatest_least v (x ∷ units) (suc k) u e t = (let rest = greatest_least v units k u e t in ⊎_elim (yes rest) (no rest) (cases_Bool (sends_to v x)))
  where
    yes : u.depth ≤ greatest (map (λ (u : Unit). u.depth) (filter (sends_to v) units)) → sends_to v x ≡ true → u.depth ≤ greatest (map (λ (u : Unit). u.depth) (filter (sends_to v) (x ∷ units)))
    yes rest tx = let g = ap (λ l. greatest (map (λ (u : Unit). u.depth) l)) (cond-true (sends_to v x) (x ∷ filter (sends_to v) units) (filter (sends_to v) units) tx) in omega (arith, g, rest)

    no : u.depth ≤ greatest (map (λ (u : Unit). u.depth) (filter (sends_to v) units)) → sends_to v x ≡ false → u.depth ≤ greatest (map (λ (u : Unit). u.depth) (filter (sends_to v) (x ∷ units)))
    no rest tx = let g = ap (λ l. greatest (map (λ (u : Unit). u.depth) l)) (cond-false (sends_to v x) (x ∷ filter (sends_to v) units) (filter (sends_to v) units) tx) in omega (arith, g, rest)

-- ---- the last step of a chain

pub record LastStep {A : Type 0} (R : A → A → Type 0) (n : ℕ) (y : A) : Type 0 where
  pub shorter : ℕ
  pub from : A
  pub is : n ≡ suc shorter
  pub chain : Chain R shorter from
  pub step : R from y

pub last_step : {A : Type 0} (R : A → A → Type 0) (n : ℕ) (y : A) → Chain R n y → (n ≡ 1) ⊎ LastStep R n y
last_step R n y alone = inl refl
last_step R n y (onward {n = m} {x = x} chain step) = inr (record { shorter = m; from = x; is = refl; chain = chain; step = step })

pub at_least_one : {A : Type 0} (R : A → A → Type 0) (n : ℕ) (y : A) → Chain R n y → 1 ≤ n
at_least_one R n y c = ⊎_elim (λ (e : n ≡ 1). omega (arith, e)) (λ (s : LastStep R n y). let i = s.is in omega (arith, i)) (last_step R n y c)

-- ---- where an element's record arrives

pub record Arrives (nodes : List NodeAttrs) (n level : ℕ) (e : Option ℕ) (p : ℕ × ℕ) : Type 0 where
  pub is : e ≡ Some p.0
  pub place : ((p.0 ≡ n) × (p.1 + 1 ≡ level)) ⊎ ((p.0 ≢ n) × (p.1 ≡ top_level nodes p.0))

pub arrives : (nodes : List NodeAttrs) (n level : ℕ) (e : Option ℕ) (p : ℕ × ℕ) → arrival nodes n level e ≡ Some p → Arrives nodes n level e p
arrives nodes n level None p h = absurd cc
arrives nodes n level (Some m) p h = ⊎_elim own other (cases_Bool (m == n))
  where
    lower : (level : ℕ) → one_lower n level ≡ Some p → (p.0 ≡ n) × (p.1 + 1 ≡ level)
    lower zero e = absurd cc
    lower (suc l) e = let q = same_Some (n, l) p e in let b : l ≡ p.1 = ap (λ (q : ℕ × ℕ). q.1) q in (ap (λ (q : ℕ × ℕ). q.0) (sym q), omega (arith, b))

    own : (m == n) ≡ true → Arrives nodes n level (Some m) p
    own t =
        let same = eqb-true m n t in
        let l = lower level (sym (cond-true (m == n) (one_lower n level) (Some (m, top_level nodes m)) t) ∙ h) in
        record { is = ap (λ k. Some k) (same ∙ sym l.0); place = inl l }

    other : (m == n) ≡ false → Arrives nodes n level (Some m) p
    other f =
        let q = same_Some (m, top_level nodes m) p (sym (cond-false (m == n) (one_lower n level) (Some (m, top_level nodes m)) f) ∙ h) in
        let first : m ≡ p.0 = ap (λ (q : ℕ × ℕ). q.0) q in
        record {
          is = ap (λ k. Some k) first;
          place = inr ((λ e. true≢false (sym (eq-eqb m n (first ∙ e)) ∙ f)), sym (ap (λ (q : ℕ × ℕ). q.1) q) ∙ ap (top_level nodes) first);
        }

arrives_back : (nodes : List NodeAttrs) (n level m k : ℕ) → ((m ≡ n) × (k + 1 ≡ level)) ⊎ ((m ≢ n) × (k ≡ top_level nodes m)) → arrival nodes n level (Some m) ≡ Some (m, k)
arrives_back nodes n level m k (inl own) =
    cond-true (m == n) (one_lower n level) (Some (m, top_level nodes m)) (eq-eqb m n own.0)
    ∙ ap (one_lower n) (let e = own.1 in let s : level ≡ suc k = omega (arith, e) in s) ∙ ap (λ j. Some (j, k)) (sym own.0)
arrives_back nodes n level m k (inr other) = cond-false (m == n) (one_lower n level) (Some (m, top_level nodes m)) (ne_eqb m n other.0) ∙ ap (λ j. Some (m, j)) (sym other.1)

-- ---- units that send to units

pub at_unit : (typed : Typed) (nodes : List NodeAttrs) (shape : Shape) → IsShapeOf typed nodes shape → (k : ℕ) (u : Unit) → slice_get shape.units k ≡ Some u → slice_get (unrolled 0 (top_levels nodes)) k ≡ Some (node_and_level u)
at_unit typed nodes shape is k u e = ap (λ l. slice_get l k) (sym is.unrolling) ∙ slice_get-map node_and_level shape.units k ∙ ap (option_map node_and_level) e

-- the top level of a node that there is
pub top_at : (nodes : List NodeAttrs) (n : ℕ) → n < length nodes → slice_get (top_levels nodes) n ≡ Some (top_level nodes n)
top_at nodes n lt =
    slice_get-get_or (top_levels nodes) n 0 (let l = length-map-range_with_len (top_level nodes) 0 (length nodes) in omega (arith, l, lt))
    ∙ ap (λ d. Some d) (get_or-map-range_with_len (top_level nodes) 0 (length nodes) n n 0 lt (omega arith))

pub top_is : (nodes : List NodeAttrs) (n d : ℕ) → slice_get (top_levels nodes) n ≡ Some d → top_level nodes n ≡ d
top_is nodes n d e =
    let w = slice_get_within (top_levels nodes) n d e in
    let l = length-map-range_with_len (top_level nodes) 0 (length nodes) in
    same_Some (top_level nodes n) d (sym (top_at nodes n (omega (arith, w, l))) ∙ e)

pub within_top : (nodes : List NodeAttrs) (t : ℕ) (p : ℕ × ℕ) → slice_get (unrolled 0 (top_levels nodes)) t ≡ Some p → p.1 ≤ top_level nodes p.0
within_top nodes t p e =
    let s = stands (top_levels nodes) 0 t p e in
    let n = s.node in let w = s.within in
    let number : s.number ≡ p.0 = omega (arith, n) in
    let d : top_level nodes p.0 ≡ s.depth = top_is nodes p.0 s.depth (ap (slice_get (top_levels nodes)) (sym number) ∙ s.declared) in
    omega (arith, w, d)

-- some unit of the shape is that of a node at a level
pub record IsAUnit (shape : Shape) (p : ℕ × ℕ) : Type 0 where
  pub number : ℕ
  pub unit : Unit
  pub there : slice_get shape.units number ≡ Some unit
  pub is : node_and_level unit ≡ p

pub a_unit : (typed : Typed) (nodes : List NodeAttrs) (shape : Shape) → IsShapeOf typed nodes shape → (a : NodeAttrs) (p : ℕ × ℕ) → slice_get nodes p.0 ≡ Some a → p.1 ≤ top_level nodes p.0 → IsAUnit shape p
a_unit typed nodes shape is a p e le =
    let declared = top_at nodes p.0 (slice_get_within nodes p.0 a e) in
    let t = first_unit (top_levels nodes) p.0 + (top_level nodes p.0 - p.1) in
    let there = unit_there (top_levels nodes) 0 p.0 (top_level nodes p.0) p.1 declared le in
    let zero_more : 0 + p.0 ≡ p.0 = omega arith in
    go t (slice_get shape.units t) refl (sym (slice_get-map node_and_level shape.units t) ∙ ap (λ l. slice_get l t) is.unrolling ∙ there ∙ ap (λ k. Some (k, p.1)) zero_more)
  where
    go : (t : ℕ) (o : Option Unit) → slice_get shape.units t ≡ o → option_map node_and_level (slice_get shape.units t) ≡ Some p → IsAUnit shape p
    go t None e h = absurd (let g = sym (ap (option_map node_and_level) e) ∙ h in cc)
    go t (Some u) e h = record { number = t; unit = u; there = e; is = same_Some (node_and_level u) p (sym (ap (option_map node_and_level) e) ∙ h) }

module _ (typed : Typed) (nodes : List NodeAttrs) (shape : Shape) (is : IsShapeOf typed nodes shape) where
  -- what a unit that sends to another sends along
  pub sends_on : (i k : ℕ) (u v : Unit) → slice_get shape.units i ≡ Some u → slice_get shape.units k ≡ Some v → IsTrue (sends_to k u) → Sends nodes (node_and_level u) (node_and_level v)
  sends_on i k u v e f t =
      let n = is.units_are i u e in
      let one = found (λ (from : OutputAttr) (o : Output). IsOutputOf typed nodes shape.units n.node (node_and_level u) from o) (λ (o : Output). list_any (is_target k) o.elements) n.node.outputs u.outputs n.is.outputs t in
      let two = found (λ (x : Option ℕ) (y : Option ℕ). IsUnitAt shape.units (arrival nodes u.node u.level x) y) (is_target k) (elements_of nodes one.first) one.second.elements one.related.elements one.passes in
      let here = reaches k v f two.first two.second two.related two.passes in
      let arrived = arrives nodes u.node u.level two.first (node_and_level v) here in
      record {
        level = within_top nodes i (node_and_level u) (at_unit typed nodes shape is i u e);
        target =
            ap (λ o. targets_of nodes o v.node) n.there
            ∙ one.among (λ (o : OutputAttr). list_any (is_target v.node) (elements_of nodes o)) (two.among (is_target v.node) (ap (is_target v.node) arrived.is ∙ eq-eqb v.node v.node refl));
        arrives = arrived.place;
      }
    where
      reaches : (k : ℕ) (v : Unit) → slice_get shape.units k ≡ Some v → (x y : Option ℕ) → IsUnitAt shape.units (arrival nodes u.node u.level x) y → IsTrue (is_target k y) → arrival nodes u.node u.level x ≡ Some (node_and_level v)
      reaches k v f x None at t = absurd (true≢false (sym t))
      reaches k v f x (Some j) at t = go (arrival nodes u.node u.level x) at
        where
          go : (o : Option (ℕ × ℕ)) → IsUnitAt shape.units o (Some j) → o ≡ Some (node_and_level v)
          go None at = absurd at
          go (Some p) at = sym at ∙ ap (slice_get (map node_and_level shape.units)) (eqb-true j k t) ∙ slice_get-map node_and_level shape.units k ∙ ap (option_map node_and_level) f

  sends_back : (i k : ℕ) (u v : Unit) → slice_get shape.units i ≡ Some u → slice_get shape.units k ≡ Some v → Sends nodes (node_and_level u) (node_and_level v) → IsTrue (sends_to k u)
  sends_back i k u v e f s =
      let n = is.units_are i u e in
      let any : IsTrue (has_target nodes n.node v.node) = sym (ap (λ o. targets_of nodes o v.node) n.there) ∙ s.target in
      any_beside (λ (from : OutputAttr) (o : Output). IsOutputOf typed nodes shape.units n.node (node_and_level u) from o)
      (λ (o : OutputAttr). list_any (is_target v.node) (elements_of nodes o)) (λ (o : Output). list_any (is_target k) o.elements) n.node.outputs u.outputs n.is.outputs
      (λ from o r t. any_beside (λ (x : Option ℕ) (y : Option ℕ). IsUnitAt shape.units (arrival nodes u.node u.level x) y) (is_target v.node) (is_target k) (elements_of nodes from) o.elements r.elements hits t)
      any
    where
      hits : (x y : Option ℕ) → IsUnitAt shape.units (arrival nodes u.node u.level x) y → IsTrue (is_target v.node x) → IsTrue (is_target k y)
      hits None y at t = absurd (true≢false (sym t))
      hits (Some m) y at t = go y (subst (λ o. IsUnitAt shape.units o y) (ap (λ x. arrival nodes u.node u.level (Some x)) (eqb-true m v.node t) ∙ arrives_back nodes u.node u.level v.node v.level s.arrives) at)
        where
          go : (y : Option ℕ) → IsUnitAt shape.units (Some (node_and_level v)) y → IsTrue (is_target k y)
          go None at = absurd at
          go (Some j) at =
              let one = one_unit (top_levels nodes) 0 j k (node_and_level v) (ap (λ l. slice_get l j) (sym is.unrolling) ∙ at) (at_unit typed nodes shape is k v f) in
              eq-eqb j k one

  -- where a chain comes from a pair, the pair is a unit
  pub depth_is : (k : ℕ) (v : Unit) → slice_get shape.units k ≡ Some v → v.depth ≡ depth_of shape.units k
  depth_is k v f =
      let n = is.units_are k v f in
      let long : IsLongest (Sends nodes) v.depth (node_and_level v) = n.is.depth in
      let least = at_least_one (Sends nodes) v.depth (node_and_level v) long.chain in
      let above : greatest (map (λ (u : Unit). u.depth) (filter (sends_to k) shape.units)) ≤ v.depth - 1 =
      greatest_most k (v.depth - 1) shape.units (λ i u e t. (let m = is.units_are i u e in let c = m.is.depth in let l = long.longest (suc u.depth) (onward c.chain (sends_on i k u v e f t)) in omega (arith, l))) in
      let below : v.depth ≤ depth_of shape.units k = ⊎_elim (λ (e : v.depth ≡ 1). omega (arith, e)) last (last_step (Sends nodes) v.depth (node_and_level v) long.chain) in
      omega (arith, above, below, least)
    where
      node_of : (p : ℕ × ℕ) (m : ℕ) → IsTrue (targets nodes p.0 m) → (a : NodeAttrs) × (slice_get nodes p.0 ≡ Some a)
      node_of p m t = go (slice_get nodes p.0) refl t
        where
          go : (o : Option NodeAttrs) → slice_get nodes p.0 ≡ o → IsTrue (targets_of nodes o m) → (a : NodeAttrs) × (slice_get nodes p.0 ≡ Some a)
          go None e t = absurd (true≢false (sym t))
          go (Some a) e t = (a, e)

      last : LastStep (Sends nodes) v.depth (node_and_level v) → v.depth ≤ depth_of shape.units k
      last s =
          let from = node_of s.from v.node s.step.target in
          let w = a_unit typed nodes shape is from.0 s.from from.1 s.step.level in
          let m = is.units_are w.number w.unit w.there in
          let longest = m.is.depth in
          let d = longest.longest s.shorter (subst (Chain (Sends nodes) s.shorter) (sym w.is) s.chain) in
          let t = sends_back w.number k w.unit v w.there f (subst (λ p. Sends nodes p (node_and_level v)) (sym w.is) s.step) in
          let g = greatest_least k shape.units w.number w.unit w.there t in
          let i = s.is in
          omega (arith, d, g, i)
