-- Units that are made one after another.
use Rattle.std.proofs.Common.{◌≡◌, ℕ, zero, suc, ◌+◌, ◌<◌, ◌≤◌, Bool, true, false, cond, List, [], ◌∷◌, ◌++◌, length, map, take, drop, get_or, refl, sym, ap, subst, subst₂, ◌∙◌, arith, append_assoc, append-nil, Option, Some, None, slice_get}
use Rattle.std.specs.List.{AllZip, position_from, range_with_len}
use Rattle.std.proofs.lemmas.List.{at_drop_more, take_more}
use Rattle.std.proofs.lemmas.Option.{slice_get-get_or, get_or_from_slice_get}
use Rattle.wg_words.specs.Each.{Each}
use Rattle.wg_machine.specs.Unrolling.{levels, node_and_level, unrolled}
use Rattle.wg_machine.specs.declared.shape.Output.{Output}
use Rattle.wg_machine.specs.declared.shape.Unit.{Unit}
use Rattle.wg_typed.specs.declared.typed.Typed.{Typed}
use Rattle.wg_node_attributes.specs.declared.attributes.NodeAttrs.{NodeAttrs}
use Rattle.wg_node_attributes.specs.declared.attributes.OutputAttr.{OutputAttr}
use Rattle.wg_shapes.specs.Level.{top_level, top_levels}
use Rattle.wg_shapes.specs.ShapeOf.{arrival, IsOutputOf, IsUnitAt, IsUnitOfNode}
use Rattle.wg_shapes.proofs.Booleans.{each_at}
use Rattle.wg_shapes.proofs.Depths.{top_at}
use Rattle.wg_shapes.specs.Naming.{elements_of, is_named, node_named}
use Rattle.wg_units.specs.Numbers.{IsNodeBelow, IsPlaceOf}
use Rattle.wg_graph.specs.Ground.{AreAtPlaces, IsRightUnit}

map_push : (f : Unit → ℕ × ℕ) (xs : List Unit) (y : Unit) → map f (xs ++ y ∷ []) ≡ map f xs ++ f y ∷ []
map_push f [] y = refl
map_push f (x ∷ xs) y = ap (λ l. f x ∷ l) (map_push f xs y)

each_push : {A : Type 0} (P : A → Type 0) (xs : List A) (y : A) → Each P xs → P y → Each P (xs ++ y ∷ [])
each_push P [] y all p = (p, tt)
each_push P (x ∷ xs) y all p = (all.0, each_push P xs y all.1 p)

-- ---- the levels of one node

-- the levels that are left
abbrev pub left_levels : ℕ → ℕ → List (ℕ × ℕ)
left_levels n zero = []
left_levels n (suc level) = levels n level

pub record Levelled (typed : Typed) (nodes : List NodeAttrs) (n : ℕ) (old : List Unit) (left : ℕ) (units : List Unit) : Type 0 where
  pub within : left ≤ top_level nodes n + 1
  pub places : map node_and_level units ++ left_levels n left ≡ map node_and_level old ++ levels n (top_level nodes n)
  pub right : Each (IsRightUnit typed nodes) old → Each (IsRightUnit typed nodes) units

pub no_levels : (typed : Typed) (nodes : List NodeAttrs) (n left : ℕ) (old : List Unit) → left ≡ top_level nodes n + 1 → Levelled typed nodes n old left old
no_levels typed nodes n left old e =
    let s : left ≡ suc (top_level nodes n) = omega (arith, e) in
    record { within = omega (arith, e); places = ap (λ k. map node_and_level old ++ left_levels n k) s; right = λ all. all }

next_level : (n left : ℕ) → left_levels n (suc left) ≡ (n, left) ∷ left_levels n left
next_level n zero = refl
next_level n (suc left) = refl

pub more_levels : (typed : Typed) (nodes : List NodeAttrs) (n left below : ℕ) (old units new : List Unit) (u : Unit) → Levelled typed nodes n old left units → left ≡ below + 1 → node_and_level u ≡ (n, below) → IsRightUnit typed nodes u → new ≡ units ++ u ∷ [] → Levelled typed nodes n old below new
more_levels typed nodes n left below old units new u h e place right is = record {
  within = (let w = h.within in omega (arith, w, e));
  places =
      ap (λ l. map node_and_level l ++ left_levels n below) is
      ∙ (ap (λ l. l ++ left_levels n below) (map_push node_and_level units u ∙ ap (λ p. map node_and_level units ++ p ∷ []) place)
      ∙ (append_assoc (map node_and_level units) ((n, below) ∷ []) (left_levels n below)
      ∙ (ap (λ l. map node_and_level units ++ l) (sym (next_level n below))
      ∙ ((let s : suc below ≡ left = omega (arith, e) in ap (λ k. map node_and_level units ++ left_levels n k) s) ∙ h.places))));
  right = λ all. subst (Each (IsRightUnit typed nodes)) (sym is) (each_push (IsRightUnit typed nodes) units u (h.right all) right);
}

pub all_levels : (typed : Typed) (nodes : List NodeAttrs) (n left : ℕ) (old units : List Unit) → Levelled typed nodes n old left units → left ≡ 0 → map node_and_level units ≡ map node_and_level old ++ levels n (top_level nodes n)
all_levels typed nodes n left old units h e = sym (append-nil (map node_and_level units)) ∙ (ap (λ k. map node_and_level units ++ left_levels n k) (sym e) ∙ h.places)

-- ---- all nodes

pub record Unrolled (typed : Typed) (nodes : List NodeAttrs) (n : ℕ) (units : List Unit) : Type 0 where
  pub places : map node_and_level units ++ unrolled n (drop n (top_levels nodes)) ≡ unrolled 0 (top_levels nodes)
  pub right : Each (IsRightUnit typed nodes) units

pub no_units : (typed : Typed) (nodes : List NodeAttrs) (units : List Unit) → units ≡ [] → Unrolled typed nodes 0 units
no_units typed nodes units e = record { places = ap (λ l. map node_and_level l ++ unrolled 0 (top_levels nodes)) e; right = subst (Each (IsRightUnit typed nodes)) (sym e) tt }

cut_tops : (nodes : List NodeAttrs) (tops : List ℕ) (n d : ℕ) → n < length tops → slice_get tops n ≡ Some d → drop n tops ≡ d ∷ drop (n + 1) tops
cut_tops nodes tops n d lt e = at_drop_more (λ l. l) tops n d lt ∙ ap (λ x. x ∷ drop (n + 1) tops) (same (get_or tops n d) (sym (slice_get-get_or tops n d lt) ∙ e))
  where
    same : (x : ℕ) → Some x ≡ Some d → x ≡ d
    same x e = cc

pub more_units : (typed : Typed) (nodes : List NodeAttrs) (n : ℕ) (units new : List Unit) → Unrolled typed nodes n units → n < length nodes → n < length (top_levels nodes) → map node_and_level new ≡ map node_and_level units ++ levels n (top_level nodes n)
    → (Each (IsRightUnit typed nodes) units → Each (IsRightUnit typed nodes) new) → Unrolled typed nodes (n + 1) new
more_units typed nodes n units new h lt below is right = record {
  places =
      ap (λ l. l ++ unrolled (n + 1) (drop (n + 1) (top_levels nodes))) is
      ∙ (append_assoc (map node_and_level units) (levels n (top_level nodes n)) (unrolled (n + 1) (drop (n + 1) (top_levels nodes)))
      ∙ (ap (λ l. map node_and_level units ++ unrolled n l) (sym (cut_tops nodes (top_levels nodes) n (top_level nodes n) below (top_at nodes n lt))) ∙ h.places));
  right = right h.right;
}

pub all_units : (typed : Typed) (nodes : List NodeAttrs) (n : ℕ) (units : List Unit) → drop n (top_levels nodes) ≡ [] → Unrolled typed nodes n units → map node_and_level units ≡ unrolled 0 (top_levels nodes)
all_units typed nodes n units e h = sym (append-nil (map node_and_level units)) ∙ (ap (λ l. map node_and_level units ++ unrolled n l) (sym e) ∙ h.places)

-- ---- outputs of a unit

-- a place among all is one among units that stand so
at_unit : (nodes : List NodeAttrs) (units : List Unit) → AreAtPlaces nodes units → (p : Option (ℕ × ℕ)) (t : Option ℕ) → IsPlaceOf (unrolled 0 (top_levels nodes)) p t → IsUnitAt units p t
at_unit nodes units at None None h = tt
at_unit nodes units at None (Some t) h = h
at_unit nodes units at (Some p) None h = h
at_unit nodes units at (Some p) (Some t) h = ap (λ l. slice_get l t) at ∙ h

pub all_at_units : (nodes : List NodeAttrs) (units : List Unit) (n level : ℕ) → AreAtPlaces nodes units → (es ts : List (Option ℕ)) → AllZip (λ (e : Option ℕ) (t : Option ℕ). IsPlaceOf (unrolled 0 (top_levels nodes)) (arrival nodes n level e) t) es ts
    → AllZip (λ (e : Option ℕ) (t : Option ℕ). IsUnitAt units (arrival nodes n level e) t) es ts
all_at_units nodes units n level at [] [] all = tt
all_at_units nodes units n level at [] (t ∷ ts) all = absurd all
all_at_units nodes units n level at (e ∷ es) [] all = absurd all
all_at_units nodes units n level at (e ∷ es) (t ∷ ts) all = (at_unit nodes units at (arrival nodes n level e) t all.0, all_at_units nodes units n level at es ts all.1)

pub zip_push : {A B : Type 0} (R : A → B → Type 0) (xs : List A) (ys : List B) (x : A) (y : B) → AllZip R xs ys → R x y → AllZip R (xs ++ x ∷ []) (ys ++ y ∷ [])
zip_push R [] [] x y all r = (r, tt)
zip_push R [] (b ∷ ys) x y all r = absurd all
zip_push R (a ∷ xs) [] x y all r = absurd all
zip_push R (a ∷ xs) (b ∷ ys) x y all r = (all.0, zip_push R xs ys x y all.1 r)

-- the first outputs of a unit
abbrev pub FirstOutputs : Typed → List NodeAttrs → ℕ → ℕ → ℕ → List Output → Type 0
FirstOutputs typed nodes n level k all = (a : NodeAttrs) (units : List Unit) → slice_get nodes n ≡ Some a → AreAtPlaces nodes units → AllZip (λ (o : OutputAttr) (sent : Output). IsOutputOf typed nodes units a (n, level) o sent) (take k a.outputs) all

pub more_outputs : (typed : Typed) (nodes : List NodeAttrs) (n level k : ℕ) (all new : List Output) (sent : Output) → FirstOutputs typed nodes n level k all → ((a : NodeAttrs) → slice_get nodes n ≡ Some a → k < length a.outputs)
    → ((a : NodeAttrs) (o : OutputAttr) (units : List Unit) → slice_get nodes n ≡ Some a → slice_get a.outputs k ≡ Some o → AreAtPlaces nodes units → IsOutputOf typed nodes units a (n, level) o sent)
    → new ≡ all ++ sent ∷ [] → FirstOutputs typed nodes n level (k + 1) new
more_outputs typed nodes n level k all new sent h below one is a units e at = go (slice_get a.outputs k) refl
  where
    lt : k < length a.outputs
    lt = below a e

    go : (o : Option OutputAttr) → slice_get a.outputs k ≡ o → AllZip (λ (o : OutputAttr) (sent : Output). IsOutputOf typed nodes units a (n, level) o sent) (take (k + 1) a.outputs) new
    go (Some o) f =
        subst₂ (AllZip (λ (o : OutputAttr) (sent : Output). IsOutputOf typed nodes units a (n, level) o sent))
        (sym (take_more a.outputs k o lt ∙ ap (λ x. take k a.outputs ++ x ∷ []) (same (get_or a.outputs k o) o (sym (slice_get-get_or a.outputs k o lt) ∙ f)))) (sym is)
        (zip_push (λ (o : OutputAttr) (sent : Output). IsOutputOf typed nodes units a (n, level) o sent) (take k a.outputs) all o sent (h a units e at) (one a o units e f at))
      where
        same : (x y : OutputAttr) → Some x ≡ Some y → x ≡ y
        same x y e = cc
    go None f = absurd (out a.outputs k lt f)
      where
        out : (xs : List OutputAttr) (k : ℕ) → k < length xs → slice_get xs k ≡ None → ⊥
        out [] k lt f = omega (arith, lt)
        out (x ∷ xs) zero lt f = cc
        out (x ∷ xs) (suc k) lt f = out xs k (omega (arith, lt)) f

pub node_is : (nodes : List NodeAttrs) (n : ℕ) (x a : NodeAttrs) → n < length nodes → x ≡ get_or nodes n x → slice_get nodes n ≡ Some a → x ≡ a
node_is nodes n x a lt is e = is ∙ same (get_or nodes n x) (sym (slice_get-get_or nodes n x lt) ∙ e)
  where
    same : (y : NodeAttrs) → Some y ≡ Some a → y ≡ a
    same y e = cc

take_all : (xs : List OutputAttr) (k : ℕ) → length xs ≤ k → take k xs ≡ xs
take_all [] zero le = refl
take_all [] (suc k) le = refl
take_all (x ∷ xs) zero le = absurd (omega (arith, le))
take_all (x ∷ xs) (suc k) le = ap (λ l. x ∷ l) (take_all xs k (omega (arith, le)))

pub all_outputs : (typed : Typed) (nodes : List NodeAttrs) (n level k : ℕ) (all : List Output) → FirstOutputs typed nodes n level k all → (a : NodeAttrs) (units : List Unit) → slice_get nodes n ≡ Some a → AreAtPlaces nodes units → length a.outputs ≤ k
    → AllZip (λ (o : OutputAttr) (sent : Output). IsOutputOf typed nodes units a (n, level) o sent) a.outputs all
all_outputs typed nodes n level k all h a units e at le = subst (λ os. AllZip (λ (o : OutputAttr) (sent : Output). IsOutputOf typed nodes units a (n, level) o sent) os all) (take_all a.outputs k le) (h a units e at)

pub drop_all : (xs : List ℕ) (k : ℕ) → length xs ≤ k → drop k xs ≡ []
drop_all [] zero le = refl
drop_all [] (suc k) le = refl
drop_all (x ∷ xs) zero le = absurd (omega (arith, le))
drop_all (x ∷ xs) (suc k) le = drop_all xs k (omega (arith, le))

pub right_at : (typed : Typed) (nodes : List NodeAttrs) (units : List Unit) → AreAtPlaces nodes units → Each (IsRightUnit typed nodes) units → (k : ℕ) (u : Unit) → slice_get units k ≡ Some u → IsUnitOfNode typed nodes units u
right_at typed nodes units at each k u e = (each_at (IsRightUnit typed nodes) units k u each e) units at

pub item_is : (xs ys : List OutputAttr) (k : ℕ) (r o : OutputAttr) → xs ≡ ys → slice_get ys k ≡ Some o → r ≡ get_or xs k r → r ≡ o
item_is xs ys k r o e f is = is ∙ (ap (λ l. get_or l k r) e ∙ get_or_from_slice_get ys k o r f)

-- nodes that are found are nodes of the graph
found_below : (test : NodeAttrs → Bool) (nodes : List NodeAttrs) (i count : ℕ) → i + length nodes ≤ count → IsNodeBelow count (position_from test i nodes)
found_below test [] i count le = tt
found_below test (a ∷ nodes) i count le = go (test a) (found_below test nodes (i + 1) count (omega (arith, le)))
  where
    go : (b : Bool) → IsNodeBelow count (position_from test (i + 1) nodes) → IsNodeBelow count (cond b (Some i) (position_from test (i + 1) nodes))
    go true later = omega (arith, le)
    go false later = later

pub elements_below : (nodes : List NodeAttrs) (o : OutputAttr) → Each (IsNodeBelow (length nodes)) (elements_of nodes o)
elements_below nodes o = all o.index o.elements
  where
    all : (at n : ℕ) → Each (IsNodeBelow (length nodes)) (map (node_named nodes o.name) (range_with_len at n))
    all at zero = tt
    all at (suc n) = (found_below (is_named o.name at) nodes 0 (length nodes) (omega arith), all (at + 1) n)
