-- The first node that has the name and index of one before it.
use Rattle.std.proofs.Common.{◌≡◌, ℕ, suc, ◌+◌, ◌<◌, Bool, true, false, not, ◌&&◌, ◌||◌, List, [], ◌∷◌, ◌++◌, length, take, drop, get_or, refl, sym, ap, ap₂, ◌∙◌, arith, eq-eqb, ne_eqb, Some, true≢false}
use Rattle.std.specs.List.{list_any, position_from}
use Rattle.std.proofs.lemmas.Bool.{cond-true, cond-false}
use Rattle.std.proofs.lemmas.List.{at_drop_more, take_more, take-append-drop, length-take}
use Rattle.std.proofs.lemmas.Slice.Eq.{bytes_eq-Decides}
use Rattle.wg_typed.specs.declared.typed.Typed.{Typed}
use Rattle.wg_machine.specs.Need.{is_target}
use Rattle.wg_node_attributes.specs.declared.attributes.NodeAttrs.{NodeAttrs}
use Rattle.wg_shapes.specs.Naming.{is_named, node_named}
use Rattle.wg_shapes.specs.Places.{node_place}
use Rattle.wg_shapes.specs.TwoOfOneName.{named_before}
use Rattle.wg_graph_rules.specs.Faults.{first_of}

-- what passes stands first where none before it passes
stands_first : (test : NodeAttrs → Bool) (before : List NodeAttrs) (a : NodeAttrs) (rest : List NodeAttrs) (i : ℕ) → test a ≡ true → is_target (i + length before) (position_from test i (before ++ a ∷ rest)) ≡ not (list_any test before)
stands_first test [] a rest i t = let e : i ≡ i + 0 = omega arith in ap (is_target (i + 0)) (cond-true (test a) (Some i) (position_from test (i + 1) rest) t) ∙ eq-eqb i (i + 0) e
stands_first test (b ∷ before) a rest i t = go (stands_first test before a rest (i + 1) t) (test b) refl
  where
    further : i + suc (length before) ≡ i + 1 + length before
    further = omega arith

    go : is_target (i + 1 + length before) (position_from test (i + 1) (before ++ a ∷ rest)) ≡ not (list_any test before) → (x : Bool) → test b ≡ x → is_target (i + suc (length before)) (position_from test i (b ∷ before ++ a ∷ rest)) ≡ not (list_any test (b ∷ before))
    go later true e =
        ap (is_target (i + suc (length before))) (cond-true (test b) (Some i) (position_from test (i + 1) (before ++ a ∷ rest)) e)
        ∙ (ne_eqb i (i + suc (length before)) (λ same. omega (arith, same)) ∙ ap (λ x. not (x || list_any test before)) (sym e))
    go later false e =
        ap (is_target (i + suc (length before))) (cond-false (test b) (Some i) (position_from test (i + 1) (before ++ a ∷ rest)) e)
        ∙ (ap (λ n. is_target n (position_from test (i + 1) (before ++ a ∷ rest))) further
        ∙ (later ∙ ap (λ x. not (x || list_any test before)) (sym e)))

own_name : (a : NodeAttrs) → is_named a.name a.index a ≡ true
own_name a = ap₂ (λ x y. x && y) ((bytes_eq-Decides a.name a.name).1 refl) (eq-eqb a.index a.index refl)

cut : (nodes : List NodeAttrs) (n : ℕ) (a : NodeAttrs) → n < length nodes → a ≡ get_or nodes n a → drop n nodes ≡ a ∷ drop (n + 1) nodes
cut nodes n a lt is = at_drop_more (λ l. l) nodes n a lt ∙ ap (λ x. x ∷ drop (n + 1) nodes) (sym is)

-- the node at a place is found there where none before it has its name and index
found_there : (nodes : List NodeAttrs) (n : ℕ) (a : NodeAttrs) → n < length nodes → a ≡ get_or nodes n a → is_target n (node_named nodes a.name a.index) ≡ not (list_any (is_named a.name a.index) (take n nodes))
found_there nodes n a lt is =
    let whole : nodes ≡ take n nodes ++ a ∷ drop (n + 1) nodes = sym (take-append-drop n nodes) ∙ ap (λ l. take n nodes ++ l) (cut nodes n a lt is) in
    let size : n ≡ 0 + length (take n nodes) = (let l = length-take n nodes in omega (arith, l, lt)) in
    ap₂ (λ k l. is_target k (position_from (is_named a.name a.index) 0 l)) size whole
    ∙ stands_first (is_named a.name a.index) (take n nodes) a (drop (n + 1) nodes) 0 (own_name a)

-- one more node, which none before it has the name and index of
pub not_repeated : (typed : Typed) (nodes : List NodeAttrs) (n : ℕ) (a : NodeAttrs) → n < length nodes → a ≡ get_or nodes n a → is_target n (node_named nodes a.name a.index) ≡ true
    → named_before typed (take n nodes) (drop n nodes) ≡ named_before typed (take (n + 1) nodes) (drop (n + 1) nodes)
not_repeated typed nodes n a lt is t =
    ap (named_before typed (take n nodes)) (cut nodes n a lt is)
    ∙ (cond-false (list_any (is_named a.name a.index) (take n nodes)) (node_place typed a ∷ named_before typed (take n nodes ++ a ∷ []) (drop (n + 1) nodes)) (named_before typed (take n nodes ++ a ∷ []) (drop (n + 1) nodes)) (not_true (list_any (is_named a.name a.index) (take n nodes)) (sym (found_there nodes n a lt is) ∙ t))
    ∙ ap (λ l. named_before typed l (drop (n + 1) nodes)) (sym (take_more nodes n a lt ∙ ap (λ x. take n nodes ++ x ∷ []) (sym is))))
  where
    not_true : (b : Bool) → not b ≡ true → b ≡ false
    not_true true e = absurd (true≢false (sym e))
    not_true false e = refl

pub repeated : (typed : Typed) (nodes : List NodeAttrs) (n : ℕ) (a : NodeAttrs) → n < length nodes → a ≡ get_or nodes n a → is_target n (node_named nodes a.name a.index) ≡ false
    → first_of (named_before typed (take n nodes) (drop n nodes)) ≡ Some (node_place typed a)
repeated typed nodes n a lt is f =
    ap (λ l. first_of (named_before typed (take n nodes) l)) (cut nodes n a lt is)
    ∙ ap first_of (cond-true (list_any (is_named a.name a.index) (take n nodes)) (node_place typed a ∷ named_before typed (take n nodes ++ a ∷ []) (drop (n + 1) nodes)) (named_before typed (take n nodes ++ a ∷ []) (drop (n + 1) nodes)) (not_false (list_any (is_named a.name a.index) (take n nodes)) (sym (found_there nodes n a lt is) ∙ f)))
  where
    not_false : (b : Bool) → not b ≡ false → b ≡ true
    not_false true e = refl
    not_false false e = absurd (true≢false e)
