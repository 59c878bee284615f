-- What it says that nodes are few and that their names differ.
use Rattle.std.proofs.Common.{◌≡◌, ℕ, zero, suc, ◌+◌, ◌<◌, ◌≤◌, Bool, true, false, cond, List, [], ◌∷◌, ◌++◌, length, refl, sym, ap, subst, ◌∙◌, arith, IsFalse, Option, Some, None, slice_get, append_assoc}
use Rattle.std.specs.List.{list_any}
use Rattle.std.proofs.lemmas.Option.{same_Some}
use Rattle.wg_typed.specs.declared.typed.Typed.{Typed}
use Rattle.wg_node_attributes.specs.declared.attributes.NodeAttrs.{NodeAttrs}
use Rattle.wg_shapes.specs.Naming.{is_named}
use Rattle.wg_shapes.specs.Places.{node_place}
use Rattle.wg_shapes.specs.TooManyNodes.{too_many_nodes, place_if}
use Rattle.wg_shapes.specs.TwoOfOneName.{two_of_one_name, named_before}
use Rattle.wg_shapes.proofs.Booleans.{neither_first, neither_second}

-- ---- few nodes

pub few : (typed : Typed) (nodes : List NodeAttrs) → too_many_nodes typed nodes ≡ [] → length nodes ≤ 256
few typed nodes e = go (slice_get nodes 256) refl
  where
    past : {A : Type 0} (xs : List A) (k : ℕ) → slice_get xs k ≡ None → length xs ≤ k
    past [] k e = omega arith
    past (x ∷ xs) zero e = absurd cc
    past (x ∷ xs) (suc k) e = let h = past xs k e in omega (arith, h)

    go : (o : Option NodeAttrs) → slice_get nodes 256 ≡ o → length nodes ≤ 256
    go None is = past nodes 256 is
    go (Some a) is = absurd (let h = sym (ap (place_if typed) is) ∙ e in cc)

-- ---- names that differ

cond_none : {A : Type 0} (b : Bool) (x : A) (xs ys : List A) → cond b (x ∷ xs) ys ≡ [] → IsFalse b
cond_none true x xs ys e = absurd cc
cond_none false x xs ys e = refl

cond_rest : {A : Type 0} (b : Bool) (x : A) (ys : List A) → cond b (x ∷ ys) ys ≡ [] → ys ≡ []
cond_rest true x ys e = absurd cc
cond_rest false x ys e = e

pub none_at : {A : Type 0} (f : A → Bool) (xs : List A) (k : ℕ) (x : A) → IsFalse (list_any f xs) → slice_get xs k ≡ Some x → IsFalse (f x)
none_at f [] k x none e = absurd cc
none_at f (y ∷ xs) zero x none e = ap f (sym (same_Some y x e)) ∙ neither_first (f y) (list_any f xs) none
none_at f (y ∷ xs) (suc k) x none e = none_at f xs k x (neither_second (f y) (list_any f xs) none) e

in_front : (before rest : List NodeAttrs) (k : ℕ) (x : NodeAttrs) → slice_get before k ≡ Some x → slice_get (before ++ rest) k ≡ Some x
in_front [] rest k x e = absurd cc
in_front (y ∷ before) rest zero x e = e
in_front (y ∷ before) rest (suc k) x e = in_front before rest k x e

-- a node whose name no node before it has
no_name_before : (typed : Typed) (before rest : List NodeAttrs) → named_before typed before rest ≡ [] → (i j : ℕ) (a b : NodeAttrs) → i < length before + j → slice_get (before ++ rest) i ≡ Some a → slice_get rest j ≡ Some b → IsFalse (is_named b.name b.index a)
no_name_before typed before [] none i j a b lt e f = absurd cc
no_name_before typed before (x ∷ rest) none i zero a b lt e f =
    subst (λ (y : NodeAttrs). IsFalse (is_named y.name y.index a)) (same_Some x b f)
    (none_at (is_named x.name x.index) before i a
    (cond_none (list_any (is_named x.name x.index) before) (node_place typed x) (named_before typed (before ++ x ∷ []) rest) (named_before typed (before ++ x ∷ []) rest) none)
    (front before (x ∷ rest) i a (omega (arith, lt)) e))
  where
    front : (before rest : List NodeAttrs) (i : ℕ) (a : NodeAttrs) → i < length before → slice_get (before ++ rest) i ≡ Some a → slice_get before i ≡ Some a
    front [] rest i a lt e = absurd (omega (arith, lt))
    front (y ∷ before) rest zero a lt e = e
    front (y ∷ before) rest (suc i) a lt e = front before rest i a (omega (arith, lt)) e
no_name_before typed before (x ∷ rest) none i (suc j) a b lt e f =
    no_name_before typed (before ++ x ∷ []) rest
    (cond_rest (list_any (is_named x.name x.index) before) (node_place typed x) (named_before typed (before ++ x ∷ []) rest) none)
    i j a b (let l = longer before x in omega (arith, lt, l)) (ap (λ l. slice_get l i) (append_assoc before (x ∷ []) rest) ∙ e) f
  where
    longer : (before : List NodeAttrs) (x : NodeAttrs) → length (before ++ x ∷ []) ≡ length before + 1
    longer [] x = refl
    longer (y ∷ before) x = let h = longer before x in omega (arith, h)

pub no_earlier : (typed : Typed) (nodes : List NodeAttrs) → two_of_one_name typed nodes ≡ [] → (i j : ℕ) (a b : NodeAttrs) → i < j → slice_get nodes i ≡ Some a → slice_get nodes j ≡ Some b → IsFalse (is_named b.name b.index a)
no_earlier typed nodes none i j a b lt e f = no_name_before typed [] nodes none i j a b (omega (arith, lt)) e f
