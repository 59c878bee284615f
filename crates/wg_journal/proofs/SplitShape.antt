-- The shape of the tests, one node at three levels, is a good one.
use Rattle.std.proofs.Common.{◌≡◌, ℕ, zero, suc, Bool, true, false, List, [], ◌∷◌, ◌++◌, map, Some, refl, sym, ap, subst, ◌∙◌, arith, lit≤}
use Rattle.std.specs.Prelude.{slice_get, IsTrue, codes}
use Rattle.wg_machine.specs.declared.shape.Kind.TheVariants.{Thread}
use Rattle.wg_machine.specs.declared.shape.Shape.{Shape}
use Rattle.wg_machine.specs.declared.shape.Unit.{Unit}
use Rattle.wg_machine.specs.declared.shape.NodeName.{NodeName}
use Rattle.wg_machine.specs.GoodShape.{IsGoodShape, IsGoodUnit, IsAlike, form_of}
use Rattle.wg_machine.specs.Unrolling.{IsFirst, depth_of}
use Rattle.wg_journal.proofs.FieldLemmas.{some_is}

abbrev pub split_unit : ℕ → Bool → Unit
split_unit level entry = record { node = 0; level = level; depth = 1; words = 1; stride = 4; kind = Thread; entry = entry; budgets = []; outputs = []; bools = []; shared = false }

abbrev pub split_shape : Shape
split_shape = record {
  nodes = (record { name = codes "Split"; index = 0 }) ∷ [];
  units = split_unit 2 true ∷ split_unit 1 false ∷ split_unit 0 false ∷ [];
  buffers = [];
}

record IsPlain (u : Unit) : Type 0 where
  level : ℕ
  entry : Bool
  is : split_unit level entry ≡ u

plain : (k : ℕ) (u : Unit) → slice_get split_shape.units k ≡ Some u → IsPlain u
plain zero u e = record { level = 2; entry = true; is = some_is _ _ e }
plain (suc zero) u e = record { level = 1; entry = false; is = some_is _ _ e }
plain (suc (suc zero)) u e = record { level = 0; entry = false; is = some_is _ _ e }
plain (suc (suc (suc k))) u e = absurd cc

alike : (a b : Unit) → IsPlain a → IsPlain b → IsAlike a b
alike a b p q =
    record {
      words = sym (ap (λ (u : Unit). u.words) p.is) ∙ ap (λ (u : Unit). u.words) q.is;
      kind = sym (ap (λ (u : Unit). u.kind) p.is) ∙ ap (λ (u : Unit). u.kind) q.is;
      budgets = sym (ap (λ (u : Unit). u.budgets) p.is) ∙ ap (λ (u : Unit). u.budgets) q.is;
      bools = sym (ap (λ (u : Unit). u.bools) p.is) ∙ ap (λ (u : Unit). u.bools) q.is;
      outputs = sym (ap (λ (u : Unit). map form_of u.outputs) p.is) ∙ ap (λ (u : Unit). map form_of u.outputs) q.is;
      shared = sym (ap (λ (u : Unit). u.shared) p.is) ∙ ap (λ (u : Unit). u.shared) q.is;
    }

good_at : (k level : ℕ) (entry : Bool) → (IsTrue entry → IsFirst split_shape k) → 1 ≡ depth_of split_shape.units k → IsGoodUnit split_shape k (split_unit level entry)
good_at k level entry first d = record {
  depth = d;
  chain = lit≤ tt;
  words = lit≤ tt;
  stride = refl;
  kind = tt;
  entry = first;
  budgets = tt;
  few_outputs = lit≤ tt;
  outputs = tt;
  bools = tt;
  shared = λ h. absurd cc;
}

unit_good : (k : ℕ) (u : Unit) → slice_get split_shape.units k ≡ Some u → IsGoodUnit split_shape k u
unit_good zero u e = subst (λ (v : Unit). IsGoodUnit split_shape 0 v) (some_is _ _ e) (good_at 0 2 true (λ h v lt. absurd (omega arith)) refl)
unit_good (suc zero) u e = subst (λ (v : Unit). IsGoodUnit split_shape 1 v) (some_is _ _ e) (good_at 1 1 false (λ h. absurd cc) refl)
unit_good (suc (suc zero)) u e = subst (λ (v : Unit). IsGoodUnit split_shape 2 v) (some_is _ _ e) (good_at 2 0 false (λ h. absurd cc) refl)
unit_good (suc (suc (suc k))) u e = absurd cc

one_node : (i j : ℕ) (n : NodeName) → slice_get split_shape.nodes i ≡ Some n → slice_get split_shape.nodes j ≡ Some n → i ≡ j
one_node zero zero n e f = refl
one_node zero (suc j) n e f = absurd cc
one_node (suc i) j n e f = absurd cc

pub good_split : IsGoodShape split_shape
good_split = record {
  few_nodes = lit≤ tt;
  node_names = (refl, tt);
  nodes_differ = one_node;
  unrolling = record { depths = 2 ∷ []; count = refl; few = (lit≤ tt, tt); units = refl };
  units = unit_good;
  alike = λ i j a b e f g. alike a b (plain i a e) (plain j b f);
  few_buffers = lit≤ tt;
  buffer_names = tt;
  buffers_differ = λ i j name e f. absurd cc;
}

abbrev made : List NodeName → List Unit → List (List ℕ) → Shape
made nodes units buffers = record { nodes = nodes; units = units; buffers = buffers }

pub is_good : (name : List ℕ) (nodes0 nodes : List NodeName) (units0 units1 units2 units : List Unit) (buffers : List (List ℕ)) (u v w : Unit) → name ≡ codes "Split" → nodes0 ≡ [] → nodes ≡ nodes0 ++ (record { name = name; index = 0 }) ∷ []
    → units0 ≡ [] → u ≡ split_unit 2 true → units1 ≡ units0 ++ u ∷ [] → v ≡ split_unit 1 false → units2 ≡ units1 ++ v ∷ [] → w ≡ split_unit 0 false → units ≡ units2 ++ w ∷ [] → buffers ≡ []
    → IsGoodShape (record { nodes = nodes; units = units; buffers = buffers })
is_good name nodes0 nodes units0 units1 units2 units buffers u v w n a b c p d q e r f g =
    let ns : nodes ≡ split_shape.nodes = b ∙ (ap (λ (l : List NodeName). l ++ (record { name = name; index = 0 }) ∷ []) a ∙ ap (λ (l : List ℕ). (record { name = l; index = 0 }) ∷ []) n) in
    let one : units1 ≡ split_unit 2 true ∷ [] = d ∙ (ap (λ (l : List Unit). l ++ u ∷ []) c ∙ ap (λ (x : Unit). x ∷ []) p) in
    let two : units2 ≡ split_unit 2 true ∷ split_unit 1 false ∷ [] = e ∙ (ap (λ (l : List Unit). l ++ v ∷ []) one ∙ ap (λ (x : Unit). split_unit 2 true ∷ x ∷ []) q) in
    let us : units ≡ split_shape.units = f ∙ (ap (λ (l : List Unit). l ++ w ∷ []) two ∙ ap (λ (x : Unit). split_unit 2 true ∷ split_unit 1 false ∷ x ∷ []) r) in
    let s : made nodes units buffers ≡ split_shape =
    ap (λ (l : List NodeName). made l units buffers) ns ∙ (ap (λ (l : List Unit). made split_shape.nodes l buffers) us ∙ ap (λ (l : List (List ℕ)). made split_shape.nodes split_shape.units l) g) in
    subst IsGoodShape (sym s) good_split
