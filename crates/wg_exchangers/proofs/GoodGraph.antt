-- The graph is a good one, no unit of it is shared, and the launch fits it.
use Rattle.std.proofs.Common.{◌≡◌, ℕ, length, zero, suc, false, List, [], ◌∷◌, map, Some, refl, sym, ap, subst, ◌∙◌, arith, lit≤}
use Rattle.std.specs.Prelude.{slice_get, codes}
use Rattle.wg_machine.specs.declared.shape.NodeName.{NodeName}
use Rattle.wg_machine.specs.declared.shape.Unit.{Unit}
use Rattle.wg_machine.specs.GoodShape.{IsGoodShape, IsGoodUnit, IsAlike, form_of}
use Rattle.wg_machine.specs.LaunchMeaning.{FitsShape}
use Rattle.wg_machine.specs.Units.{shared_at}
use Rattle.wg_exchangers.specs.Graph.{form_unit, forms_shape, one_launch}

some_is : {A : Type 0} → (a b : A) → Some a ≡ Some b → a ≡ b
some_is a b e = cc

unit_good : (k : ℕ) (u : Unit) → slice_get forms_shape.units k ≡ Some u → IsGoodUnit forms_shape k u
unit_good zero u e =
    subst (λ (v : Unit). IsGoodUnit forms_shape 0 v) (some_is _ _ e)
    (record {
      depth = refl;
      chain = lit≤ tt;
      words = lit≤ tt;
      stride = refl;
      kind = tt;
      entry = λ h v lt. absurd (omega arith);
      budgets = tt;
      few_outputs = lit≤ tt;
      outputs = tt;
      bools = tt;
      shared = λ h. absurd cc;
    })
unit_good (suc k) u e = absurd cc

alike_itself : (u : Unit) → IsAlike u u
alike_itself u = record { words = refl; kind = refl; budgets = refl; bools = refl; shared = refl; outputs = refl }

alike : (i j : ℕ) (a b : Unit) → slice_get forms_shape.units i ≡ Some a → slice_get forms_shape.units j ≡ Some b → a.node ≡ b.node → IsAlike a b
alike zero zero a b e f same = subst (λ (v : Unit). IsAlike a v) (sym (some_is _ _ e) ∙ some_is _ _ f) (alike_itself a)
alike zero (suc j) a b e f same = absurd cc
alike (suc i) j a b e f same = absurd cc

one_node : (i j : ℕ) (n : NodeName) → slice_get forms_shape.nodes i ≡ Some n → slice_get forms_shape.nodes j ≡ Some n → i ≡ j
one_node zero zero n e f = refl
one_node zero (suc j) n e f = absurd cc
one_node (suc i) j n e f = absurd cc

names_differ : codes "Words" ≡ codes "Told" → ⊥
names_differ e = let h : 5 ≡ 4 = ap (λ (l : List ℕ). length l) e in absurd (omega (arith, h))

buffers_differ : (i j : ℕ) (n : List ℕ) → slice_get forms_shape.buffers i ≡ Some n → slice_get forms_shape.buffers j ≡ Some n → i ≡ j
buffers_differ zero zero n e f = refl
buffers_differ (suc zero) (suc zero) n e f = refl
buffers_differ zero (suc zero) n e f = absurd (names_differ (some_is _ _ e ∙ sym (some_is _ _ f)))
buffers_differ (suc zero) zero n e f = absurd (names_differ (some_is _ _ f ∙ sym (some_is _ _ e)))
buffers_differ zero (suc (suc j)) n e f = absurd cc
buffers_differ (suc zero) (suc (suc j)) n e f = absurd cc
buffers_differ (suc (suc i)) j n e f = absurd cc

pub forms_good : IsGoodShape forms_shape
forms_good = record {
  few_nodes = lit≤ tt;
  node_names = (refl, tt);
  nodes_differ = one_node;
  unrolling = record { depths = 0 ∷ []; count = refl; few = (lit≤ tt, tt); units = refl };
  units = unit_good;
  alike = alike;
  few_buffers = lit≤ tt;
  buffer_names = (refl, (refl, tt));
  buffers_differ = buffers_differ;
}

pub forms_unshared : (u : ℕ) → shared_at forms_shape u ≡ false
forms_unshared zero = refl
forms_unshared (suc u) = refl

pub launch_fits : (word : ℕ) → FitsShape forms_shape (one_launch word)
launch_fits word = record {
  unit = lit≤ tt;
  some = lit≤ tt;
  few = lit≤ tt;
  words = (refl, tt);
  grid_some = lit≤ tt;
  grid_few = lit≤ tt;
  group = lit≤ tt;
  grid = refl;
}
