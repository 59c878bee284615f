-- The two graphs are good ones.
use Rattle.std.proofs.Common.{◌≡◌, ℕ, length, zero, suc, Bool, true, false, List, [], ◌∷◌, ◌++◌, map, Option, Some, None, refl, sym, ap, subst, ◌∙◌, arith, lit≤, inl, inr}
use Rattle.std.specs.Prelude.{◌≤◌, slice_get, IsTrue, codes}
use Rattle.wg_machine.specs.declared.shape.NodeName.{NodeName}
use Rattle.wg_machine.specs.declared.shape.Shape.{Shape}
use Rattle.wg_machine.specs.declared.shape.Unit.{Unit}
use Rattle.wg_machine.specs.GoodShape.{IsGoodShape, IsGoodUnit, IsAlike, IsGoodElement, IsBetween, form_of}
use Rattle.wg_machine.specs.Unrolling.{IsFirst, depth_of}
use Rattle.wg_counters.specs.Graphs.{bundle_unit, one_output, sheet_unit, sheets_shape, split_unit, splits_shape}

some_is : {A : Type 0} → (a b : A) → Some a ≡ Some b → a ≡ b
some_is a b e = cc

-- the levels of the thread node

record IsLevel (u : Unit) : Type 0 where
  level : ℕ
  depth : ℕ
  entry : Bool
  target : Option ℕ
  is : split_unit level depth entry target ≡ u

level_at : (k : ℕ) (u : Unit) → slice_get splits_shape.units k ≡ Some u → IsLevel u
level_at zero u e = record { level = 2; depth = 1; entry = true; target = Some 1; is = some_is _ _ e }
level_at (suc zero) u e = record { level = 1; depth = 2; entry = false; target = Some 2; is = some_is _ _ e }
level_at (suc (suc zero)) u e = record { level = 0; depth = 3; entry = false; target = None; is = some_is _ _ e }
level_at (suc (suc (suc k))) u e = absurd cc

levels_alike : (a b : Unit) → IsLevel a → IsLevel b → IsAlike a b
levels_alike a b p q =
    record {
      words = sym (ap (λ (u : Unit). u.words) p.is) ∙ ap (λ (u : Unit). u.words) q.is;
      kind = sym (ap (λ (u : Unit). u.kind) p.is) ∙ ap (λ (u : Unit). u.kind) q.is;
      budgets = sym (ap (λ (u : Unit). u.budgets) p.is) ∙ ap (λ (u : Unit). u.budgets) q.is;
      bools = sym (ap (λ (u : Unit). u.bools) p.is) ∙ ap (λ (u : Unit). u.bools) q.is;
      outputs = sym (ap (λ (u : Unit). map form_of u.outputs) p.is) ∙ ap (λ (u : Unit). map form_of u.outputs) q.is;
      shared = sym (ap (λ (u : Unit). u.shared) p.is) ∙ ap (λ (u : Unit). u.shared) q.is;
    }

good_level : (k level depth : ℕ) (entry : Bool) (target : Option ℕ) → depth ≡ depth_of splits_shape.units k → depth ≤ 32 → (IsTrue entry → IsFirst splits_shape k)
    → IsGoodElement splits_shape (split_unit level depth entry target) (record { budget = 0; words = 1; elements = target ∷ [] }) target
    → IsGoodUnit splits_shape k (split_unit level depth entry target)
good_level k level depth entry target d few first element = record {
  depth = d;
  chain = few;
  words = lit≤ tt;
  stride = refl;
  kind = tt;
  entry = first;
  budgets = (record { low = lit≤ tt; high = lit≤ tt }, tt);
  few_outputs = lit≤ tt;
  outputs = (
    record {
      budget = lit≤ tt;
      words = lit≤ tt;
      count = record { low = lit≤ tt; high = lit≤ tt };
      elements = (element, tt);
    },
    tt,
  );
  bools = tt;
  shared = λ h. absurd cc;
}

level_good : (k : ℕ) (u : Unit) → slice_get splits_shape.units k ≡ Some u → IsGoodUnit splits_shape k u
level_good zero u e =
    subst (λ (v : Unit). IsGoodUnit splits_shape 0 v) (some_is _ _ e)
    (good_level 0 2 1 true (Some 1) refl (lit≤ tt) (λ h v lt. absurd (omega arith))
    (record { target = split_unit 1 2 false (Some 2); there = refl; deeper = lit≤ tt; words = refl; place = inl (refl, refl) }))
level_good (suc zero) u e =
    subst (λ (v : Unit). IsGoodUnit splits_shape 1 v) (some_is _ _ e)
    (good_level 1 1 2 false (Some 2) refl (lit≤ tt) (λ h. absurd cc)
    (record { target = split_unit 0 3 false None; there = refl; deeper = lit≤ tt; words = refl; place = inl (refl, refl) }))
level_good (suc (suc zero)) u e =
    subst (λ (v : Unit). IsGoodUnit splits_shape 2 v) (some_is _ _ e)
    (good_level 2 0 3 false None refl (lit≤ tt) (λ h. absurd cc) tt)
level_good (suc (suc (suc k))) u e = absurd cc

one_node : (i j : ℕ) (n : NodeName) → slice_get splits_shape.nodes i ≡ Some n → slice_get splits_shape.nodes j ≡ Some n → i ≡ j
one_node zero zero n e f = refl
one_node zero (suc j) n e f = absurd cc
one_node (suc i) j n e f = absurd cc

pub splits_good : IsGoodShape splits_shape
splits_good = record {
  few_nodes = lit≤ tt;
  node_names = (refl, tt);
  nodes_differ = one_node;
  unrolling = record { depths = 2 ∷ []; count = refl; few = (lit≤ tt, tt); units = refl };
  units = level_good;
  alike = λ i j a b e f g. levels_alike a b (level_at i a e) (level_at j b f);
  few_buffers = lit≤ tt;
  buffer_names = tt;
  buffers_differ = λ i j name e f. absurd cc;
}

-- the broadcasting node and the coalescing one

sheet_good : IsGoodUnit sheets_shape 0 sheet_unit
sheet_good = record {
  depth = refl;
  chain = lit≤ tt;
  words = lit≤ tt;
  stride = refl;
  kind = record {
    grid = record {
      x_fits = record { low = lit≤ tt; high = lit≤ tt };
      y_fits = record { low = lit≤ tt; high = lit≤ tt };
      z_fits = record { low = lit≤ tt; high = lit≤ tt };
      product = lit≤ tt;
    };
    parts_few = record { low = lit≤ tt; high = lit≤ tt };
    inside = lit≤ tt;
  };
  entry = λ h v lt. absurd (omega arith);
  budgets = (record { low = lit≤ tt; high = lit≤ tt }, tt);
  few_outputs = lit≤ tt;
  outputs = (
    record {
      budget = lit≤ tt;
      words = lit≤ tt;
      count = record { low = lit≤ tt; high = lit≤ tt };
      elements = (record { target = bundle_unit; there = refl; deeper = lit≤ tt; words = refl; place = inr ((λ e. absurd cc), bundle_first) }, tt);
    },
    tt,
  );
  bools = tt;
  shared = λ h. refl;
}
  where
    bundle_first : IsFirst sheets_shape 1
    bundle_first zero lt e = absurd cc
    bundle_first (suc v) lt e = absurd (omega arith)

bundle_good : IsGoodUnit sheets_shape 1 bundle_unit
bundle_good = record {
  depth = refl;
  chain = lit≤ tt;
  words = lit≤ tt;
  stride = refl;
  kind = record { low = lit≤ tt; high = lit≤ tt };
  entry = λ h. first;
  budgets = tt;
  few_outputs = lit≤ tt;
  outputs = tt;
  bools = tt;
  shared = λ h. absurd cc;
}
  where
    first : IsFirst sheets_shape 1
    first zero lt e = absurd cc
    first (suc v) lt e = absurd (omega arith)

unit_good : (k : ℕ) (u : Unit) → slice_get sheets_shape.units k ≡ Some u → IsGoodUnit sheets_shape k u
unit_good zero u e = subst (λ (v : Unit). IsGoodUnit sheets_shape 0 v) (some_is _ _ e) sheet_good
unit_good (suc zero) u e = subst (λ (v : Unit). IsGoodUnit sheets_shape 1 v) (some_is _ _ e) bundle_good
unit_good (suc (suc k)) u e = absurd cc

alike_itself : (u : Unit) → IsAlike u u
alike_itself u = record { words = refl; kind = refl; budgets = refl; bools = refl; shared = refl; outputs = refl }

nodes_alike : (i j : ℕ) (a b : Unit) → slice_get sheets_shape.units i ≡ Some a → slice_get sheets_shape.units j ≡ Some b → a.node ≡ b.node → IsAlike a b
nodes_alike zero zero a b e f same = subst (λ (v : Unit). IsAlike a v) (sym (some_is _ _ e) ∙ some_is _ _ f) (alike_itself a)
nodes_alike zero (suc zero) a b e f same =
    let p = ap (λ (u : Unit). u.node) (some_is _ _ e) in
    let q = ap (λ (u : Unit). u.node) (some_is _ _ f) in
    absurd (omega (arith, p, q, same))
nodes_alike (suc zero) zero a b e f same =
    let p = ap (λ (u : Unit). u.node) (some_is _ _ e) in
    let q = ap (λ (u : Unit). u.node) (some_is _ _ f) in
    absurd (omega (arith, p, q, same))
nodes_alike (suc zero) (suc zero) a b e f same = subst (λ (v : Unit). IsAlike a v) (sym (some_is _ _ e) ∙ some_is _ _ f) (alike_itself a)
nodes_alike zero (suc (suc j)) a b e f same = absurd cc
nodes_alike (suc zero) (suc (suc j)) a b e f same = absurd cc
nodes_alike (suc (suc i)) j a b e f same = absurd cc

two_differ : {A : Type 0} (x y : A) → (x ≡ y → ⊥) → (i j : ℕ) (n : A) → slice_get (x ∷ y ∷ []) i ≡ Some n → slice_get (x ∷ y ∷ []) j ≡ Some n → i ≡ j
two_differ x y differ zero zero n e f = refl
two_differ x y differ (suc zero) (suc zero) n e f = refl
two_differ x y differ zero (suc zero) n e f = absurd (differ (some_is _ _ e ∙ sym (some_is _ _ f)))
two_differ x y differ (suc zero) zero n e f = absurd (differ (some_is _ _ f ∙ sym (some_is _ _ e)))
two_differ x y differ zero (suc (suc j)) n e f = absurd cc
two_differ x y differ (suc zero) (suc (suc j)) n e f = absurd cc
two_differ x y differ (suc (suc i)) j n e f = absurd cc

names_differ : codes "Sheet" ≡ codes "Bundle" → ⊥
names_differ e = let h : 5 ≡ 6 = ap (λ (l : List ℕ). length l) e in absurd (omega (arith, h))

buffers_differ : codes "Count" ≡ codes "Rest" → ⊥
buffers_differ e = let h : 5 ≡ 4 = ap (λ (l : List ℕ). length l) e in absurd (omega (arith, h))

abbrev sheet_name : NodeName
sheet_name = record { name = codes "Sheet"; index = 0 }

abbrev bundle_name : NodeName
bundle_name = record { name = codes "Bundle"; index = 0 }

node_names_differ : sheet_name ≡ bundle_name → ⊥
node_names_differ e = names_differ (ap (λ (n : NodeName). n.name) e)

pub sheets_good : IsGoodShape sheets_shape
sheets_good = record {
  few_nodes = lit≤ tt;
  node_names = (refl, (refl, tt));
  nodes_differ = two_differ _ _ node_names_differ;
  unrolling = record { depths = 0 ∷ 0 ∷ []; count = refl; few = (lit≤ tt, (lit≤ tt, tt)); units = refl };
  units = unit_good;
  alike = nodes_alike;
  few_buffers = lit≤ tt;
  buffer_names = (refl, (refl, tt));
  buffers_differ = two_differ _ _ buffers_differ;
}
