-- Operations that hold no others and call no function are leaves.
use Rattle.std.proofs.Common.{◌≡◌, ℕ, false, List, map, refl, subst}
use Rattle.wg_code.specs.Flow.{Callees}
use Rattle.wg_code.specs.Lane.{Around}
use Rattle.wg_code.specs.OpMeaning.{op_step, op_does}
use Rattle.wg_code.specs.declared.op.Op.{Op, roll-Op, fold-roll-Op, ind-Op, map-Op}
use Rattle.wg_code.specs.declared.op.Op.TheOpen.{Op-F}
use Rattle.wg_code.specs.declared.op.Op.TheVariants as o
use Rattle.wg_leaves.specs.Leaves.{leaf_step, leaf_does}
use Rattle.wg_control.proofs.Rest.{Act}

pub record NotControl (op : Op) : Type 0 where
  pub not_If : (a : ℕ) (first second : List Op) → op ≡ o.If a first second → ⊥
  pub not_Loop : (test : List Op) (a : ℕ) (body step : List Op) → op ≡ o.Loop test a body step → ⊥
  pub not_Break : op ≡ o.Break → ⊥
  pub not_Continue : op ≡ o.Continue → ⊥
  pub not_Call : (function : ℕ) (args results : List ℕ) → op ≡ o.Call function args results → ⊥

module _ (A : Around) (C : Callees) where
  abbrev Leaf : {B : Type 0} → (B → Op) → Op-F B → Type 0
  Leaf {B} p y = NotControl (roll-Op (map-Op B Op p y)) → op_step false A C (map-Op Op Act (op_does false A C) (map-Op B Op p y)) ≡ leaf_step A (map-Op Op Act (leaf_does A) (map-Op B Op p y))

  leaf_layer : {B : Type 0} (p : B → Op) (y : Op-F B) → Leaf p y
  leaf_layer p (Op-F.Set d value) not = refl
  leaf_layer p (Op-F.Copy d a) not = refl
  leaf_layer p (Op-F.Unary form d a) not = refl
  leaf_layer p (Op-F.Binary form d a b) not = refl
  leaf_layer p (Op-F.LocalGet d from to index) not = refl
  leaf_layer p (Op-F.LocalPut from to index a) not = refl
  leaf_layer p (Op-F.SharedGet d from to index) not = refl
  leaf_layer p (Op-F.SharedPut from to index a) not = refl
  leaf_layer p (Op-F.SharedAtomic form d from to index compare value) not = refl
  leaf_layer p (Op-F.InputGet d input word) not = refl
  leaf_layer p (Op-F.InputPut input word a) not = refl
  leaf_layer p (Op-F.InputCount d) not = refl
  leaf_layer p (Op-F.Level d) not = refl
  leaf_layer p (Op-F.System d which) not = refl
  leaf_layer p (Op-F.BufferGet d buffer word) not = refl
  leaf_layer p (Op-F.BufferPut buffer word a) not = refl
  leaf_layer p (Op-F.BufferAdd buffer word a) not = refl
  leaf_layer p (Op-F.BufferAtomic form d buffer word compare value) not = refl
  leaf_layer p (Op-F.BufferLength d buffer) not = refl
  leaf_layer p (Op-F.Valid d output element) not = refl
  leaf_layer p (Op-F.Request handle element amount) not = refl
  leaf_layer p (Op-F.Increment output element amount) not = refl
  leaf_layer p (Op-F.RecordGet d handle index from to word) not = refl
  leaf_layer p (Op-F.RecordPut handle index from to word a) not = refl
  leaf_layer p (Op-F.Complete handle) not = refl
  leaf_layer p (Op-F.If a first second) not = absurd (not.not_If a (map p first) (map p second) (o.rolls-If a (map p first) (map p second)))
  leaf_layer p (Op-F.Loop test a body step) not = absurd (not.not_Loop (map p test) a (map p body) (map p step) (o.rolls-Loop (map p test) a (map p body) (map p step)))
  leaf_layer p Op-F.Break not = absurd (not.not_Break o.rolls-Break)
  leaf_layer p Op-F.Continue not = absurd (not.not_Continue o.rolls-Continue)
  leaf_layer p (Op-F.Call function args results) not = absurd (not.not_Call function args results (o.rolls-Call function args results))
  leaf_layer p (Op-F.Wide form d a b) not = refl
  leaf_layer p (Op-F.Half form d a b) not = refl
  leaf_layer p (Op-F.Last d) not = refl

  pub op_is_leaf : (op : Op) → NotControl op → op_does false A C op ≡ leaf_does A op
  op_is_leaf op = ind-Op (λ z. NotControl z → op_does false A C z ≡ leaf_does A z)
      (λ x y eq. subst (λ l. NotControl (roll-Op l) → op_does false A C (roll-Op l) ≡ leaf_does A (roll-Op l)) eq (rw (fold-roll-Op Act (op_step false A C) _, fold-roll-Op Act (leaf_step A) _) (leaf_layer (λ b. b.0) y)))
      op
