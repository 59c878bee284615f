-- An operation that is none of those of control.
use Rattle.std.proofs.Common.{◌≡◌, ℕ, List, map, refl, subst}
use Rattle.wg_code.specs.Valid.{Scope, Judged, valid_step, is_valid}
use Rattle.wg_code.specs.declared.op.Op.{Op, roll-Op, fold-roll-Op, ind-Op, map-Op}
use Rattle.wg_code.specs.declared.op.Op.TheOpen.{Op-F}
use Rattle.wg_code.specs.declared.op.Op.TheVariants as o
use Rattle.wg_code.specs.Fits.{leaf_step, leaf_valid}

pub record NotControl (op : Op) : Type 0 where
  pub not_If : (a : ℕ) (first second : List Op) → op ≡ o.If a first second → ⊥
  pub not_Loop : (test : List Op) (a : ℕ) (body step : List Op) → op ≡ o.Loop test a body step → ⊥
  pub not_Break : op ≡ o.Break → ⊥
  pub not_Continue : op ≡ o.Continue → ⊥
  pub not_Call : (function : ℕ) (args results : List ℕ) → op ≡ o.Call function args results → ⊥

module _ (k : Scope) where
  abbrev Same : {B : Type 0} → (B → Op) → Op-F B → Type 0
  Same {B} p y = NotControl (roll-Op (map-Op B Op p y)) → valid_step k (map-Op Op Judged (is_valid k) (map-Op B Op p y)) ≡ leaf_step k (map-Op Op Judged (leaf_valid k) (map-Op B Op p y))

  layer : {B : Type 0} (p : B → Op) (y : Op-F B) → Same p y
  layer p (Op-F.Set d value) not = refl
  layer p (Op-F.Copy d a) not = refl
  layer p (Op-F.Unary form d a) not = refl
  layer p (Op-F.Binary form d a b) not = refl
  layer p (Op-F.LocalGet d from to index) not = refl
  layer p (Op-F.LocalPut from to index a) not = refl
  layer p (Op-F.SharedGet d from to index) not = refl
  layer p (Op-F.SharedPut from to index a) not = refl
  layer p (Op-F.SharedAtomic form d from to index compare value) not = refl
  layer p (Op-F.InputGet d input word) not = refl
  layer p (Op-F.InputPut input word a) not = refl
  layer p (Op-F.InputCount d) not = refl
  layer p (Op-F.Level d) not = refl
  layer p (Op-F.System d which) not = refl
  layer p (Op-F.BufferGet d buffer word) not = refl
  layer p (Op-F.BufferPut buffer word a) not = refl
  layer p (Op-F.BufferAdd buffer word a) not = refl
  layer p (Op-F.BufferAtomic form d buffer word compare value) not = refl
  layer p (Op-F.BufferLength d buffer) not = refl
  layer p (Op-F.Valid d output element) not = refl
  layer p (Op-F.Request handle element amount) not = refl
  layer p (Op-F.Increment output element amount) not = refl
  layer p (Op-F.RecordGet d handle index from to word) not = refl
  layer p (Op-F.RecordPut handle index from to word a) not = refl
  layer p (Op-F.Complete handle) not = refl
  layer p (Op-F.If a first second) not = absurd (not.not_If a (map p first) (map p second) (o.rolls-If a (map p first) (map p second)))
  layer p (Op-F.Loop test a body step) not = absurd (not.not_Loop (map p test) a (map p body) (map p step) (o.rolls-Loop (map p test) a (map p body) (map p step)))
  layer p Op-F.Break not = absurd (not.not_Break o.rolls-Break)
  layer p Op-F.Continue not = absurd (not.not_Continue o.rolls-Continue)
  layer p (Op-F.Call function args results) not = absurd (not.not_Call function args results (o.rolls-Call function args results))
  layer p (Op-F.Wide form d a b) not = refl
  layer p (Op-F.Half form d a b) not = refl
  layer p (Op-F.Last d) not = refl

  pub not_control : (op : Op) → NotControl op → is_valid k op ≡ leaf_valid k op
  not_control op = ind-Op (λ z. NotControl z → is_valid k z ≡ leaf_valid k z)
      (λ x y eq. subst (λ l. NotControl (roll-Op l) → is_valid k (roll-Op l) ≡ leaf_valid k (roll-Op l)) eq (rw (fold-roll-Op Judged (valid_step k) _, fold-roll-Op Judged (leaf_step k) _) (layer (λ b. b.0) y)))
      op
