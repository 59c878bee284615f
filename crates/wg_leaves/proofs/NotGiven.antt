-- An operation that is none of those that read what stays the same.
use Rattle.std.proofs.Common.{◌≡◌, ℕ, refl, subst}
use Rattle.wg_state.specs.Turns.{pure}
use Rattle.wg_code.specs.Lane.{Around, Through}
use Rattle.wg_code.specs.declared.op.Op.{Op, roll-Op, fold-roll-Op, ind-Op, map-Op}
use Rattle.wg_code.specs.declared.op.Op.TheOpen.{Op-F}
use Rattle.wg_code.specs.declared.op.Op.TheVariants as o
use Rattle.wg_leaves.specs.Leaves.{given_step, given_does}
use Rattle.wg_leaves.proofs.Leaf.{Act}

pub record NotGiven (op : Op) : Type 0 where
  pub not_Level : (d : ℕ) → op ≡ o.Level d → ⊥
  pub not_System : (d which : ℕ) → op ≡ o.System d which → ⊥
  pub not_Last : (d : ℕ) → op ≡ o.Last d → ⊥
  pub not_Valid : (d output element : ℕ) → op ≡ o.Valid d output element → ⊥

module _ (A : Around) where
  abbrev Same : {B : Type 0} → (B → Op) → Op-F B → Type 0
  Same {B} p y = NotGiven (roll-Op (map-Op B Op p y)) → given_step A (map-Op Op Act (given_does A) (map-Op B Op p y)) ≡ pure Through

  layer : {B : Type 0} (p : B → Op) (y : Op-F B) → Same p y
  layer p (Op-F.Set d value) not = refl
  layer p (Op-F.Copy d a) not = refl
  layer p (Op-F.Unary form d a) not = refl
  layer p (Op-F.Binary form d a b) not = refl
  layer p (Op-F.LocalGet d from to index) not = refl
  layer p (Op-F.LocalPut from to index a) not = refl
  layer p (Op-F.SharedGet d from to index) not = refl
  layer p (Op-F.SharedPut from to index a) not = refl
  layer p (Op-F.SharedAtomic form d from to index compare value) not = refl
  layer p (Op-F.InputGet d input word) not = refl
  layer p (Op-F.InputPut input word a) not = refl
  layer p (Op-F.InputCount d) not = refl
  layer p (Op-F.Level d) not = absurd (not.not_Level d (o.rolls-Level d))
  layer p (Op-F.System d which) not = absurd (not.not_System d which (o.rolls-System d which))
  layer p (Op-F.BufferGet d buffer word) not = refl
  layer p (Op-F.BufferPut buffer word a) not = refl
  layer p (Op-F.BufferAdd buffer word a) not = refl
  layer p (Op-F.BufferAtomic form d buffer word compare value) not = refl
  layer p (Op-F.BufferLength d buffer) not = refl
  layer p (Op-F.Valid d output element) not = absurd (not.not_Valid d output element (o.rolls-Valid d output element))
  layer p (Op-F.Request handle element amount) not = refl
  layer p (Op-F.Increment output element amount) not = refl
  layer p (Op-F.RecordGet d handle index from to word) not = refl
  layer p (Op-F.RecordPut handle index from to word a) not = refl
  layer p (Op-F.Complete handle) not = refl
  layer p (Op-F.If a first second) not = refl
  layer p (Op-F.Loop test a body step) not = refl
  layer p Op-F.Break not = refl
  layer p Op-F.Continue not = refl
  layer p (Op-F.Call function args results) not = refl
  layer p (Op-F.Wide form d a b) not = refl
  layer p (Op-F.Half form d a b) not = refl
  layer p (Op-F.Last d) not = absurd (not.not_Last d (o.rolls-Last d))

  pub not_given : (op : Op) → NotGiven op → given_does A op ≡ pure Through
  not_given op = ind-Op (λ z. NotGiven z → given_does A z ≡ pure Through)
      (λ x y eq. subst (λ l. NotGiven (roll-Op l) → given_does A (roll-Op l) ≡ pure Through) eq (rw (fold-roll-Op Act (given_step A) _) (layer (λ b. b.0) y)))
      op
