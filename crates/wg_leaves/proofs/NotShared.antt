-- An operation that is none of those on groupshared words and input records.
use Rattle.std.proofs.Common.{◌≡◌, ℕ, refl, subst}
use Rattle.wg_code.specs.Lane.{Around}
use Rattle.wg_code.specs.declared.op.Op.{Op, roll-Op, fold-roll-Op, ind-Op, map-Op}
use Rattle.wg_code.specs.declared.op.Op.TheOpen.{Op-F}
use Rattle.wg_code.specs.declared.op.Op.TheVariants as o
use Rattle.wg_leaves.specs.Leaves.{outer_step, outer_does, records_step, records_does}
use Rattle.wg_leaves.proofs.Leaf.{Act}

pub record NotShared (op : Op) : Type 0 where
  pub not_SharedGet : (d from to index : ℕ) → op ≡ o.SharedGet d from to index → ⊥
  pub not_SharedPut : (from to index a : ℕ) → op ≡ o.SharedPut from to index a → ⊥
  pub not_SharedAtomic : (form d from to index compare value : ℕ) → op ≡ o.SharedAtomic form d from to index compare value → ⊥
  pub not_InputGet : (d input word : ℕ) → op ≡ o.InputGet d input word → ⊥
  pub not_InputPut : (input word a : ℕ) → op ≡ o.InputPut input word a → ⊥

module _ (A : Around) where
  abbrev Same : {B : Type 0} → (B → Op) → Op-F B → Type 0
  Same {B} p y = NotShared (roll-Op (map-Op B Op p y)) → outer_step A (map-Op Op Act (outer_does A) (map-Op B Op p y)) ≡ records_step A (map-Op Op Act (records_does A) (map-Op B Op p y))

  layer : {B : Type 0} (p : B → Op) (y : Op-F B) → Same p y
  layer p (Op-F.Set d value) not = refl
  layer p (Op-F.Copy d a) not = refl
  layer p (Op-F.Unary form d a) not = refl
  layer p (Op-F.Binary form d a b) not = refl
  layer p (Op-F.LocalGet d from to index) not = refl
  layer p (Op-F.LocalPut from to index a) not = refl
  layer p (Op-F.SharedGet d from to index) not = absurd (not.not_SharedGet d from to index (o.rolls-SharedGet d from to index))
  layer p (Op-F.SharedPut from to index a) not = absurd (not.not_SharedPut from to index a (o.rolls-SharedPut from to index a))
  layer p (Op-F.SharedAtomic form d from to index compare value) not = absurd (not.not_SharedAtomic form d from to index compare value (o.rolls-SharedAtomic form d from to index compare value))
  layer p (Op-F.InputGet d input word) not = absurd (not.not_InputGet d input word (o.rolls-InputGet d input word))
  layer p (Op-F.InputPut input word a) not = absurd (not.not_InputPut input word a (o.rolls-InputPut input word a))
  layer p (Op-F.InputCount d) not = refl
  layer p (Op-F.Level d) not = refl
  layer p (Op-F.System d which) not = refl
  layer p (Op-F.BufferGet d buffer word) not = refl
  layer p (Op-F.BufferPut buffer word a) not = refl
  layer p (Op-F.BufferAdd buffer word a) not = refl
  layer p (Op-F.BufferAtomic form d buffer word compare value) not = refl
  layer p (Op-F.BufferLength d buffer) not = refl
  layer p (Op-F.Valid d output element) not = refl
  layer p (Op-F.Request handle element amount) not = refl
  layer p (Op-F.Increment output element amount) not = refl
  layer p (Op-F.RecordGet d handle index from to word) not = refl
  layer p (Op-F.RecordPut handle index from to word a) not = refl
  layer p (Op-F.Complete handle) not = refl
  layer p (Op-F.If a first second) not = refl
  layer p (Op-F.Loop test a body step) not = refl
  layer p Op-F.Break not = refl
  layer p Op-F.Continue not = refl
  layer p (Op-F.Call function args results) not = refl
  layer p (Op-F.Wide form d a b) not = refl
  layer p (Op-F.Half form d a b) not = refl
  layer p (Op-F.Last d) not = refl

  pub not_shared : (op : Op) → NotShared op → outer_does A op ≡ records_does A op
  not_shared op = ind-Op (λ z. NotShared z → outer_does A z ≡ records_does A z)
      (λ x y eq. subst (λ l. NotShared (roll-Op l) → outer_does A (roll-Op l) ≡ records_does A (roll-Op l)) eq (rw (fold-roll-Op Act (outer_step A) _, fold-roll-Op Act (records_step A) _) (layer (λ b. b.0) y)))
      op
