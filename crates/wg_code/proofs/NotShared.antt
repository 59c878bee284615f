-- An operation that is none of those on groupshared words.
use Rattle.std.proofs.Common.{◌≡◌, ℕ, refl, subst}
use Rattle.wg_code.specs.Valid.{Scope, Judged}
use Rattle.wg_code.specs.declared.op.Op.{Op, roll-Op, fold-roll-Op, ind-Op, map-Op}
use Rattle.wg_code.specs.declared.op.Op.TheOpen.{Op-F}
use Rattle.wg_code.specs.declared.op.Op.TheVariants as o
use Rattle.wg_code.specs.Fits.{outer_step, outer_valid, buffers_step, buffers_valid}

pub record NotShared (op : Op) : Type 0 where
  pub not_SharedGet : (d from to index : ℕ) → op ≡ o.SharedGet d from to index → ⊥
  pub not_SharedPut : (from to index a : ℕ) → op ≡ o.SharedPut from to index a → ⊥
  pub not_SharedAtomic : (form d from to index compare value : ℕ) → op ≡ o.SharedAtomic form d from to index compare value → ⊥

module _ (k : Scope) where
  abbrev Same : {B : Type 0} → (B → Op) → Op-F B → Type 0
  Same {B} p y = NotShared (roll-Op (map-Op B Op p y)) → outer_step k (map-Op Op Judged (outer_valid k) (map-Op B Op p y)) ≡ buffers_step k (map-Op Op Judged (buffers_valid k) (map-Op B Op p y))

  layer : {B : Type 0} (p : B → Op) (y : Op-F B) → Same p y
  layer p (Op-F.Set d value) not = refl
  layer p (Op-F.Copy d a) not = refl
  layer p (Op-F.Unary form d a) not = refl
  layer p (Op-F.Binary form d a b) not = refl
  layer p (Op-F.LocalGet d from to index) not = refl
  layer p (Op-F.LocalPut from to index a) not = refl
  layer p (Op-F.SharedGet d from to index) not = absurd (not.not_SharedGet d from to index (o.rolls-SharedGet d from to index))
  layer p (Op-F.SharedPut from to index a) not = absurd (not.not_SharedPut from to index a (o.rolls-SharedPut from to index a))
  layer p (Op-F.SharedAtomic form d from to index compare value) not = absurd (not.not_SharedAtomic form d from to index compare value (o.rolls-SharedAtomic form d from to index compare value))
  layer p (Op-F.InputGet d input word) not = refl
  layer p (Op-F.InputPut input word a) not = refl
  layer p (Op-F.InputCount d) not = refl
  layer p (Op-F.Level d) not = refl
  layer p (Op-F.System d which) not = refl
  layer p (Op-F.BufferGet d buffer word) not = refl
  layer p (Op-F.BufferPut buffer word a) not = refl
  layer p (Op-F.BufferAdd buffer word a) not = refl
  layer p (Op-F.BufferAtomic form d buffer word compare value) not = refl
  layer p (Op-F.BufferLength d buffer) not = refl
  layer p (Op-F.Valid d output element) not = refl
  layer p (Op-F.Request handle element amount) not = refl
  layer p (Op-F.Increment output element amount) not = refl
  layer p (Op-F.RecordGet d handle index from to word) not = refl
  layer p (Op-F.RecordPut handle index from to word a) not = refl
  layer p (Op-F.Complete handle) not = refl
  layer p (Op-F.If a first second) not = refl
  layer p (Op-F.Loop test a body step) not = refl
  layer p Op-F.Break not = refl
  layer p Op-F.Continue not = refl
  layer p (Op-F.Call function args results) not = refl
  layer p (Op-F.Wide form d a b) not = refl
  layer p (Op-F.Half form d a b) not = refl
  layer p (Op-F.Last d) not = refl

  pub not_shared : (op : Op) → NotShared op → outer_valid k op ≡ buffers_valid k op
  not_shared op = ind-Op (λ z. NotShared z → outer_valid k z ≡ buffers_valid k z)
      (λ x y eq. subst (λ l. NotShared (roll-Op l) → outer_valid k (roll-Op l) ≡ buffers_valid k (roll-Op l)) eq (rw (fold-roll-Op Judged (outer_step k) _, fold-roll-Op Judged (buffers_step k) _) (layer (λ b. b.0) y)))
      op
