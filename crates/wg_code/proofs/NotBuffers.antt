-- An operation that is none of those on buffers.
use Rattle.std.proofs.Common.{◌≡◌, ℕ, refl, subst}
use Rattle.wg_code.specs.Valid.{Scope, Judged}
use Rattle.wg_code.specs.declared.op.Op.{Op, roll-Op, fold-roll-Op, ind-Op, map-Op}
use Rattle.wg_code.specs.declared.op.Op.TheOpen.{Op-F}
use Rattle.wg_code.specs.declared.op.Op.TheVariants as o
use Rattle.wg_code.specs.Fits.{buffers_step, buffers_valid, records_step, records_valid}

pub record NotBuffers (op : Op) : Type 0 where
  pub not_BufferGet : (d buffer word : ℕ) → op ≡ o.BufferGet d buffer word → ⊥
  pub not_BufferPut : (buffer word a : ℕ) → op ≡ o.BufferPut buffer word a → ⊥
  pub not_BufferAdd : (buffer word a : ℕ) → op ≡ o.BufferAdd buffer word a → ⊥
  pub not_BufferAtomic : (form d buffer word compare value : ℕ) → op ≡ o.BufferAtomic form d buffer word compare value → ⊥
  pub not_BufferLength : (d buffer : ℕ) → op ≡ o.BufferLength d buffer → ⊥

module _ (k : Scope) where
  abbrev Same : {B : Type 0} → (B → Op) → Op-F B → Type 0
  Same {B} p y = NotBuffers (roll-Op (map-Op B Op p y)) → buffers_step k (map-Op Op Judged (buffers_valid k) (map-Op B Op p y)) ≡ records_step k (map-Op Op Judged (records_valid k) (map-Op B Op p y))

  layer : {B : Type 0} (p : B → Op) (y : Op-F B) → Same p y
  layer p (Op-F.Set d value) not = refl
  layer p (Op-F.Copy d a) not = refl
  layer p (Op-F.Unary form d a) not = refl
  layer p (Op-F.Binary form d a b) not = refl
  layer p (Op-F.LocalGet d from to index) not = refl
  layer p (Op-F.LocalPut from to index a) not = refl
  layer p (Op-F.SharedGet d from to index) not = refl
  layer p (Op-F.SharedPut from to index a) not = refl
  layer p (Op-F.SharedAtomic form d from to index compare value) not = refl
  layer p (Op-F.InputGet d input word) not = refl
  layer p (Op-F.InputPut input word a) not = refl
  layer p (Op-F.InputCount d) not = refl
  layer p (Op-F.Level d) not = refl
  layer p (Op-F.System d which) not = refl
  layer p (Op-F.BufferGet d buffer word) not = absurd (not.not_BufferGet d buffer word (o.rolls-BufferGet d buffer word))
  layer p (Op-F.BufferPut buffer word a) not = absurd (not.not_BufferPut buffer word a (o.rolls-BufferPut buffer word a))
  layer p (Op-F.BufferAdd buffer word a) not = absurd (not.not_BufferAdd buffer word a (o.rolls-BufferAdd buffer word a))
  layer p (Op-F.BufferAtomic form d buffer word compare value) not = absurd (not.not_BufferAtomic form d buffer word compare value (o.rolls-BufferAtomic form d buffer word compare value))
  layer p (Op-F.BufferLength d buffer) not = absurd (not.not_BufferLength d buffer (o.rolls-BufferLength d buffer))
  layer p (Op-F.Valid d output element) not = refl
  layer p (Op-F.Request handle element amount) not = refl
  layer p (Op-F.Increment output element amount) not = refl
  layer p (Op-F.RecordGet d handle index from to word) not = refl
  layer p (Op-F.RecordPut handle index from to word a) not = refl
  layer p (Op-F.Complete handle) not = refl
  layer p (Op-F.If a first second) not = refl
  layer p (Op-F.Loop test a body step) not = refl
  layer p Op-F.Break not = refl
  layer p Op-F.Continue not = refl
  layer p (Op-F.Call function args results) not = refl
  layer p (Op-F.Wide form d a b) not = refl
  layer p (Op-F.Half form d a b) not = refl
  layer p (Op-F.Last d) not = refl

  pub not_buffers : (op : Op) → NotBuffers op → buffers_valid k op ≡ records_valid k op
  not_buffers op = ind-Op (λ z. NotBuffers z → buffers_valid k z ≡ records_valid k z)
      (λ x y eq. subst (λ l. NotBuffers (roll-Op l) → buffers_valid k (roll-Op l) ≡ records_valid k (roll-Op l)) eq (rw (fold-roll-Op Judged (buffers_step k) _, fold-roll-Op Judged (records_step k) _) (layer (λ b. b.0) y)))
      op
