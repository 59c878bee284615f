-- An operation that is none of those on outputs and new records.
use Rattle.std.proofs.Common.{◌≡◌, ℕ, refl, subst}
use Rattle.wg_code.specs.Valid.{Scope, Judged}
use Rattle.wg_code.specs.declared.op.Op.{Op, roll-Op, fold-roll-Op, ind-Op, map-Op}
use Rattle.wg_code.specs.declared.op.Op.TheOpen.{Op-F}
use Rattle.wg_code.specs.declared.op.Op.TheVariants as o
use Rattle.wg_code.specs.Fits.{records_step, records_valid, always}

pub record NotRecords (op : Op) : Type 0 where
  pub not_Valid : (d output element : ℕ) → op ≡ o.Valid d output element → ⊥
  pub not_Request : (handle element amount : ℕ) → op ≡ o.Request handle element amount → ⊥
  pub not_Increment : (output element amount : ℕ) → op ≡ o.Increment output element amount → ⊥
  pub not_RecordGet : (d handle index from to word : ℕ) → op ≡ o.RecordGet d handle index from to word → ⊥
  pub not_RecordPut : (handle index from to word a : ℕ) → op ≡ o.RecordPut handle index from to word a → ⊥
  pub not_Complete : (handle : ℕ) → op ≡ o.Complete handle → ⊥

module _ (k : Scope) where
  abbrev Same : {B : Type 0} → (B → Op) → Op-F B → Type 0
  Same {B} p y = NotRecords (roll-Op (map-Op B Op p y)) → records_step k (map-Op Op Judged (records_valid k) (map-Op B Op p y)) ≡ always

  layer : {B : Type 0} (p : B → Op) (y : Op-F B) → Same p y
  layer p (Op-F.Set d value) not = refl
  layer p (Op-F.Copy d a) not = refl
  layer p (Op-F.Unary form d a) not = refl
  layer p (Op-F.Binary form d a b) not = refl
  layer p (Op-F.LocalGet d from to index) not = refl
  layer p (Op-F.LocalPut from to index a) not = refl
  layer p (Op-F.SharedGet d from to index) not = refl
  layer p (Op-F.SharedPut from to index a) not = refl
  layer p (Op-F.SharedAtomic form d from to index compare value) not = refl
  layer p (Op-F.InputGet d input word) not = refl
  layer p (Op-F.InputPut input word a) not = refl
  layer p (Op-F.InputCount d) not = refl
  layer p (Op-F.Level d) not = refl
  layer p (Op-F.System d which) not = refl
  layer p (Op-F.BufferGet d buffer word) not = refl
  layer p (Op-F.BufferPut buffer word a) not = refl
  layer p (Op-F.BufferAdd buffer word a) not = refl
  layer p (Op-F.BufferAtomic form d buffer word compare value) not = refl
  layer p (Op-F.BufferLength d buffer) not = refl
  layer p (Op-F.Valid d output element) not = absurd (not.not_Valid d output element (o.rolls-Valid d output element))
  layer p (Op-F.Request handle element amount) not = absurd (not.not_Request handle element amount (o.rolls-Request handle element amount))
  layer p (Op-F.Increment output element amount) not = absurd (not.not_Increment output element amount (o.rolls-Increment output element amount))
  layer p (Op-F.RecordGet d handle index from to word) not = absurd (not.not_RecordGet d handle index from to word (o.rolls-RecordGet d handle index from to word))
  layer p (Op-F.RecordPut handle index from to word a) not = absurd (not.not_RecordPut handle index from to word a (o.rolls-RecordPut handle index from to word a))
  layer p (Op-F.Complete handle) not = absurd (not.not_Complete handle (o.rolls-Complete handle))
  layer p (Op-F.If a first second) not = refl
  layer p (Op-F.Loop test a body step) not = refl
  layer p Op-F.Break not = refl
  layer p Op-F.Continue not = refl
  layer p (Op-F.Call function args results) not = refl
  layer p (Op-F.Wide form d a b) not = refl
  layer p (Op-F.Half form d a b) not = refl
  layer p (Op-F.Last d) not = refl

  pub not_records : (op : Op) → NotRecords op → records_valid k op ≡ always
  not_records op = ind-Op (λ z. NotRecords z → records_valid k z ≡ always)
      (λ x y eq. subst (λ l. NotRecords (roll-Op l) → records_valid k (roll-Op l) ≡ always) eq (rw (fold-roll-Op Judged (records_step k) _) (layer (λ b. b.0) y)))
      op
