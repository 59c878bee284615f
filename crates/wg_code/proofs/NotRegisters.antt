-- An operation that is none of those on registers, input records and what stays the same.
use Rattle.std.proofs.Common.{◌≡◌, ℕ, refl, subst}
use Rattle.wg_code.specs.Valid.{Scope, Judged}
use Rattle.wg_code.specs.declared.op.Op.{Op, roll-Op, fold-roll-Op, ind-Op, map-Op}
use Rattle.wg_code.specs.declared.op.Op.TheOpen.{Op-F}
use Rattle.wg_code.specs.declared.op.Op.TheVariants as o
use Rattle.wg_code.specs.Fits.{leaf_step, leaf_valid, outer_step, outer_valid}

pub record NotRegisters (op : Op) : Type 0 where
  pub not_Set : (d value : ℕ) → op ≡ o.Set d value → ⊥
  pub not_Copy : (d a : ℕ) → op ≡ o.Copy d a → ⊥
  pub not_Unary : (form d a : ℕ) → op ≡ o.Unary form d a → ⊥
  pub not_Binary : (form d a b : ℕ) → op ≡ o.Binary form d a b → ⊥
  pub not_Half : (form d a b : ℕ) → op ≡ o.Half form d a b → ⊥
  pub not_Wide : (form d a b : ℕ) → op ≡ o.Wide form d a b → ⊥
  pub not_LocalGet : (d from to index : ℕ) → op ≡ o.LocalGet d from to index → ⊥
  pub not_LocalPut : (from to index a : ℕ) → op ≡ o.LocalPut from to index a → ⊥
  pub not_InputGet : (d input word : ℕ) → op ≡ o.InputGet d input word → ⊥
  pub not_InputPut : (input word a : ℕ) → op ≡ o.InputPut input word a → ⊥
  pub not_InputCount : (d : ℕ) → op ≡ o.InputCount d → ⊥
  pub not_Level : (d : ℕ) → op ≡ o.Level d → ⊥
  pub not_Last : (d : ℕ) → op ≡ o.Last d → ⊥
  pub not_System : (d which : ℕ) → op ≡ o.System d which → ⊥

module _ (k : Scope) where
  abbrev Same : {B : Type 0} → (B → Op) → Op-F B → Type 0
  Same {B} p y = NotRegisters (roll-Op (map-Op B Op p y)) → leaf_step k (map-Op Op Judged (leaf_valid k) (map-Op B Op p y)) ≡ outer_step k (map-Op Op Judged (outer_valid k) (map-Op B Op p y))

  layer : {B : Type 0} (p : B → Op) (y : Op-F B) → Same p y
  layer p (Op-F.Set d value) not = absurd (not.not_Set d value (o.rolls-Set d value))
  layer p (Op-F.Copy d a) not = absurd (not.not_Copy d a (o.rolls-Copy d a))
  layer p (Op-F.Unary form d a) not = absurd (not.not_Unary form d a (o.rolls-Unary form d a))
  layer p (Op-F.Binary form d a b) not = absurd (not.not_Binary form d a b (o.rolls-Binary form d a b))
  layer p (Op-F.LocalGet d from to index) not = absurd (not.not_LocalGet d from to index (o.rolls-LocalGet d from to index))
  layer p (Op-F.LocalPut from to index a) not = absurd (not.not_LocalPut from to index a (o.rolls-LocalPut from to index a))
  layer p (Op-F.SharedGet d from to index) not = refl
  layer p (Op-F.SharedPut from to index a) not = refl
  layer p (Op-F.SharedAtomic form d from to index compare value) not = refl
  layer p (Op-F.InputGet d input word) not = absurd (not.not_InputGet d input word (o.rolls-InputGet d input word))
  layer p (Op-F.InputPut input word a) not = absurd (not.not_InputPut input word a (o.rolls-InputPut input word a))
  layer p (Op-F.InputCount d) not = absurd (not.not_InputCount d (o.rolls-InputCount d))
  layer p (Op-F.Level d) not = absurd (not.not_Level d (o.rolls-Level d))
  layer p (Op-F.System d which) not = absurd (not.not_System d which (o.rolls-System d which))
  layer p (Op-F.BufferGet d buffer word) not = refl
  layer p (Op-F.BufferPut buffer word a) not = refl
  layer p (Op-F.BufferAdd buffer word a) not = refl
  layer p (Op-F.BufferAtomic form d buffer word compare value) not = refl
  layer p (Op-F.BufferLength d buffer) not = refl
  layer p (Op-F.Valid d output element) not = refl
  layer p (Op-F.Request handle element amount) not = refl
  layer p (Op-F.Increment output element amount) not = refl
  layer p (Op-F.RecordGet d handle index from to word) not = refl
  layer p (Op-F.RecordPut handle index from to word a) not = refl
  layer p (Op-F.Complete handle) not = refl
  layer p (Op-F.If a first second) not = refl
  layer p (Op-F.Loop test a body step) not = refl
  layer p Op-F.Break not = refl
  layer p Op-F.Continue not = refl
  layer p (Op-F.Call function args results) not = refl
  layer p (Op-F.Wide form d a b) not = absurd (not.not_Wide form d a b (o.rolls-Wide form d a b))
  layer p (Op-F.Half form d a b) not = absurd (not.not_Half form d a b (o.rolls-Half form d a b))
  layer p (Op-F.Last d) not = absurd (not.not_Last d (o.rolls-Last d))

  pub not_registers : (op : Op) → NotRegisters op → leaf_valid k op ≡ outer_valid k op
  not_registers op = ind-Op (λ z. NotRegisters z → leaf_valid k z ≡ outer_valid k z)
      (λ x y eq. subst (λ l. NotRegisters (roll-Op l) → leaf_valid k (roll-Op l) ≡ outer_valid k (roll-Op l)) eq (rw (fold-roll-Op Judged (leaf_step k) _, fold-roll-Op Judged (outer_step k) _) (layer (λ b. b.0) y)))
      op
