-- An operation that is none of those that may want memory.
use Rattle.std.proofs.Common.{◌≡◌, ℕ, refl, subst}
use Rattle.wg_code.specs.Lane.{Around}
use Rattle.wg_code.specs.declared.op.Op.{Op, roll-Op, fold-roll-Op, ind-Op, map-Op}
use Rattle.wg_code.specs.declared.op.Op.TheOpen.{Op-F}
use Rattle.wg_code.specs.declared.op.Op.TheVariants as o
use Rattle.wg_leaves.specs.Leaves.{asked_step, asked_does, sure_step, sure_does}
use Rattle.wg_leaves.proofs.Leaf.{Act}

pub record NotRequests (op : Op) : Type 0 where
  pub not_InputCount : (d : ℕ) → op ≡ o.InputCount d → ⊥
  pub not_Request : (handle element amount : ℕ) → op ≡ o.Request handle element amount → ⊥
  pub not_Increment : (output element amount : ℕ) → op ≡ o.Increment output element amount → ⊥

module _ (A : Around) where
  abbrev Same : {B : Type 0} → (B → Op) → Op-F B → Type 0
  Same {B} p y = NotRequests (roll-Op (map-Op B Op p y)) → asked_step A (map-Op Op Act (asked_does A) (map-Op B Op p y)) ≡ sure_step A (map-Op Op Act (sure_does A) (map-Op B Op p y))

  layer : {B : Type 0} (p : B → Op) (y : Op-F B) → Same p y
  layer p (Op-F.Set d value) not = refl
  layer p (Op-F.Copy d a) not = refl
  layer p (Op-F.Unary form d a) not = refl
  layer p (Op-F.Binary form d a b) not = refl
  layer p (Op-F.LocalGet d from to index) not = refl
  layer p (Op-F.LocalPut from to index a) not = refl
  layer p (Op-F.SharedGet d from to index) not = refl
  layer p (Op-F.SharedPut from to index a) not = refl
  layer p (Op-F.SharedAtomic form d from to index compare value) not = refl
  layer p (Op-F.InputGet d input word) not = refl
  layer p (Op-F.InputPut input word a) not = refl
  layer p (Op-F.InputCount d) not = absurd (not.not_InputCount d (o.rolls-InputCount d))
  layer p (Op-F.Level d) not = refl
  layer p (Op-F.System d which) not = refl
  layer p (Op-F.BufferGet d buffer word) not = refl
  layer p (Op-F.BufferPut buffer word a) not = refl
  layer p (Op-F.BufferAdd buffer word a) not = refl
  layer p (Op-F.BufferAtomic form d buffer word compare value) not = refl
  layer p (Op-F.BufferLength d buffer) not = refl
  layer p (Op-F.Valid d output element) not = refl
  layer p (Op-F.Request handle element amount) not = absurd (not.not_Request handle element amount (o.rolls-Request handle element amount))
  layer p (Op-F.Increment output element amount) not = absurd (not.not_Increment output element amount (o.rolls-Increment output element amount))
  layer p (Op-F.RecordGet d handle index from to word) not = refl
  layer p (Op-F.RecordPut handle index from to word a) not = refl
  layer p (Op-F.Complete handle) not = refl
  layer p (Op-F.If a first second) not = refl
  layer p (Op-F.Loop test a body step) not = refl
  layer p Op-F.Break not = refl
  layer p Op-F.Continue not = refl
  layer p (Op-F.Call function args results) not = refl
  layer p (Op-F.Wide form d a b) not = refl
  layer p (Op-F.Half form d a b) not = refl
  layer p (Op-F.Last d) not = refl

  pub not_requests : (op : Op) → NotRequests op → asked_does A op ≡ sure_does A op
  not_requests op = ind-Op (λ z. NotRequests z → asked_does A z ≡ sure_does A z)
      (λ x y eq. subst (λ l. NotRequests (roll-Op l) → asked_does A (roll-Op l) ≡ sure_does A (roll-Op l)) eq (rw (fold-roll-Op Act (asked_step A) _, fold-roll-Op Act (sure_step A) _) (layer (λ b. b.0) y)))
      op
