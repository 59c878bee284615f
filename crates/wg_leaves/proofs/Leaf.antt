-- What operations do that hold no others, each by its layer.
use Rattle.std.proofs.Common.{◌≡◌, ℕ, false, List, sym, ap, ◌∙◌, subst}
use Rattle.std.specs.Prelude.{Ok, Result}
use Rattle.wg_machine.specs.Agreement.{Trace, now_of}
use Rattle.wg_machine.specs.declared.bodies.Halt.{Halt}
use Rattle.wg_state.specs.Turns.{Action, Done, pure}
use Rattle.wg_code.specs.Functions.{missing}
use Rattle.wg_code.specs.Lane.{Around, Site, Exit, Through}
use Rattle.wg_code.specs.OpMeaning.{does}
use Rattle.wg_code.specs.declared.op.Op.{Op, fold-roll-Op}
use Rattle.wg_code.specs.declared.op.Op.TheOpen.{Op-F}
use Rattle.wg_code.specs.declared.op.Op.TheVariants as o
use Rattle.wg_registers.specs.Given.{site_of}
use Rattle.wg_registers.specs.declared.outside.Outside.{Outside}
use Rattle.wg_operations.specs.Says.{Makes, Runs}
use Rattle.wg_operations.specs.declared.end.End.{End}
use Rattle.wg_operations.specs.declared.end.End.TheVariants as end
use Rattle.wg_leaves.specs.Leaves.{asked_step, asked_does, outer_step, outer_does, records_step, records_does}

abbrev pub Act : Type 0
Act = Action Site Exit

pub makes : (m p : Act) → m ≡ p → (registers : List ℕ) (s : Outside) (registers' : List ℕ) (s' : Outside) → Makes p registers s registers' s' → Makes m registers s registers' s'
makes m p e registers s registers' s' d = λ b t. ap (λ (x : Act). x (site_of registers s b) t) e ∙ d b t

pub runs : (m p : Act) → m ≡ p → (registers : List ℕ) (s : Outside) (registers' : List ℕ) (s' : Outside) (now : Trace) → Makes p registers s registers' s' → s'.turns ≡ s.turns
    → Runs m registers s now (Ok end.Through) registers' s' now
runs m p e registers s registers' s' now d turns = λ start a.
    makes m p e registers s registers' s' d (now_of now start) s.turns ∙ ap (λ t. Done Through (site_of registers' s' (now_of now start)) t) (sym turns)

pub runs_as : (m p : Act) → m ≡ p → (registers : List ℕ) (s : Outside) (old : Trace) (r : Result End Halt) (registers' : List ℕ) (s' : Outside) (new : Trace)
    → Runs p registers s old r registers' s' new → Runs m registers s old r registers' s' new
runs_as m p e registers s old r registers' s' new d = subst (λ (x : Act). Runs x registers s old r registers' s' new) (sym e) d

pub makes_nothing : (m : Act) → m ≡ pure Through → (registers : List ℕ) (s : Outside) → Makes m registers s registers s
makes_nothing m e registers s = λ b t. ap (λ (x : Act). x (site_of registers s b) t) e

module _ (A : Around) (op : Op) where
  pub asked_Request : (handle element amount : ℕ) → op ≡ o.Request handle element amount → asked_does A op ≡ does A (λ f. missing false) (Op-F.Request handle element amount)
  asked_Request handle element amount is = ap (asked_does A) is ∙ (ap (asked_does A) (sym (o.rolls-Request handle element amount)) ∙ fold-roll-Op Act (asked_step A) _)

  pub asked_Increment : (output element amount : ℕ) → op ≡ o.Increment output element amount → asked_does A op ≡ does A (λ f. missing false) (Op-F.Increment output element amount)
  asked_Increment output element amount is = ap (asked_does A) is ∙ (ap (asked_does A) (sym (o.rolls-Increment output element amount)) ∙ fold-roll-Op Act (asked_step A) _)

  pub outer_SharedAtomic : (form d from to index compare value : ℕ) → op ≡ o.SharedAtomic form d from to index compare value → outer_does A op ≡ does A (λ f. missing false) (Op-F.SharedAtomic form d from to index compare value)
  outer_SharedAtomic form d from to index compare value is = ap (outer_does A) is ∙ (ap (outer_does A) (sym (o.rolls-SharedAtomic form d from to index compare value)) ∙ fold-roll-Op Act (outer_step A) _)

  pub outer_InputPut : (input word a : ℕ) → op ≡ o.InputPut input word a → outer_does A op ≡ does A (λ f. missing false) (Op-F.InputPut input word a)
  outer_InputPut input word a is = ap (outer_does A) is ∙ (ap (outer_does A) (sym (o.rolls-InputPut input word a)) ∙ fold-roll-Op Act (outer_step A) _)

  pub records_RecordGet : (d handle index from to word : ℕ) → op ≡ o.RecordGet d handle index from to word → records_does A op ≡ does A (λ f. missing false) (Op-F.RecordGet d handle index from to word)
  records_RecordGet d handle index from to word is = ap (records_does A) is ∙ (ap (records_does A) (sym (o.rolls-RecordGet d handle index from to word)) ∙ fold-roll-Op Act (records_step A) _)

  pub records_RecordPut : (handle index from to word a : ℕ) → op ≡ o.RecordPut handle index from to word a → records_does A op ≡ does A (λ f. missing false) (Op-F.RecordPut handle index from to word a)
  records_RecordPut handle index from to word a is = ap (records_does A) is ∙ (ap (records_does A) (sym (o.rolls-RecordPut handle index from to word a)) ∙ fold-roll-Op Act (records_step A) _)

  pub records_Complete : (handle : ℕ) → op ≡ o.Complete handle → records_does A op ≡ does A (λ f. missing false) (Op-F.Complete handle)
  records_Complete handle is = ap (records_does A) is ∙ (ap (records_does A) (sym (o.rolls-Complete handle)) ∙ fold-roll-Op Act (records_step A) _)
