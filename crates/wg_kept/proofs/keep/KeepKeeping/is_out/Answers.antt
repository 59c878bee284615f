use Rattle.std.proofs.Common.{◌≡◌, ◌∙◌, Bool, true, false, refl, sym, subst}
use Rattle.std.specs.Prelude.{IsTrue}
use Rattle.wg_standing.specs.Idle.{SomeIsOut}
use Rattle.wg_standing.specs.Standing.{IsNotOut}
use Rattle.wg_store.specs.Keep.{Kept, view_of}
use Rattle.wg_kept.specs.Inside.{kept_of}
use Rattle.wg_kept.proofs.Pendings.{held_some, none_held}
use Rattle.wg_kept.proofs.keep.KeepKeeping.is_out.Goals as goal

pub returns-clause-out : goal.returns-clause-out
returns-clause-out c = λ is.
    let s = c.self.inside in
    let k : Kept = kept_of s.store s.width s.limits s.journal.items s.next s.outs s.tickets in
    subst (λ (n : Kept). SomeIsOut (view_of n) c.args.ticket) c.self.view_is (held_some (view_of k) s.outs c.args.ticket refl c.self.invariant.named (sym c.contains.ensures ∙ is_true c.contains.result is))
  where
    is_true : (b : Bool) → IsTrue b → b ≡ true
    is_true true t = refl
    is_true false t = absurd (cc)

pub returns-clause-none : goal.returns-clause-none
returns-clause-none c = λ is.
    let s = c.self.inside in
    subst (λ (n : Kept). IsNotOut c.args.ticket n.outs) c.self.view_is (none_held c.args.ticket s.outs c.self.invariant.named (sym c.contains.ensures ∙ is))
