-- The launch that stopped a core is out.
use Rattle.std.proofs.Common.{◌≡◌, ℕ, refl, subst, sym, Option, None, Some, IfSome}
use Rattle.wg_standing.specs.Core.{CoreView}
use Rattle.wg_standing.specs.Idle.{SomeIsOut}
use Rattle.wg_engine.specs.declared.stepping.Spent.{Spent}
use Rattle.wg_engine.specs.Inside.{IsSoundCore, spent_ticket}

pub stopped_out : (core : CoreView) (spent : Option Spent) → IsSoundCore core spent → core.stopped ≡ spent_ticket spent → IfSome core.stopped (SomeIsOut core)
stopped_out core None s is = subst (λ (o : Option ℕ). IfSome o (SomeIsOut core)) (sym is) tt
stopped_out core (Some x) s is =
    let o = s.stopped x refl in
    let out : SomeIsOut core x.ticket = (o.before, o.pending, o.later, o.out) in
    subst (λ (o : Option ℕ). IfSome o (SomeIsOut core)) (sym is) out
