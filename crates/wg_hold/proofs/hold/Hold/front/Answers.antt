use Rattle.std.proofs.Common.{◌≡◌, ◌∙◌, IfOk, ap, sym, subst}
use Rattle.wg_standing.specs.declared.pending.Pending.{Pending as PendingOf}
use Rattle.wg_store.specs.Items.{fits_unit, pending_of}
use Rattle.wg_hold.specs.Held.{Held}
use Rattle.wg_hold.proofs.Scans.{fits_left}
use Rattle.wg_hold.proofs.hold.Hold.front.Goals as goal

pub slots_pending-requires : goal.slots_pending-requires
slots_pending-requires c = λ e.
    c.requires.some (sym (ap (λ (h : Held). fits_unit c.args.unit h.items) c.self.view_is) ∙ ap (fits_unit c.args.unit) (sym c.scan.ensures.live) ∙ fits_left c.args.unit c.scan.result.now c.scan.ensures.ends ∙ e)

pub returns : goal.returns
returns c =
    let i = c.self.inside in
    let u = c.args.unit in
    let fits : fits_unit u c.scan.result.now ≡ fits_unit u i.rows.items = sym (fits_left u c.scan.result.now c.scan.ensures.ends) ∙ ap (fits_unit u) c.scan.ensures.live in
    subst (λ (q : PendingOf). IfOk c.slots_pending.result (λ (p : PendingOf). p ≡ q)) (ap (pending_of c.args.ticket i.shape u) fits ∙ ap (λ (h : Held). pending_of c.args.ticket h.shape u (fits_unit u h.items)) c.self.view_is) c.slots_pending.ensures
