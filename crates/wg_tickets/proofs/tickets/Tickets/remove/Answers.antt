use Rattle.std.proofs.Common.{◌∙◌, ap, sym}
use Rattle.wg_tickets.specs.Held.{has_ticket}
use Rattle.wg_tickets.proofs.Entries.{not_missing, taken}
use Rattle.wg_tickets.proofs.tickets.Tickets.remove.Goals as goal

pub unreachable-requires : goal.unreachable-requires
unreachable-requires g c =
    let t = c.args.ticket in
    not_missing t c.self.inside.map.entries (ap (has_ticket t) c.self.view_is ∙ c.requires) (sym c.remove.ensures.value ∙ c.in_default.is)

pub returns : goal.returns
returns g c =
    let t = c.args.ticket in
    let s = taken t c.self.inside.map.entries c.in-Some.value (sym c.remove.ensures.value ∙ c.in-Some.is) in
    record { before = s.before; later = s.later; was = sym c.self.view_is ∙ s.was; left = c.remove.ensures.entries ∙ s.left }
