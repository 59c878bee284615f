use Rattle.std.proofs.Common.{◌∙◌, ap, subst, sym}
use Rattle.std.specs.Option.{option_copied}
use Rattle.wg_tickets.specs.Held.{IsHeldAt, has_ticket}
use Rattle.wg_tickets.proofs.Entries.{held, not_missing}
use Rattle.wg_tickets.proofs.tickets.Tickets.get.Goals as goal

pub unreachable-requires : goal.unreachable-requires
unreachable-requires g c =
    let t = c.args.ticket in
    not_missing t c.self.inside.map.entries (ap (has_ticket t) c.self.view_is ∙ c.requires) (sym c.get.ensures.value ∙ ap option_copied c.in_default.is)

pub returns : goal.returns
returns g c =
    let t = c.args.ticket in
    subst (λ es. IsHeldAt es t c.in-Some.value.now) c.self.view_is (held t c.self.inside.map.entries c.in-Some.value.now (sym c.get.ensures.value ∙ ap option_copied c.in-Some.is))
