use Rattle.std.proofs.Common.{◌∙◌, ap}
use Rattle.wg_tickets.specs.Held.{has_ticket}
use Rattle.wg_tickets.proofs.Entries.{looked_up}
use Rattle.wg_tickets.proofs.tickets.Tickets.contains.Goals as goal

pub returns : goal.returns
returns g c = c.contains_key.ensures ∙ looked_up c.args.ticket c.self.inside.map.entries ∙ ap (has_ticket c.args.ticket) c.self.view_is
