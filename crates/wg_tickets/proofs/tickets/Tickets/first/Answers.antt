use Rattle.std.proofs.Common.{subst}
use Rattle.wg_tickets.specs.Held.{IsLeast}
use Rattle.wg_tickets.proofs.Entries.{first_of}
use Rattle.wg_tickets.proofs.tickets.Tickets.first.Goals as goal

pub returns-clause-some : goal.returns-clause-some
returns-clause-some g c =
    let t = c.in_ok-ticket.ticket.now in
    subst (λ es. IsLeast es t) c.self.view_is (first_of c.self.inside.map.entries t c.in_ok-ticket.field-0-1.now c.in_ok-ticket.ensures.first c.in_ok-ticket.ensures.all_from)
