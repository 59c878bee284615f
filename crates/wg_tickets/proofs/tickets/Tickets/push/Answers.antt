use Rattle.std.proofs.Common.{◌∙◌, ◌++◌, ◌∷◌, [], ap, subst, sym}
use Rattle.wg_tickets.specs.Held.{AllBelow}
use Rattle.wg_tickets.proofs.Entries.{pushed}
use Rattle.wg_tickets.proofs.tickets.Tickets.push.Goals as goal

pub returns-clause-ok : goal.returns-clause-ok
returns-clause-ok g c =
    let t = c.args.ticket in
    c.in_ok-insert.ensures.entries
    ∙ pushed t c.self.inside.map.entries c.args.value (subst (AllBelow t) (sym c.self.view_is) c.requires)
    ∙ ap (λ es. es ++ (t, c.args.value) ∷ []) c.self.view_is
