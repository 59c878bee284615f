use Rattle.std.proofs.Common.{◌∙◌, List, ℕ, ap, sym, take}
use Rattle.wg_machine.specs.Units.{most_inputs}
use Rattle.wg_standing.specs.declared.pending.Pending.{Pending as PendingOf}
use Rattle.wg_store.specs.Items.{first_at, fits_next, numbers_in}
use Rattle.wg_store.proofs.Found.{first_next, first_waits}
use Rattle.wg_store.proofs.pendings.entries_pending.Goals as goal

pub next_of-at-requires : goal.next_of-at-requires
next_of-at-requires c = first_waits c.args.entries.now c.args.first.now c.requires

pub returns : goal.returns
returns c =
    let u = c.args.first.now.unit in
    let xs = fits_next u c.args.entries.now in
    let f = first_next c.args.entries.now c.args.first.now c.requires in
    ap (λ (at : List ℕ). (let p : PendingOf = record { ticket = c.args.ticket; unit = u; at = at; inputs = c.in_ok-inputs.inputs } in p)) (c.next_of-at.ensures ∙ sym (ap first_at f.1))
    ∙ ap (λ (ns : List ℕ). (let p : PendingOf = record { ticket = c.args.ticket; unit = u; at = first_at xs; inputs = ns } in p)) (c.in_ok-inputs.ensures ∙ ap (λ (k : ℕ). numbers_in (take k xs)) (c.most_inputs-most.ensures ∙ ap most_inputs c.kind.ensures))
