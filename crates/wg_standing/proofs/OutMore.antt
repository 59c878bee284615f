-- A core that opens a launch stands for what it stood for.
use Rattle.std.proofs.Common.{◌≡◌, ◌≢◌, ℕ, ◌+◌, ◌<◌, List, [], ◌∷◌, ◌++◌, length, map, refl, ap, sym, ◌∙◌, subst, arith, None, Option}
use Rattle.std.specs.Prelude.{filter, nat_le, IfSome}
use Rattle.std.specs.List.{flat_map}
use Rattle.std.proofs.lemmas.List.Sums.{sum_by_push}
use Rattle.std.proofs.lemmas.List.{length_push}
use Rattle.wg_standing.specs.declared.pending.Pending.{Pending}
use Rattle.wg_machine.specs.declared.launch.Sent.{Sent}
use Rattle.wg_machine.specs.Buffers.{Buffers}
use Rattle.wg_machine.specs.LaunchMeaning.{Meaning}
use Rattle.wg_machine.specs.State.{born, kept}
use Rattle.wg_machine.specs.Step.{left_after}
use Rattle.wg_machine.specs.Need.{need}
use Rattle.wg_standing.specs.Outs.{IsAllowed, unopened}
use Rattle.wg_standing.specs.Core.{CoreView}
use Rattle.wg_standing.specs.Standing.{IsPlaced, StandsFor, TicketsDiffer, TicketsBelow, IsNotOut, IsTicketed, by_unit, is_entry_record, IsSpent}
use Rattle.wg_standing.specs.Moves.{with_out}
use Rattle.wg_standing.specs.Choice.{UnitHasRoom}
use Rattle.wg_standing.specs.Left.{IsLeftOf}
use Rattle.wg_standing.proofs.Commute.{unopened_append}
use Rattle.wg_standing.proofs.Lists.{by_unit_left, those_left}
use Rattle.wg_standing.proofs.Outs.{joins, allowed_more}

pub below_more : (n : ℕ) (outs : List Pending) (o : Pending) → TicketsBelow n outs → o.ticket ≡ n → TicketsBelow (n + 1) (outs ++ o ∷ [])
below_more n [] o b e = (omega arith, tt)
below_more n (p ∷ outs) o b e = let h = b.0 in (omega arith, below_more n outs o b.1 e)

pub not_out_more : (t : ℕ) (outs : List Pending) (o : Pending) → IsNotOut t outs → o.ticket ≢ t → IsNotOut t (outs ++ o ∷ [])
not_out_more t [] o a b = (b, tt)
not_out_more t (p ∷ outs) o a b = (a.0, not_out_more t outs o a.1 b)

pub differ_more : (n : ℕ) (outs : List Pending) (o : Pending) → TicketsBelow n outs → o.ticket ≡ n → TicketsDiffer outs → TicketsDiffer (outs ++ o ∷ [])
differ_more n [] o b e d = (tt, tt)
differ_more n (q ∷ outs) o b e d = (
  not_out_more q.ticket outs o d.0 (λ (same : o.ticket ≡ q.ticket). let low = b.0 in absurd (omega arith)),
  differ_more n outs o b.1 e d.1,
)

pub opened_placed : (core : CoreView) (o : Pending) → o.ticket ≡ core.tickets → length core.journal + length core.outs < core.limits.launches → UnitHasRoom core o.unit → IsPlaced core core.bag → IsAllowed core.shape (unopened core.outs core.bag) o → IsPlaced (with_out core o) core.bag
opened_placed core o ticket few room s allowed =
    let bag = core.bag in
    let j = joins core.shape core.next core.outs bag o s.rises s.distinct allowed in
    let n = length core.shape.units in
    let ready : unopened (core.outs ++ o ∷ []) bag ≡ left_after o.inputs o.at None (unopened core.outs bag) = unopened_append core.outs (o ∷ []) bag in
    let longer = length_push core.outs o in
    record {
      launches = omega (arith, longer, few);
      waits = ap (map (left_after o.inputs o.at None)) s.waits ∙ by_unit_left core.handed 0 n o.inputs o.at (unopened core.outs bag) ∙ ap (by_unit core.handed 0 n) (sym ready);
      entries = ap (left_after o.inputs o.at None) s.entries ∙ those_left (λ u m. nat_le (m + 1) core.handed) o.inputs o.at (unopened core.outs bag) ∙ ap (filter (is_entry_record core.handed)) (sym ready);
      held = refl;
      taken = refl;
      spare = let k = s.spare in omega (arith, longer, k);
      allowed = allowed_more core.shape bag core.outs o s.allowed j.allowed;
      apart = j.apart s.apart;
      tickets_differ = differ_more core.tickets core.outs o s.tickets_below ticket s.tickets_differ;
      tickets_below = below_more core.tickets core.outs o s.tickets_below ticket;
      tickets = let t = s.tickets in omega (arith, longer, t);
      rises = s.rises;
      handed = s.handed;
      distinct = s.distinct;
      full = s.full;
      known = s.known;
      words = s.words;
      used = s.used;
      room = λ v. let r = room v in let e = sum_by_push (λ (p : Pending). need core.shape p.unit v) core.outs o in omega (arith, r, e);
    }

pub opened_stands : (made : Meaning) (script : List Sent) (start : Buffers) (core : CoreView) (o : Pending) → core.stopped ≡ None → o.ticket ≡ core.tickets → length core.journal + length core.outs < core.limits.launches → UnitHasRoom core o.unit → (s : StandsFor made script start core) → IsAllowed core.shape (unopened core.outs core.bag) o → IsLeftOf (flat_map kept (born core.shape 0 script)) (with_out core o).entries → IsTicketed (with_out core o) → StandsFor made script start (with_out core o)
opened_stands made script start core o running ticket few room s allowed left ticketed =
    record {
      state = s.state;
      trail = s.trail;
      run = s.run;
      handed = s.handed;
      bag = s.bag;
      placed = opened_placed core o ticket few room s.placed allowed;
      left = left;
      ticketed = ticketed;
      kept = s.kept;
      next = s.next;
      buffers = s.buffers;
      denied = s.denied;
      peak = s.peak;
      slots = s.slots;
      spent = subst (λ (t : Option ℕ). IfSome t (IsSpent made (with_out core o))) (sym running) tt;
    }
