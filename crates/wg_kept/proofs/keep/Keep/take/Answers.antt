use Rattle.std.proofs.Common.{◌≡◌, ◌≤◌, ◌<◌, ◌+◌, ◌++◌, ◌∷◌, [], List, ℕ, length, refl, ap, sym, subst, ◌∙◌, arith}
use Rattle.std.specs.Prelude.{vec_capacity}
use Rattle.wg_machine.specs.declared.launch.Launch.{Launch}
use Rattle.wg_room.specs.Counts.{HasSlotsLeft, Reserves}
use Rattle.wg_standing.specs.declared.pending.Pending.{Pending}
use Rattle.wg_standing.specs.Choice.{IsChoice}
use Rattle.wg_standing.specs.Moves.{with_out}
use Rattle.wg_store.specs.Items.{all_opened}
use Rattle.wg_store.specs.Keep.{Kept, view_of}
use Rattle.wg_engine.specs.declared.keeping.Out.{Out}
use Rattle.wg_engine.specs.Calls.{told}
use Rattle.wg_hold.specs.Held.{Held}
use Rattle.wg_kept.specs.declared.store.Store.{Store}
use Rattle.wg_kept.specs.Inside.{AreNamed, kept_of, pendings}
use Rattle.wg_kept.specs.Stores.{IsFrontOf}
use Rattle.wg_kept.proofs.Finding.{rise_behind}
use Rattle.wg_kept.proofs.Openings.{opened_is, put_is, sound_opened}
use Rattle.wg_kept.proofs.Pendings.{below_all, long_pendings, named_more, pendings_split}
use Rattle.wg_kept.proofs.Settlings.{AreBounds}
use Rattle.wg_kept.proofs.Takings.{chosen_fits, chosen_out, chosen_room, chosen_ticket, chosen_told}
use Rattle.wg_kept.proofs.keep.Keep.take.Goals as goal

long_more : (os : List Pending) (o : Pending) → length (os ++ o ∷ []) ≡ length os + 1
long_more [] o = refl
long_more (p ∷ os) o = let r = long_more os o in omega (arith, r)

pub launch-requires-clause-there : goal.launch-requires-clause-there
launch-requires-clause-there c =
    let s = c.self.inside in
    let i = c.self.invariant in
    let k : Kept = kept_of s.store s.width s.limits s.journal.items s.next s.outs s.tickets in
    let o = c.args.pending in
    let choice = subst (λ (n : Kept). IsChoice (view_of n) o) (sym c.self.view_is) c.requires.choice in
    let few = subst (λ (n : Kept). length n.journal + length n.outs < n.limits.launches) (sym c.self.view_is) c.requires.few in
    (chosen_told c.openings_place.ensures c.outs_fit.ensures c.allowed_are_told.ensures k o i.kept choice few).there

pub launch-requires-clause-group : goal.launch-requires-clause-group
launch-requires-clause-group c =
    let s = c.self.inside in
    let i = c.self.invariant in
    let k : Kept = kept_of s.store s.width s.limits s.journal.items s.next s.outs s.tickets in
    let o = c.args.pending in
    let choice = subst (λ (n : Kept). IsChoice (view_of n) o) (sym c.self.view_is) c.requires.choice in
    let few = subst (λ (n : Kept). length n.journal + length n.outs < n.limits.launches) (sym c.self.view_is) c.requires.few in
    (chosen_told c.openings_place.ensures c.outs_fit.ensures c.allowed_are_told.ensures k o i.kept choice few).group

pub push-requires : goal.push-requires
push-requires c =
    let s = c.self.inside in
    let i = c.self.invariant in
    let k : Kept = kept_of s.store s.width s.limits s.journal.items s.next s.outs s.tickets in
    below_all s.tickets s.outs i.named i.kept.placed.tickets_below

pub open-requires-clause-behind : goal.open-requires-clause-behind
open-requires-clause-behind c =
    let s = c.self.inside in
    let i = c.self.invariant in
    let k : Kept = kept_of s.store s.width s.limits s.journal.items s.next s.outs s.tickets in
    rise_behind (length k.entries) k.next k.slots i.kept.rises

pub open-requires-clause-some : goal.open-requires-clause-some
open-requires-clause-some c =
    let s = c.self.inside in
    let i = c.self.invariant in
    let k : Kept = kept_of s.store s.width s.limits s.journal.items s.next s.outs s.tickets in
    let o = c.args.pending in
    let choice = subst (λ (n : Kept). IsChoice (view_of n) o) (sym c.self.view_is) c.requires.choice in
    let few = subst (λ (n : Kept). length n.journal + length n.outs < n.limits.launches) (sym c.self.view_is) c.requires.few in
    let placed = chosen_out c.openings_place.ensures k o i.kept choice few in
    let ticket = chosen_ticket c.choices_can_open.ensures k o i.kept choice in
    let same = put_is s.outs c.push.new.self s.tickets o c.get.result.now i.named ticket c.in_ok-push.ensures.ok placed.tickets_differ c.get.ensures in
    let t = chosen_told c.openings_place.ensures c.outs_fit.ensures c.allowed_are_told.ensures k o i.kept choice few in
    subst (λ (p : Pending). 1 ≤ length p.inputs) (sym same) t.some

pub open-requires-clause-front : goal.open-requires-clause-front
open-requires-clause-front c =
    let s = c.self.inside in
    let i = c.self.invariant in
    let k : Kept = kept_of s.store s.width s.limits s.journal.items s.next s.outs s.tickets in
    let o = c.args.pending in
    let choice = subst (λ (n : Kept). IsChoice (view_of n) o) (sym c.self.view_is) c.requires.choice in
    let few = subst (λ (n : Kept). length n.journal + length n.outs < n.limits.launches) (sym c.self.view_is) c.requires.few in
    let placed = chosen_out c.openings_place.ensures k o i.kept choice few in
    let ticket = chosen_ticket c.choices_can_open.ensures k o i.kept choice in
    let same = put_is s.outs c.push.new.self s.tickets o c.get.result.now i.named ticket c.in_ok-push.ensures.ok placed.tickets_differ c.get.ensures in
    subst (λ (p : Pending). IsFrontOf k.shape k.entries k.slots p) (sym same) (subst (λ (n : Kept). IsFrontOf n.shape n.entries n.slots o) (sym c.self.view_is) c.requires.front)

pub reserve-requires-2-clause-unit : goal.reserve-requires-2-clause-unit
reserve-requires-2-clause-unit c =
    let s = c.self.inside in
    let i = c.self.invariant in
    let k : Kept = kept_of s.store s.width s.limits s.journal.items s.next s.outs s.tickets in
    let o = c.args.pending in
    let choice = subst (λ (n : Kept). IsChoice (view_of n) o) (sym c.self.view_is) c.requires.choice in
    let few = subst (λ (n : Kept). length n.journal + length n.outs < n.limits.launches) (sym c.self.view_is) c.requires.few in
    let fits = chosen_fits c.openings_place.ensures c.outs_fit.ensures k o i.kept choice few in
    subst (λ (h : Held). o.unit < length h.shape.units) (sym c.open.ensures.hold) fits.unit

pub reserve-requires-2-clause-room : goal.reserve-requires-2-clause-room
reserve-requires-2-clause-room c =
    let s = c.self.inside in
    let i = c.self.invariant in
    let k : Kept = kept_of s.store s.width s.limits s.journal.items s.next s.outs s.tickets in
    let o = c.args.pending in
    let choice = subst (λ (n : Kept). IsChoice (view_of n) o) (sym c.self.view_is) c.requires.choice in
    let few = subst (λ (n : Kept). length n.journal + length n.outs < n.limits.launches) (sym c.self.view_is) c.requires.few in
    subst (λ (h : Held). HasSlotsLeft h.room o.unit) (sym c.open.ensures.hold) (chosen_room c.choices_can_open.ensures k s.store.hold.room o i.kept i.room choice)

pub invariant_of-self-2 : goal.invariant_of-self-2
invariant_of-self-2 c =
    let s = c.self.inside in
    let i = c.self.invariant in
    let k : Kept = kept_of s.store s.width s.limits s.journal.items s.next s.outs s.tickets in
    let o = c.args.pending in
    let choice = subst (λ (n : Kept). IsChoice (view_of n) o) (sym c.self.view_is) c.requires.choice in
    let few = subst (λ (n : Kept). length n.journal + length n.outs < n.limits.launches) (sym c.self.view_is) c.requires.few in
    let placed = chosen_out c.openings_place.ensures k o i.kept choice few in
    let ticket = chosen_ticket c.choices_can_open.ensures k o i.kept choice in
    let same = put_is s.outs c.push.new.self s.tickets o c.get.result.now i.named ticket c.in_ok-push.ensures.ok placed.tickets_differ c.get.ensures in
    let items : c.reserve-2.new.self.items ≡ all_opened c.get.result.now.inputs s.store.hold.items = ap (λ (h : Held). h.items) c.reserve-2.ensures.same ∙ ap (λ (h : Held). h.items) c.open.ensures.hold in
    let shape : c.reserve-2.new.self.shape ≡ s.store.hold.shape = ap (λ (h : Held). h.shape) c.reserve-2.ensures.same ∙ ap (λ (h : Held). h.shape) c.open.ensures.hold in
    let outs : pendings c.push.new.self ≡ pendings s.outs ++ o ∷ [] = ap pendings c.in_ok-push.ensures.ok ∙ pendings_split s.outs s.tickets o [] in
    let store : Store = record { entries = c.open.new.self.entries; hold = c.reserve-2.new.self } in
    let is = opened_is k store (pendings c.push.new.self) c.reserve.new.self.items o c.get.result.now same c.open.ensures.entries items shape outs c.reserve.ensures.items in
    let reserves = subst (λ (h : Held). Reserves h.room c.reserve-2.new.self.room o.unit) c.open.ensures.hold c.reserve-2.ensures.reserves in
    let named = subst (λ xs. AreNamed xs) (sym c.in_ok-push.ensures.ok) (named_more s.outs s.tickets o i.named ticket) in
    let long = ap (λ (os : List Pending). length os) outs in
    let more = long_more (pendings s.outs) o in
    let ok = c.in_ok-reserve.ensures.ok in
    let count = c.len.ensures in
    let all = long_pendings s.outs in
    let old_ok = c.reserve.new.self.ok.0 in
    let spare : length c.reserve.new.self.items + length (pendings c.push.new.self) ≤ vec_capacity c.reserve.new.self = omega (arith, long, more, ok, count, all, old_ok) in
    let b : AreBounds k = record { few = i.few; next = i.next } in
    sound_opened c.openings_keep.ensures c.openings_keep_room.ensures c.openings_are_seen.ensures k (kept_of store s.width s.limits c.reserve.new.self.items s.next c.push.new.self (s.tickets + 1)) s.store.hold.room o store c.push.new.self (vec_capacity c.reserve.new.self) s.planned is i.kept i.room choice few reserves named spare i.bytes b

pub returns-clause-out : goal.returns-clause-out
returns-clause-out c =
    let s = c.self.inside in
    let i = c.self.invariant in
    let k : Kept = kept_of s.store s.width s.limits s.journal.items s.next s.outs s.tickets in
    let o = c.args.pending in
    let choice = subst (λ (n : Kept). IsChoice (view_of n) o) (sym c.self.view_is) c.requires.choice in
    let few = subst (λ (n : Kept). length n.journal + length n.outs < n.limits.launches) (sym c.self.view_is) c.requires.few in
    let ticket = chosen_ticket c.choices_can_open.ensures k o i.kept choice in
    let t = chosen_told c.openings_place.ensures c.outs_fit.ensures c.allowed_are_told.ensures k o i.kept choice few in
    let make = λ (n : ℕ) (l : Launch). (let x : Out = record { ticket = n; launch = l } in x) in
    ap (λ (n : ℕ). make n c.in_ok-launch.launch) (sym ticket) ∙ ap (make o.ticket) (c.in_ok-launch.ensures ∙ sym t.is) ∙ ap (λ (n : Kept). told (view_of n) o) c.self.view_is

pub returns-clause-opened : goal.returns-clause-opened
returns-clause-opened c =
    let s = c.self.inside in
    let i = c.self.invariant in
    let k : Kept = kept_of s.store s.width s.limits s.journal.items s.next s.outs s.tickets in
    let o = c.args.pending in
    let choice = subst (λ (n : Kept). IsChoice (view_of n) o) (sym c.self.view_is) c.requires.choice in
    let few = subst (λ (n : Kept). length n.journal + length n.outs < n.limits.launches) (sym c.self.view_is) c.requires.few in
    let placed = chosen_out c.openings_place.ensures k o i.kept choice few in
    let ticket = chosen_ticket c.choices_can_open.ensures k o i.kept choice in
    let same = put_is s.outs c.push.new.self s.tickets o c.get.result.now i.named ticket c.in_ok-push.ensures.ok placed.tickets_differ c.get.ensures in
    let items : c.reserve-2.new.self.items ≡ all_opened c.get.result.now.inputs s.store.hold.items = ap (λ (h : Held). h.items) c.reserve-2.ensures.same ∙ ap (λ (h : Held). h.items) c.open.ensures.hold in
    let shape : c.reserve-2.new.self.shape ≡ s.store.hold.shape = ap (λ (h : Held). h.shape) c.reserve-2.ensures.same ∙ ap (λ (h : Held). h.shape) c.open.ensures.hold in
    let outs : pendings c.push.new.self ≡ pendings s.outs ++ o ∷ [] = ap pendings c.in_ok-push.ensures.ok ∙ pendings_split s.outs s.tickets o [] in
    let store : Store = record { entries = c.open.new.self.entries; hold = c.reserve-2.new.self } in
    let is = opened_is k store (pendings c.push.new.self) c.reserve.new.self.items o c.get.result.now same c.open.ensures.entries items shape outs c.reserve.ensures.items in
    ap view_of is ∙ sym (c.openings_are_seen.ensures k o i.kept choice few) ∙ ap (λ (n : Kept). with_out (view_of n) o) c.self.view_is
