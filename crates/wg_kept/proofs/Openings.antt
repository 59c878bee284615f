-- What a keep is after a launch is opened.
use Rattle.std.proofs.Common.{◌≡◌, ℕ, ◌+◌, ◌<◌, ◌≤◌, Bool, List, [], ◌∷◌, ◌++◌, length, ap, sym, ◌∙◌, subst, ◌↔◌}
use Rattle.std.specs.Prelude.{IsTrue}
use Rattle.wg_machine.specs.declared.launch.Entry.{Entry}
use Rattle.wg_machine.specs.declared.launch.Launch.{Launch}
use Rattle.wg_machine.specs.declared.shape.Shape.{Shape}
use Rattle.wg_machine.specs.Bytes.{plan_bytes}
use Rattle.wg_room.specs.Counts.{Counts, Reserves}
use Rattle.wg_standing.specs.declared.pending.Pending.{Pending}
use Rattle.wg_standing.specs.Choice.{IsChoice}
use Rattle.wg_standing.specs.Outs.{launch_now}
use Rattle.wg_standing.specs.Standing.{TicketsDiffer}
use Rattle.wg_store.specs.declared.item.Item.{Item}
use Rattle.wg_store.specs.Items.{all_opened, launch_by}
use Rattle.wg_store.specs.Keep.{IsKept, IsRoomOf, Kept, items_of, kept_with_out, view_of}
use Rattle.wg_store.specs.Laws.{OpeningsAreSeen, OpeningsKeep, OpeningsKeepRoom}
use Rattle.wg_tickets.specs.Held.{IsHeldAt}
use Rattle.wg_kept.specs.declared.store.Store.{Store}
use Rattle.wg_kept.specs.Inside.{AreNamed, IsSoundKeep, pendings}
use Rattle.wg_kept.proofs.Pendings.{named_at, named_more, one_at, pendings_split}
use Rattle.wg_kept.proofs.Settlings.{AreBounds}

-- a launch is that of now of a launch out where it is what the records say
pub now_iff : (k : Kept) (b : Bool) (l : Launch) (v o : Pending) → IsTrue b ↔ (l ≡ launch_by k.shape (items_of k) v) → launch_now k.shape (view_of k).bag v ≡ launch_by k.shape (items_of k) v → v ≡ o → IsTrue b ↔ (l ≡ launch_now k.shape (view_of k).bag o)
now_iff k b l v o iff is same = subst (λ (p : Pending). IsTrue b ↔ (l ≡ launch_now k.shape (view_of k).bag p)) same ((λ t. iff.0 t ∙ sym is), (λ e. iff.1 (e ∙ is)))

-- what is held with the new ticket is the launch that was put there
pub put_is : (outs new : List (ℕ × Pending)) (t : ℕ) (o v : Pending) → AreNamed outs → o.ticket ≡ t → new ≡ outs ++ (t, o) ∷ [] → TicketsDiffer (pendings outs ++ o ∷ []) → IsHeldAt new t v → v ≡ o
put_is outs new t o v named ticket more differ held =
    let whole : pendings held.before ++ v ∷ pendings held.later ≡ pendings outs ++ o ∷ [] = sym (pendings_split held.before t v held.later) ∙ sym (ap pendings held.place) ∙ ap pendings more ∙ pendings_split outs t o [] in
    let all = named_more outs t o named ticket in
    let own = named_at held.before t v held.later (subst AreNamed (sym more ∙ held.place) all) in
    one_at (pendings held.before) v (pendings held.later) (pendings outs) o [] (subst TicketsDiffer (sym whole) differ) whole (own ∙ sym ticket)

pub opened_is : (k : Kept) (new : Store) (outs : List Pending) (journal : List Entry) (o v : Pending) → v ≡ o → new.entries ≡ all_opened v.inputs k.entries → new.hold.items ≡ all_opened v.inputs k.slots → new.hold.shape ≡ k.shape → outs ≡ k.outs ++ o ∷ [] → journal ≡ k.journal
    → (let l : Kept = record { shape = new.hold.shape; width = k.width; limits = k.limits; entries = new.entries; slots = new.hold.items; outs = outs; journal = journal; next = k.next; tickets = k.tickets + 1 } in l) ≡ kept_with_out k o
opened_is k new outs journal o v same entries slots shape more lines =
    let make = λ (s : Shape) (es xs : List Item) (os : List Pending) (js : List Entry). (let l : Kept = record { shape = s; width = k.width; limits = k.limits; entries = es; slots = xs; outs = os; journal = js; next = k.next; tickets = k.tickets + 1 } in l) in
    ap (λ (s : Shape). make s new.entries new.hold.items outs journal) shape
    ∙ ap (λ (es : List Item). make k.shape es new.hold.items outs journal) (entries ∙ ap (λ (p : Pending). all_opened p.inputs k.entries) same)
    ∙ ap (λ (xs : List Item). make k.shape (all_opened o.inputs k.entries) xs outs journal) (slots ∙ ap (λ (p : Pending). all_opened p.inputs k.slots) same)
    ∙ ap (λ (os : List Pending). make k.shape (all_opened o.inputs k.entries) (all_opened o.inputs k.slots) os journal) more
    ∙ ap (λ (js : List Entry). make k.shape (all_opened o.inputs k.entries) (all_opened o.inputs k.slots) (k.outs ++ o ∷ []) js) lines

-- the keep after it is sound
pub sound_opened : OpeningsKeep → OpeningsKeepRoom → OpeningsAreSeen → (k l : Kept) (c : Counts) (o : Pending) (new : Store) (outs : List (ℕ × Pending)) (places planned : ℕ) → l ≡ kept_with_out k o → IsKept k → IsRoomOf k c → IsChoice (view_of k) o → length k.journal + length k.outs < k.limits.launches → Reserves c new.hold.room o.unit → AreNamed outs → length l.journal + length l.outs ≤ places → planned ≡ plan_bytes k.shape k.width → AreBounds k → IsSoundKeep l new outs places planned
sound_opened keep room seen k l c o new outs places planned is s r choice few reserves named spare plan b =
    record {
      kept = subst IsKept (sym is) (keep k o s choice few);
      room = subst (λ (n : Kept). IsRoomOf n new.hold.room) (sym is) (room k o c new.hold.room s r reserves (seen k o s choice few));
      named = named;
      spare = spare;
      bytes = plan ∙ ap (λ (n : Kept). plan_bytes n.shape n.width) (sym is);
      few = bounds.few;
      next = bounds.next;
    }
  where
    bounds : AreBounds l
    bounds = subst AreBounds (sym is) (record { few = b.few; next = b.next })
