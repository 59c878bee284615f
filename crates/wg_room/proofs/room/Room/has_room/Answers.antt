use Rattle.std.proofs.Common.{◌↔◌, IsTrue, subst}
use Rattle.wg_room.specs.Counts.{Counts, HasSlotsLeft}
use Rattle.wg_room.proofs.Rows.{row_at, room_exact}
use Rattle.wg_room.proofs.room.Room.has_room.Goals as goal

pub returns : goal.returns
returns c =
    let within = rw (← c.self.view_is) at c.requires in
    let tells = rw (c.deref.ensures.value, c.deref-2.ensures.value, c.deref-3.ensures.value) at c.all_fit.ensures in
    subst (λ (w : Counts). IsTrue c.all_fit.result ↔ HasSlotsLeft w c.args.unit) c.self.view_is
    (room_exact _ c.args.unit c.row-needs.result.now c.all_fit.result (row_at _ c.args.unit c.row-needs.result.now c.self.invariant within c.row-needs.ensures) tells)
