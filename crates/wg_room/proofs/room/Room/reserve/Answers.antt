use Rattle.std.proofs.Common.{length, ap, sym, ◌∙◌}
use Rattle.wg_room.proofs.Rows.{row_at, reserves_exact, room_fits}
use Rattle.wg_room.proofs.room.Room.reserve.Goals as goal

pub reserve_all-requires-clause-fits : goal.reserve_all-requires-clause-fits
reserve_all-requires-clause-fits c =
    let within = rw (← c.self.view_is) at c.requires.unit in
    let room = rw (← c.self.view_is) at c.requires.room in
    let row = row_at _ c.args.unit c.row.result.now c.self.invariant within c.row.ensures in
    rw c.deref_mut.ensures.value (room_fits _ c.args.unit c.row.result.now c.self.invariant row room)

pub returns : goal.returns
returns c =
    let within = rw (← c.self.view_is) at c.requires.unit in
    let row = row_at _ c.args.unit c.row.result.now c.self.invariant within c.row.ensures in
    let adds = rw c.deref_mut.ensures.value at c.reserve_all.ensures in
    rw (← c.self.view_is)
    (reserves_exact _ c.args.unit c.row.result.now c.reserve_all.new.reserved c.self.inside.reserved.len row
    (sym c.deref_mut.ensures.len ∙ ap length c.deref_mut.ensures.value)
    (c.reserve_all.auto.reserved ∙ ap length c.deref_mut.ensures.value)
    adds)
