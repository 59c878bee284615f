use Rattle.std.proofs.Common.{length, ap, sym, ◌∙◌}
use Rattle.wg_room.proofs.Rows.{row_at, releases_exact}
use Rattle.wg_room.proofs.room.Room.release.Goals as goal

pub returns : goal.returns
returns c =
    let within = rw (← c.self.view_is) at c.requires.unit in
    let row = row_at _ c.args.unit c.row.result.now c.self.invariant within c.row.ensures in
    let takes = rw c.deref_mut.ensures.value at c.release_all.ensures in
    rw (← c.self.view_is)
    (releases_exact _ c.args.unit c.row.result.now c.release_all.new.reserved c.self.inside.reserved.len row
    (sym c.deref_mut.ensures.len ∙ ap length c.deref_mut.ensures.value)
    (c.release_all.auto.reserved ∙ ap length c.deref_mut.ensures.value)
    takes)
