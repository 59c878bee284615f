use Rattle.std.proofs.Common.{length, refl}
use Rattle.std.proofs.lemmas.Option.{slice_get_past, slice_get_read}
use Rattle.wg_entries.proofs.Taking.{unit_none, unit_some}
use Rattle.wg_entries.proofs.cursor.EntryCursor.first_unit.Goals as goal

pub returns-in-None : goal.returns-in-None
returns-in-None c =
    unit_none c.self.inside.items.items c.args.self.now c.deref.result.now c.self.inside.place c.self.view_is c.deref.ensures.value c.self.invariant (slice_get_past c.deref.result.now c.self.inside.place c.in-None.ensures.lookup.3)

pub returns-in-Some : goal.returns-in-Some
returns-in-Some c =
    let x = c.in-Some.item.now in
    unit_some c.self.inside.items.items c.args.self.now c.deref.result.now c.self.inside.place x c.self.view_is c.deref.ensures.value c.self.invariant (slice_get_read c.deref.result.now (length c.deref.result.now) c.self.inside.place x refl c.in-Some.ensures.lookup.3.0 c.in-Some.ensures.lookup.1)
