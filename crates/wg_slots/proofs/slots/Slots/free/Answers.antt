use Rattle.std.proofs.Common.{◌≡◌, ◌∙◌, Some, sym, ap}
use Rattle.std.specs.Prelude.{slice_get}
use Rattle.wg_slots.specs.SlotsOf.{slots_at, free_of}
use Rattle.wg_slots.specs.Kept.{IsSound, shown}
use Rattle.wg_slots.proofs.Rows.{unit_there, unit_shown}
use Rattle.wg_slots.proofs.Units.{free_is}
use Rattle.wg_slots.proofs.slots.Slots.free.Goals as goal

pub returns : goal.returns
returns c =
    let k = c.index.result.now in
    let ks = c.self.inside.units.items in
    let a = c.self.inside.block.items in
    let u = c.args.unit in
    let old = c.args.self.now in
    let there : slice_get ks u ≡ Some k = unit_there old a ks u k c.self.view_is c.requires c.index.ensures in
    let sound : IsSound k = c.self.invariant.sound u k there in
    let is : slots_at old u ≡ shown a k = unit_shown old a ks u k c.self.view_is there in
    free_is a k c.free.result c.free.ensures ∙ sym (ap free_of is)
