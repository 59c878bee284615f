use Rattle.std.proofs.Common.{◌≡◌, ◌∙◌, Some, length, sym, ap, arith}
use Rattle.std.specs.Prelude.{slice_get}
use Rattle.wg_slots.specs.SlotsOf.{SlotsOf, slots_at, waiting_of}
use Rattle.wg_slots.specs.Kept.{IsSound, shown}
use Rattle.wg_slots.proofs.Rows.{unit_there, unit_shown}
use Rattle.wg_slots.proofs.Units.{waiting_length, sound_few}
use Rattle.wg_slots.proofs.slots.Slots.waiting.Goals as goal

pub waiting-requires : goal.waiting-requires
waiting-requires c =
    let k = c.index.result.now in
    let ks = c.self.inside.units.items in
    let a = c.self.inside.block.items in
    let u = c.args.unit in
    let old = c.args.self.now in
    let there : slice_get ks u ≡ Some k = unit_there old a ks u k c.self.view_is c.requires c.index.ensures in
    let sound : IsSound k = c.self.invariant.sound u k there in
    let is : slots_at old u ≡ shown a k = unit_shown old a ks u k c.self.view_is there in
    let few = sound_few k sound in
    let used = sound.used in
    omega arith

pub returns : goal.returns
returns c =
    let k = c.index.result.now in
    let ks = c.self.inside.units.items in
    let a = c.self.inside.block.items in
    let u = c.args.unit in
    let old = c.args.self.now in
    let there : slice_get ks u ≡ Some k = unit_there old a ks u k c.self.view_is c.requires c.index.ensures in
    let sound : IsSound k = c.self.invariant.sound u k there in
    let is : slots_at old u ≡ shown a k = unit_shown old a ks u k c.self.view_is there in
    c.waiting.ensures ∙ sym (ap (λ (s : SlotsOf). length (waiting_of s)) is ∙ waiting_length a k sound)
