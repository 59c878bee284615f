use Rattle.std.proofs.Common.{◌≡◌, ◌∙◌, Some, length, sym, ap, subst, arith}
use Rattle.std.specs.Prelude.{IsSome, slice_get}
use Rattle.wg_slots.specs.SlotsOf.{SlotsOf, slots_at, record_at, waiting_of}
use Rattle.wg_slots.specs.Kept.{IsSound, shown}
use Rattle.wg_slots.proofs.Records.{waits_at}
use Rattle.wg_slots.proofs.Rows.{unit_there, unit_shown}
use Rattle.wg_slots.proofs.Units.{waiting_length, waiting_get, record_there}
use Rattle.wg_slots.proofs.slots.Slots.front.Goals as goal

pub slot_at-slot-requires : goal.slot_at-slot-requires
slot_at-slot-requires c =
    let k = c.index.result.now in
    let ks = c.self.inside.units.items in
    let a = c.self.inside.block.items in
    let u = c.args.unit in
    let old = c.args.self.now in
    let there : slice_get ks u ≡ Some k = unit_there old a ks u k c.self.view_is c.requires.unit c.index.ensures in
    let sound : IsSound k = c.self.invariant.sound u k there in
    let is : slots_at old u ≡ shown a k = unit_shown old a ks u k c.self.view_is there in
    let same = waiting_length a k sound in
    let seen = ap (λ (s : SlotsOf). length (waiting_of s)) is in
    let some = c.requires.place in
    omega arith

pub seen-requires-clause-there : goal.seen-requires-clause-there
seen-requires-clause-there c =
    let k = c.index.result.now in
    let ks = c.self.inside.units.items in
    let a = c.self.inside.block.items in
    let u = c.args.unit in
    let old = c.args.self.now in
    let there : slice_get ks u ≡ Some k = unit_there old a ks u k c.self.view_is c.requires.unit c.index.ensures in
    let sound : IsSound k = c.self.invariant.sound u k there in
    let is : slots_at old u ≡ shown a k = unit_shown old a ks u k c.self.view_is there in
    subst (λ (s : SlotsOf). IsSome (record_at s c.slot_at-slot.result)) (sym is) (record_there a k c.slot_at-slot.result (sound.there c.slot_at-slot.result (waits_at k.waiting c.args.place c.slot_at-slot.result c.slot_at-slot.ensures)))

pub returns-clause-waits : goal.returns-clause-waits
returns-clause-waits c =
    let k = c.index.result.now in
    let ks = c.self.inside.units.items in
    let a = c.self.inside.block.items in
    let u = c.args.unit in
    let old = c.args.self.now in
    let there : slice_get ks u ≡ Some k = unit_there old a ks u k c.self.view_is c.requires.unit c.index.ensures in
    let sound : IsSound k = c.self.invariant.sound u k there in
    let is : slots_at old u ≡ shown a k = unit_shown old a ks u k c.self.view_is there in
    ap (λ (s : SlotsOf). slice_get (waiting_of s) c.args.place) is
    ∙ (waiting_get a k c.args.place c.slot_at-slot.result sound c.slot_at-slot.ensures
    ∙ (sym (ap (λ (s : SlotsOf). record_at s c.slot_at-slot.result) is) ∙ c.seen.ensures))

pub returns-clause-slot : goal.returns-clause-slot
returns-clause-slot c =
    let k = c.index.result.now in
    let ks = c.self.inside.units.items in
    let a = c.self.inside.block.items in
    let u = c.args.unit in
    let old = c.args.self.now in
    let there : slice_get ks u ≡ Some k = unit_there old a ks u k c.self.view_is c.requires.unit c.index.ensures in
    let sound : IsSound k = c.self.invariant.sound u k there in
    let is : slots_at old u ≡ shown a k = unit_shown old a ks u k c.self.view_is there in
    ap (λ (s : SlotsOf). slice_get s.places c.args.place) is ∙ c.slot_at-slot.ensures
