use Rattle.std.proofs.Common.{◌≡◌, ◌∙◌, ℕ, Some, length, sym, ap, subst, arith}
use Rattle.std.specs.Prelude.{IsSome, slice_get}
use Rattle.wg_slots.specs.SlotsOf.{SlotsOf, slots_at, record_at, waiting_of, Writes}
use Rattle.wg_slots.specs.Kept.{IsSound, shown}
use Rattle.wg_slots.proofs.Records.{waits_at, same_some}
use Rattle.wg_slots.proofs.Rows.{unit_there, unit_shown}
use Rattle.wg_slots.proofs.Units.{waiting_length, record_there}
use Rattle.wg_slots.proofs.slots.Slots.write_front.Goals as goal

pub slot_at-first-requires : goal.slot_at-first-requires
slot_at-first-requires c =
    let k = c.index.result.now in
    let ks = c.self.inside.units.items in
    let a = c.self.inside.block.items in
    let u = c.args.unit in
    let old = c.args.self.now in
    let there : slice_get ks u ≡ Some k = unit_there old a ks u k c.self.view_is c.requires.unit c.index.ensures in
    let sound : IsSound k = c.self.invariant.sound u k there in
    let is : slots_at old u ≡ shown a k = unit_shown old a ks u k c.self.view_is there in
    let same = waiting_length a k sound in
    let seen = ap (λ (s : SlotsOf). length (waiting_of s)) is in
    let some = c.requires.waits in
    omega arith

pub write-requires-clause-there : goal.write-requires-clause-there
write-requires-clause-there c =
    let k = c.index.result.now in
    let ks = c.self.inside.units.items in
    let a = c.self.inside.block.items in
    let u = c.args.unit in
    let old = c.args.self.now in
    let there : slice_get ks u ≡ Some k = unit_there old a ks u k c.self.view_is c.requires.unit c.index.ensures in
    let sound : IsSound k = c.self.invariant.sound u k there in
    let is : slots_at old u ≡ shown a k = unit_shown old a ks u k c.self.view_is there in
    subst (λ (s : SlotsOf). IsSome (record_at s c.slot_at-first.result)) (sym is) (record_there a k c.slot_at-first.result (sound.there c.slot_at-first.result (waits_at k.waiting 0 c.slot_at-first.result c.slot_at-first.ensures)))

pub returns-clause-writes : goal.returns-clause-writes
returns-clause-writes c = λ slot e.
    (let k = c.index.result.now in
    let ks = c.self.inside.units.items in
    let a = c.self.inside.block.items in
    let u = c.args.unit in
    let old = c.args.self.now in
    let there : slice_get ks u ≡ Some k = unit_there old a ks u k c.self.view_is c.requires.unit c.index.ensures in
    let sound : IsSound k = c.self.invariant.sound u k there in
    let is : slots_at old u ≡ shown a k = unit_shown old a ks u k c.self.view_is there in
    let first : slice_get (slots_at old u).places 0 ≡ Some c.slot_at-first.result = ap (λ (s : SlotsOf). slice_get s.places 0) is ∙ c.slot_at-first.ensures in
    subst (λ (s : ℕ). Writes (slots_at old u) (slots_at c.write.new.self u) s c.args.words.now) (same_some c.slot_at-first.result slot (sym first ∙ e)) c.write.ensures.writes)
