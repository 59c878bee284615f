use Rattle.std.proofs.Common.{◌≡◌, Some, length, refl, sym, ap, subst, arith}
use Rattle.std.specs.Prelude.{slice_get, slice_set}
use Rattle.wg_slots.specs.SlotsOf.{SlotsOf, slots_at, waiting_of, HoldsFirst}
use Rattle.wg_slots.specs.Kept.{Kept, IsSound, shown}
use Rattle.wg_slots.specs.Layout.{IsLaid}
use Rattle.wg_slots.proofs.Rows.{unit_there, unit_shown, laid_set, both_at, others_stay}
use Rattle.wg_slots.proofs.Units.{holds, sound_hold, waiting_length}
use Rattle.wg_slots.proofs.slots.Slots.hold.Goals as goal

pub hold-requires : goal.hold-requires
hold-requires c =
    let k = c.index_mut-slots.result.now in
    let ks = c.self.inside.units.items in
    let a = c.self.inside.block.items in
    let u = c.args.unit in
    let old = c.args.self.now in
    let there : slice_get ks u ≡ Some k = unit_there old a ks u k c.self.view_is c.requires.unit c.index_mut-slots.ensures.value in
    let sound : IsSound k = c.self.invariant.sound u k there in
    let is : slots_at old u ≡ shown a k = unit_shown old a ks u k c.self.view_is there in
    let same = waiting_length a k sound in
    let seen = ap (λ (s : SlotsOf). length (waiting_of s)) is in
    let some = c.requires.waits in
    omega arith

pub invariant_of-self : goal.invariant_of-self
invariant_of-self c =
    let k = c.index_mut-slots.result.now in
    let ks = c.self.inside.units.items in
    let a = c.self.inside.block.items in
    let u = c.args.unit in
    let old = c.args.self.now in
    let there : slice_get ks u ≡ Some k = unit_there old a ks u k c.self.view_is c.requires.unit c.index_mut-slots.ensures.value in
    let sound : IsSound k = c.self.invariant.sound u k there in
    let is : slots_at old u ≡ shown a k = unit_shown old a ks u k c.self.view_is there in
    subst (λ (n : Kept). IsLaid (slice_set ks u n) (length a)) (sym c.hold.ensures.same)
    (laid_set ks (length a) u k c.hold.new.self.waiting k.numbers c.self.invariant there (sound_hold k c.hold.new.self.waiting c.hold.result sound c.hold.ensures.waited))

pub returns-clause-holds : goal.returns-clause-holds
returns-clause-holds c =
    let k = c.index_mut-slots.result.now in
    let ks = c.self.inside.units.items in
    let a = c.self.inside.block.items in
    let u = c.args.unit in
    let old = c.args.self.now in
    let there : slice_get ks u ≡ Some k = unit_there old a ks u k c.self.view_is c.requires.unit c.index_mut-slots.ensures.value in
    let sound : IsSound k = c.self.invariant.sound u k there in
    let is : slots_at old u ≡ shown a k = unit_shown old a ks u k c.self.view_is there in
    both_at (λ (x y : SlotsOf). HoldsFirst x y c.hold.result) old a a ks u k c.hold.new.self c.self.view_is there
    (subst (λ (n : Kept). HoldsFirst (shown a k) (shown a n) c.hold.result) (sym c.hold.ensures.same) (holds a k c.hold.new.self.waiting c.hold.result sound c.hold.ensures.waited))

pub returns-clause-others : goal.returns-clause-others
returns-clause-others c =
    let k = c.index_mut-slots.result.now in
    let ks = c.self.inside.units.items in
    let a = c.self.inside.block.items in
    let u = c.args.unit in
    let old = c.args.self.now in
    let there : slice_get ks u ≡ Some k = unit_there old a ks u k c.self.view_is c.requires.unit c.index_mut-slots.ensures.value in
    let sound : IsSound k = c.self.invariant.sound u k there in
    let is : slots_at old u ≡ shown a k = unit_shown old a ks u k c.self.view_is there in
    others_stay old a a ks u k c.hold.new.self c.self.view_is there (λ j m ne e. refl)
